-- A whole day (document 02, Q-12). What is sent, scheduled and seen is in `days`; an observer is 0 for the server and u for relay u. The relays and the server
-- of a day are the code's: Observers of days names, call by call, the definitions that the promises of `open`, `count`, `advance` and `give` name (rounds).
use Rattle.std.specs.Prelude.{ℕ, ◌-◌, ◌<◌, ◌≡◌, Bool, true, List, [], map, T, ℤ}
use Rattle.refusals.specs.Codes.{accepted}
use Rattle.lists.specs.Lists.{tab, join_to}
use Rattle.matrices.specs.Linear.{Vector}
use Rattle.secrecy.specs.Model.{Pool, relay_sum, known, view}
use Rattle.secrecy.specs.Leaks.{Agree, Agrees}
use Rattle.plans.specs.declared.Plan.{Plan}
use Rattle.vetting.specs.Pools.{pool_of}
use Rattle.vetting.specs.Walk.{InWalk}
use Rattle.vetting.specs.Vet.{vet_code}
use Rattle.vetting.specs.Joint.{relay_pair, joint_code}
use Rattle.rounds.specs.declared.RelayRound.{RelayRound}
use Rattle.rounds.specs.declared.ServerRound.{ServerRound}
use Rattle.rounds.specs.Ledger.{Frame}
use Rattle.rounds.specs.Rounds.{one_of, open_code, open_round, server_round, server_give_code, server_sums, server_run, server_answers}
use Rattle.rounds.specs.Relays.{Event, relay_answers, relay_run, relay_opened}
use Rattle.signed.specs.Caps.{cap_fits}
use Rattle.signed.specs.SignedLeaks.{SignedAgree, SignedAgrees}
use Rattle.days.specs.Runs.{Run, Lengths, key_symbols, run_symbols, source_key, sent_in, uploads_of, DaysAgree, SignedDaysAgree}
use Rattle.days.specs.Machines.{Entry, replies, state_after, outline_of}
use Rattle.days.specs.Observers.{RelayCall, opens, event, begins, counts, gives, relay_machine, server_machine, machine_of}
use Rattle.days.specs.Days.{DayView, day_view, signed_day_view, JointDay, joint_day, signed_joint_day, runs_showing, TestFor}
use Rattle.demands.specs.JointRelays.{Few}

module _ (P : Plan) (K : List ℕ) where
  abbrev pool : Pool
  pool = pool_of P K

  -- "For one accepted plan and any run of rounds, each with a key block of its own, let two days' readings, none of them refused with 15, agree on one gang's
  -- members in each round and, for the desk, on each round's total modulo the prime. The number of runs of key blocks that give a stated day's sight is then
  -- equal."; "Both days follow one list of openings, frames, resent frames, moves on and sums asked for, fixed without the readings; a frame carries its
  -- sender's upload (for the desk, gateway sum) of its round, resent unchanged.": any schedule. It is so of every test of the view, and that a view is a stated
  -- one is such a test (`StatedViews`). Of each round is seen, besides what comes, what the coalition knows; or all that is sent in it. First of readings that
  -- are any symbols, as demand 3 is:
  abbrev pub EqualDays : Type 0
  EqualDays =
      accepted ≡ vet_code P K → (g w : ℕ) → InWalk P g w
      → (run : Run) → Lengths run
      → (schedule : List (Entry (machine_of pool w).Call)) (test : DayView (machine_of pool w) → Bool)
      → (W W' : ℕ → List ℕ) → DaysAgree pool run (Agrees pool g w) W W'
      → (runs_showing pool run (day_view pool run w schedule (known pool g) W) test
      ≡ runs_showing pool run (day_view pool run w schedule (known pool g) W') test)
      × (runs_showing pool run (day_view pool run w schedule (view pool g w) W) test
      ≡ runs_showing pool run (day_view pool run w schedule (view pool g w) W') test)

  -- then of readings as they are signed, in whatever cap 16 doesn't refuse; a frame carries what `signed_upload` writes
  abbrev pub SignedEqualDays : Type 0
  SignedEqualDays =
      (m : ℕ) → cap_fits P m ≡ true
      → accepted ≡ vet_code P K → (g w : ℕ) → InWalk P g w
      → (run : Run) → Lengths run
      → (schedule : List (Entry (machine_of pool w).Call)) (test : DayView (machine_of pool w) → Bool)
      → (R R' : ℕ → List ℤ) → SignedDaysAgree pool run m (SignedAgrees pool g w) R R'
      → (runs_showing pool run (signed_day_view P K run w schedule (known pool g) R) test
      ≡ runs_showing pool run (signed_day_view P K run w schedule (known pool g) R') test)
      × (runs_showing pool run (signed_day_view P K run w schedule (view pool g w) R) test
      ≡ runs_showing pool run (signed_day_view P K run w schedule (view pool g w) R') test)

  -- of relays that share a cabinet (Q-9): whoever opens it sees both days; the readings agree on the coalition's members alone
  abbrev pub JointEqualDays : Type 0
  JointEqualDays =
      (a b : ℕ) → accepted ≡ joint_code P K (relay_pair a b) → (g : ℕ) → Few P K g
      → (run : Run) → Lengths run
      → (first second : List (Entry RelayCall))
      → (W W' : ℕ → List ℕ) → DaysAgree pool run (Agree pool g) W W' → (test : JointDay pool a b → Bool)
      → runs_showing pool run (joint_day pool run a b first second g W) test ≡ runs_showing pool run (joint_day pool run a b first second g W') test

  abbrev pub SignedJointEqualDays : Type 0
  SignedJointEqualDays =
      (m : ℕ) → cap_fits P m ≡ true → (a b : ℕ) → accepted ≡ joint_code P K (relay_pair a b) → (g : ℕ) → Few P K g
      → (run : Run) → Lengths run
      → (first second : List (Entry RelayCall))
      → (R R' : ℕ → List ℤ) → SignedDaysAgree pool run m (SignedAgree pool g) R R' → (test : JointDay pool a b → Bool)
      → runs_showing pool run (signed_joint_day P K run a b first second g R) test
      ≡ runs_showing pool run (signed_joint_day P K run a b first second g R') test

  -- "The sight now includes the order of frames, sender and round numbers, resent frames and every refusal."; "None of these may depend on a reading inside its
  -- cap.": they are the same under all readings inside any cap, and under all runs of source keys, of every plan with a q other than 0. The statement asks for
  -- no cap: outside of it `signed_upload` writes nothing, and a frame carries what it would write
  abbrev pub OutlineFixed : Type 0
  OutlineFixed =
      0 < P.q → (g w : ℕ) (run : Run) (schedule : List (Entry (machine_of pool w).Call)) (W W' : ℕ → List ℕ) (N N' : List ℕ)
      → outline_of (machine_of pool w) (day_view pool run w schedule (known pool g) W N).1
      ≡ outline_of (machine_of pool w) (day_view pool run w schedule (known pool g) W' N').1

  abbrev pub SignedOutlineFixed : Type 0
  SignedOutlineFixed =
      0 < P.q → (g w : ℕ) (run : Run) (schedule : List (Entry (machine_of pool w).Call)) (R R' : ℕ → List ℤ) (N N' : List ℕ)
      → outline_of (machine_of pool w) (signed_day_view P K run w schedule (known pool g) R N).1
      ≡ outline_of (machine_of pool w) (signed_day_view P K run w schedule (known pool g) R' N').1

-- ---- that the words above mean what they should

module _ (P : Pool) where
  -- the machines are the code's: events of a relay's round, one after the other, are `relay_answers` and `relay_run`, of which NextRound speaks, and frames into
  -- the server's `server_answers` and `server_run`, as in `CallsAreRuns` (Demands); an opening and a giving are what `open` and `give` promise (rounds)
  abbrev pub RelayIsCode : Type 0
  RelayIsCode =
      (u : ℕ) (R : RelayRound)
      → ((events : List Event)
      → (replies (relay_machine P u) R (map event events) ≡ relay_answers R events)
      × (state_after (relay_machine P u) R (map event events) ≡ relay_run R events))
      × ((number L : ℕ)
      → ((relay_machine P u).reply R (opens number L) ≡ (open_code P.clusters P.size P.q L (one_of P.clusters u), []))
      × ((relay_machine P u).next R (opens number L) ≡ relay_opened P.clusters P.size P.q L u number))

  abbrev pub ServerIsCode : Type 0
  ServerIsCode =
      (R : ServerRound)
      → ((frames : List Frame)
      → (replies (server_machine P) R (map counts frames) ≡ map (λ c. (c, [])) (server_answers R frames))
      × (state_after (server_machine P) R (map counts frames) ≡ server_run R frames))
      × ((out : List ℕ)
      → ((server_machine P).reply R (gives out) ≡ (server_give_code R out, server_sums R out)) × ((server_machine P).next R (gives out) ≡ R))
      × ((number L : ℕ)
      → ((server_machine P).reply R (begins number L) ≡ (open_code P.clusters P.size P.q L true, []))
      × ((server_machine P).next R (begins number L) ≡ server_round (open_round P.clusters P.size P.q L true number)))

  -- "(for the desk, gateway sum)": what a relay, from 1, sends to the server in a round is (26), its sum of the round's uploads
  abbrev pub SumsAreSent : Type 0
  SumsAreSent =
      (run : Run) (W : ℕ → List ℕ) (N : List ℕ) (k s : ℕ) → k < run.rounds → T (one_of P.clusters s)
      → sent_in P run (uploads_of P run W N) 0 k s ≡ tab (run.length k) (relay_sum P (run.length k) (W k) (source_key P run N k) (s - 1))

  -- "a stated day's sight": for each there is a test that passes it and no other
  abbrev pub StatedViews : Type 0
  StatedViews = (w : ℕ) (s : DayView (machine_of P w)) → (test : DayView (machine_of P w) → Bool) × TestFor s test

  abbrev pub StatedJointViews : Type 0
  StatedJointViews = (a b : ℕ) (s : JointDay P a b) → (test : JointDay P a b → Bool) × TestFor s test

  -- "runs of key blocks": source keys, one of its own for each round, are one list of symbols, and each such list is one run of them
  abbrev pub RunsAreLists : Type 0
  RunsAreLists =
      (run : Run)
      → ((B : ℕ → List ℕ) → ((k : ℕ) → k < run.rounds → Vector P.q (key_symbols P run k) (B k))
      → Vector P.q (run_symbols P run) (join_to run.rounds B) × ((k : ℕ) → k < run.rounds → source_key P run (join_to run.rounds B) k ≡ B k))
      × ((N : List ℕ) → Vector P.q (run_symbols P run) N
      → ((k : ℕ) → k < run.rounds → Vector P.q (key_symbols P run k) (source_key P run N k)) × (join_to run.rounds (source_key P run N) ≡ N))
