-- Demands 2 and 3, sentence by sentence; demand 1 is the promises. A statement is a type, and proofs/Demands has a proof of each. The promises name the same
-- definitions: the vet's answer is `vet_code`, an upload `upload_of`, a round after some calls `run_of` or `relay_run`, and so on. In quotation marks is
-- the papers', letter by letter: the customer's demands, and document 01. The papers' meter, gateway and desk are our user, relay and server; gang, watcher and
-- sight are coalition, observer and view; key block and key tape are source key and key stream.
use Rattle.std.specs.Prelude.{ℕ, suc, ◌+◌, ◌-◌, ◌*◌, ◌%◌, ◌≤◌, ◌<◌, ◌≡◌, ◌↔◌, Bool, true, List, [], ◌++◌, length, take, drop}
use Rattle.refusals.specs.Codes.{accepted, first_of, if_accepted}
use Rattle.lists.specs.Lists.{at, tab}
use Rattle.lists.specs.Sums.{sum_to}
use Rattle.secrecy.specs.Model.{Pool, reading, key, upload, relay_sum, total, ZeroSum, view}
use Rattle.secrecy.specs.Leaks.{keys_showing, Symbols, Agrees, PairLeak, longest}
use Rattle.plans.specs.declared.Plan.{Plan}
use Rattle.plans.specs.Plans.{users_of, max_length}
use Rattle.vetting.specs.Pools.{pool_of}
use Rattle.vetting.specs.declared.Pair.{Pair}
use Rattle.vetting.specs.Walk.{pairs, InWalk, First}
use Rattle.vetting.specs.Vet.{other_checks, vet_code}
use Rattle.keys.specs.Keys.{keys_of}
use Rattle.masking.specs.Blocks.{upload_of, block_code, unmask_after}
use Rattle.rounds.specs.declared.Round.{Round}
use Rattle.rounds.specs.declared.RelayRound.{RelayRound}
use Rattle.rounds.specs.declared.ServerRound.{ServerRound}
use Rattle.rounds.specs.Ledger.{Frame, frames_of, Heard}
use Rattle.rounds.specs.Rounds.{one_of, open_checks, opened, state_checks, after, give_code, sums_after, answers_of, run_of}
use Rattle.rounds.specs.Rounds.{ledger_answers, ledger_of, ledger_give_code, ledger_sums, server_round, server_run, server_answers}
use Rattle.rounds.specs.Relays.{relay_round, nothing, relay_give_code, relay_sums, Event, relay_run, log_of}
use Rattle.records.specs.Records.{record_of, plan_read, table_read, start, read_code, write_code}
use Rattle.streams.specs.Streams.{drawn, position_after_all, symbols_drawn, places_drawn}

-- ---- demand 2: a plan P with key table K, blocks of L symbols, readings W, a source key (document 01: key block) N

module _ (P : Plan) (K : List ℕ) (L : ℕ) (W N : List ℕ) where
  abbrev pub pool : Pool
  pool = pool_of P K

  -- user i's L symbols of the individual keys
  abbrev key_of : ℕ → List ℕ
  key_of i = take L (drop (i * L) (keys_of P K L N))

  -- "Keys, uploads, gateway sums and the total equal document 000's equations modulo the prime." The keys, (22):
  abbrev pub KeysAre : Type 0
  KeysAre = (i : ℕ) → i < users_of P → key_of i ≡ tab L (key pool N i)

  -- the uploads, (25):
  abbrev pub UploadsAre : Type 0
  UploadsAre =
      0 < P.q → (i : ℕ) → i < users_of P
      → upload_of P.q L (tab L (reading L W i)) (key_of i) ≡ tab L (upload pool L W N i)

  -- rounds, opened with the plan's counts, where the opening is not refused
  module _ (round : ℕ) where
    abbrev pub opening : Round
    opening = opened P.clusters P.size P.q L round

    abbrev pub opens : Bool → Type 0
    opens known = accepted ≡ first_of (open_checks P.clusters P.size P.q L known)

    -- the block of user v, from 1, of cluster u, from 0
    abbrev pub sent : ℕ → ℕ → List ℕ
    sent u v = tab L (upload pool L W N (u * P.size + (v - 1)))

    -- relay u, from 0, opened in round `first`
    abbrev pub relay_opening : ℕ → ℕ → RelayRound
    relay_opening u first = relay_round (suc u) (opened P.clusters P.size P.q L first) nothing

    -- what it counted of this round in the course of some events
    abbrev pub counted_of : ℕ → ℕ → List Event → List Frame
    counted_of u first events = frames_of round (log_of (relay_opening u first) events).counted

    -- Relay u is opened in some round, and any events come, in any order, until it is in this one. Of the frames of this round that it counted, each carries
    -- its sender's upload, and everyone's is among them. Nothing is asked of the frames that it did not count.
    pub record Reached (u first : ℕ) (events : List Event) : Type 0 where
      pub reached : (log_of (relay_opening u first) events).number ≡ round
      pub uploads : Heard P.size (sent u) (counted_of u first events)

    -- the relay sums, (26), as the relay gives them out into any buffer of L symbols:
    abbrev pub RelaySumsAre : Type 0
    RelaySumsAre =
        (u first : ℕ) (events : List Event) → opens (one_of P.clusters (suc u)) → Reached u first events
        → (out : List ℕ) → length out ≡ L
        → (relay_give_code (relay_run (relay_opening u first) events) out ≡ accepted)
        × (relay_sums (relay_run (relay_opening u first) events) out ≡ tab L (relay_sum pool L W N u))

    -- what relay s, from 1, holds after its events
    abbrev pub relayed : (ℕ → ℕ) → (ℕ → List Event) → ℕ → List ℕ
    relayed first events s = take L (relay_run (relay_opening (s - 1) (first (s - 1))) (events (s - 1))).round.sums

    -- each relay reaches this round so, and the server, opened in it, gets any frames, in any order; those that it counted carry what the relays hold, and
    -- every relay's is among them
    pub record AllHeard (first : ℕ → ℕ) (events : ℕ → List Event) (frames : List Frame) : Type 0 where
      pub relays : (u : ℕ) → u < P.clusters → Reached u (first u) (events u)
      pub sums : Heard P.clusters (relayed first events) (ledger_of P.clusters true opening [] frames)

    -- after these frames the server gives f 0, f 1, .. out, into any buffer of L symbols
    abbrev pub gives : List Frame → (ℕ → ℕ) → Type 0
    gives frames f =
        (out : List ℕ) → length out ≡ L
        → (give_code P.clusters true (run_of P.clusters true opening frames) out ≡ accepted)
        × (sums_after P.clusters true (run_of P.clusters true opening frames) out ≡ tab L f)

    -- the total, the sum of the relay sums, whatever the table:
    abbrev pub TotalIs : Type 0
    TotalIs =
        opens true → (first : ℕ → ℕ) (events : ℕ → List Event) (frames : List Frame) → AllHeard first events frames
        → gives frames (λ p. sum_to P.clusters (λ u. relay_sum pool L W N u p) % P.q)

    -- "When one key block under a zero-sum table masks each meter once, the total is the sum of the readings modulo the prime, in whatever order frames arrive"
    abbrev pub TotalIsSum : Type 0
    TotalIsSum =
        ZeroSum pool → opens true
        → (first : ℕ → ℕ) (events : ℕ → List Event) (frames : List Frame) → AllHeard first events frames
        → gives frames (total pool L W)

-- the key table of a plan that the vet accepts is a zero-sum table
abbrev pub AcceptedIsZeroSum : Type 0
AcceptedIsZeroSum = (P : Plan) (K : List ℕ) → accepted ≡ vet_code P K → ZeroSum (pool_of P K)

-- "taking a key off its upload gives the reading back." Where a block W and a key Z are uploaded, taking the key off what is sent is not refused, and writes W:
abbrev pub Unmasks : Type 0
Unmasks =
    (q L : ℕ) (W Z out back : List ℕ) → accepted ≡ block_code q L W Z out → length back ≡ L
    → (accepted ≡ block_code q L (upload_of q L W Z) Z back) × (unmask_after q L (upload_of q L W Z) Z back ≡ W)

-- ---- demand 3: a plan P with key table K

module _ (P : Plan) (K : List ℕ) where
  -- "Take any accepted plan, any gang of meters up to its limit, any watcher, which is one gateway or the desk, any block length and any sight. Every two sets
  -- of readings that agree on the gang's members and, where the watcher is the desk, on the total modulo the prime, have the same number of key blocks that
  -- show the watcher that sight in a round."
  abbrev pub EqualNumbers : Type 0
  EqualNumbers =
      accepted ≡ vet_code P K
      → (g w : ℕ) → InWalk P g w
      → (L : ℕ) → 1 ≤ L → L ≤ longest
      → (W W' : List ℕ) → Symbols P.q (users_of P) L W → Symbols P.q (users_of P) L W' → Agrees (pool_of P K) g w L W W'
      → (s : List ℕ)
      → keys_showing P.q P.rate (view (pool_of P K) g w) L W s ≡ keys_showing P.q P.rate (view (pool_of P K) g w) L W' s

  -- "A plan that passes the other checks is refused as leaking exactly when, for some gang, watcher and block length, some such pair of sets has unequal
  -- numbers for some sight"
  abbrev pub RefusedIffLeaks : Type 0
  RefusedIffLeaks =
      accepted ≡ first_of (other_checks P K)
      → ◌≡◌ {A = ℕ} (vet_code P K).number 7 ↔ ((g : ℕ) × (w : ℕ) × InWalk P g w × PairLeak (pool_of P K) g w)

  -- "the refusal names the first gang and watcher for which that is so."
  abbrev pub NamesFirst : Type 0
  NamesFirst =
      accepted ≡ first_of (other_checks P K)
      → (p : Pair)
      → (vet_code P K ≡ record { number = 7; first = p.coalition; second = p.observer })
      ↔ First (λ p. PairLeak (pool_of P K) p.coalition p.observer) (pairs P.clusters P.size P.limit) p

-- ---- rounds, records and key streams

-- calls of the server's `count`, one after the other, are the runs that are spoken of above; a relay's calls are `relay_run` as it stands
abbrev pub CallsAreRuns : Type 0
CallsAreRuns =
    (R : ServerRound) (frames : List Frame)
    → (server_run R frames ≡ server_round (run_of R.round.clusters true R.round frames))
    × (server_answers R frames ≡ answers_of R.round.clusters true R.round frames)

-- "A round answers as a roll of names and a running sum would": for every state that is handed in, good or bad, and any frames, of so many senders: the
-- answers and the round after them, and then, into any lent buffer, the answer when the sums are asked for and what the buffer holds. Of a relay, which also
-- moves on, NextRound says it
abbrev pub AnswersAsLedger : Type 0
AnswersAsLedger =
    (senders : ℕ) (known : Bool) (R : Round) → length R.sums ≡ max_length → (frames : List Frame)
    → (answers_of senders known R frames ≡ ledger_answers senders known R [] frames)
    × (run_of senders known R frames ≡ if_accepted (first_of (state_checks senders known R)) (after R (ledger_of senders known R [] frames)) R)
    × ((out : List ℕ)
    → (give_code senders known (run_of senders known R frames) out ≡ ledger_give_code senders known R (ledger_of senders known R [] frames) out)
    × (sums_after senders known (run_of senders known R frames) out ≡ ledger_sums senders known R (ledger_of senders known R [] frames) out))

-- "writing then reading returns the plan": whatever stands before the record
abbrev pub WrittenIsRead : Type 0
WrittenIsRead =
    (before : List ℕ) (P : Plan) (K out lent : List ℕ) → accepted ≡ write_code P K out → length lent ≡ 256
    → (accepted ≡ read_code (before ++ record_of P K) lent) × (plan_read (before ++ record_of P K) ≡ P) × (table_read (before ++ record_of P K) ≡ K)

-- "Each plan has one record": the bytes from the first on are the same
abbrev pub OneRecord : Type 0
OneRecord =
    (B C lent : List ℕ) → ((i : ℕ) → at B i < 256) → ((i : ℕ) → at C i < 256)
    → accepted ≡ read_code B lent → accepted ≡ read_code C lent
    → plan_read B ≡ plan_read C → table_read B ≡ table_read C
    → drop (start B) B ≡ drop (start C) C

-- "No symbol is drawn twice from a position that only draws have moved": a run of draws gives the symbols between its first position and its last; each has a
-- place, and is the stream's there; and no two have the same place
abbrev pub DrawnOnce : Type 0
DrawnOnce =
    (stream : List ℕ) (position : ℕ) (draws : List (ℕ × List ℕ))
    → (symbols_drawn stream position draws ≡ drawn stream position (position_after_all stream position draws - position))
    × (length (symbols_drawn stream position draws) ≡ length (places_drawn stream position draws))
    × ((k : ℕ) → k < length (places_drawn stream position draws)
    → at (symbols_drawn stream position draws) k ≡ at stream (at (places_drawn stream position draws) k))
    × ((i j : ℕ) → i < length (places_drawn stream position draws) → j < length (places_drawn stream position draws)
    → at (places_drawn stream position draws) i ≡ at (places_drawn stream position draws) j → i ≡ j)
