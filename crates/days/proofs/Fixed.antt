-- What of a day depends on no reading; the machines are the rounds' own; and a run of source keys is one list.
use Prim.Native.Nat.{ℕ, ◌<◌}
use mathlib.Core.Path.{◌≡◌, refl, ap}
use mathlib.Core.List.{List, [], ◌∷◌, map}
use lib.IntN.{ℤ}
use Rattle.refusals.specs.declared.Code.{Code}
use Rattle.lists.specs.Lists.{join_to}
use Rattle.matrices.specs.Linear.{Vector}
use Rattle.secrecy.specs.Model.{Pool}
use Rattle.secrecy.proofs.Pieces.{whole, pieces_whole, pieces_of, whole-pieces}
use Rattle.plans.specs.declared.Plan.{Plan}
use Rattle.vetting.specs.Pools.{pool_of}
use Rattle.rounds.specs.declared.RelayRound.{RelayRound}
use Rattle.rounds.specs.declared.ServerRound.{ServerRound}
use Rattle.rounds.specs.Ledger.{Frame}
use Rattle.rounds.specs.Rounds.{server_code, server_next, server_run, server_answers}
use Rattle.rounds.specs.Relays.{Event, told, next_of, relay_answers, relay_run}
use Rattle.days.specs.Runs.{Run, key_symbols, run_symbols, source_key, uploads_of, sent_in, signed_uploads_of}
use Rattle.days.specs.Machines.{Entry, replies, state_after, outline_of, transcript}
use Rattle.days.specs.Observers.{event, counts, relay_machine, server_machine, machine_of}
use Rattle.days.proofs.Outlines.{Blocks, uploads-blocks, signed-blocks, sent-alike, same-outlines}
use Rattle.days.proofs.RelayAnswers.{machine-blind}

-- ---- order, senders, round numbers and answers

module _ (P : Pool) (pos : 0 < P.q) (run : Run) (w : ℕ) (schedule : List (Entry (machine_of P w).Call)) where
  -- whatever blocks are uploaded
  blocks-fixed : (U U' : ℕ → ℕ → List ℕ) → Blocks P run U → Blocks P run U'
      → outline_of (machine_of P w) (transcript (machine_of P w) run.number (sent_in P run U w) schedule)
      ≡ outline_of (machine_of P w) (transcript (machine_of P w) run.number (sent_in P run U' w) schedule)
  blocks-fixed U U' v v' =
      same-outlines P.q (machine_of P w) (machine-blind P pos w) run.number (sent_in P run U w) (sent_in P run U' w)
      (sent-alike P pos run U U' v v' w) schedule

  pub outline-fixed : (W W' : ℕ → List ℕ) (N N' : List ℕ)
      → outline_of (machine_of P w) (transcript (machine_of P w) run.number (sent_in P run (uploads_of P run W N) w) schedule)
      ≡ outline_of (machine_of P w) (transcript (machine_of P w) run.number (sent_in P run (uploads_of P run W' N') w) schedule)
  outline-fixed W W' N N' =
      blocks-fixed (uploads_of P run W N) (uploads_of P run W' N') (uploads-blocks P pos run W N) (uploads-blocks P pos run W' N')

pub signed-outline-fixed : (P : Plan) (K : List ℕ) → 0 < P.q → (run : Run) (w : ℕ) (schedule : List (Entry (machine_of (pool_of P K) w).Call))
    → (R R' : ℕ → List ℤ) (N N' : List ℕ)
    → outline_of (machine_of (pool_of P K) w)
    (transcript (machine_of (pool_of P K) w) run.number (sent_in (pool_of P K) run (signed_uploads_of P K run R N) w) schedule)
    ≡ outline_of (machine_of (pool_of P K) w)
    (transcript (machine_of (pool_of P K) w) run.number (sent_in (pool_of P K) run (signed_uploads_of P K run R' N') w) schedule)
signed-outline-fixed P K pos run w schedule R R' N N' =
    blocks-fixed (pool_of P K) pos run w schedule (signed_uploads_of P K run R N) (signed_uploads_of P K run R' N') (signed-blocks P K run pos R N)
    (signed-blocks P K run pos R' N')

-- ---- calls, one after the other

module _ (P : Pool) (u : ℕ) where
  pub relay-replies : (R : RelayRound) (events : List Event) → replies (relay_machine P u) R (map event events) ≡ relay_answers R events
  unfolding replies relay_answers
  relay-replies R [] = refl
  relay-replies R (e ∷ events) = ap (◌∷◌ (told R e)) (relay-replies (next_of R e) events)

  pub relay-state : (R : RelayRound) (events : List Event) → state_after (relay_machine P u) R (map event events) ≡ relay_run R events
  unfolding state_after relay_run
  relay-state R [] = refl
  relay-state R (e ∷ events) = relay-state (next_of R e) events

module _ (P : Pool) where
  abbrev plain : List Code → List (Code × List ℕ)
  plain = map (λ c. (c, []))

  pub server-replies : (R : ServerRound) (frames : List Frame) → replies (server_machine P) R (map counts frames) ≡ plain (server_answers R frames)
  unfolding replies server_answers
  server-replies R [] = refl
  server-replies R (f ∷ frames) = ap (◌∷◌ (server_code R f, [])) (server-replies (server_next R f) frames)

  pub server-state : (R : ServerRound) (frames : List Frame) → state_after (server_machine P) R (map counts frames) ≡ server_run R frames
  unfolding state_after server_run
  server-state R [] = refl
  server-state R (f ∷ frames) = server-state (server_next R f) frames

-- ---- a run of source keys is one list

module _ (P : Pool) (run : Run) where
  pub runs-joined : (B : ℕ → List ℕ) → ((k : ℕ) → k < run.rounds → Vector P.q (key_symbols P run k) (B k))
      → Vector P.q (run_symbols P run) (join_to run.rounds B) × ((k : ℕ) → k < run.rounds → source_key P run (join_to run.rounds B) k ≡ B k)
  runs-joined B v = (whole P.q (key_symbols P run) run.rounds B v, pieces_whole P.q (key_symbols P run) run.rounds B v)

  pub runs-cut : (N : List ℕ) → Vector P.q (run_symbols P run) N
      → ((k : ℕ) → k < run.rounds → Vector P.q (key_symbols P run k) (source_key P run N k)) × (join_to run.rounds (source_key P run N) ≡ N)
  runs-cut N v = (pieces_of P.q (key_symbols P run) run.rounds N v, whole-pieces P.q (key_symbols P run) run.rounds N v)
