-- The demands at the small pool. Demand 3: it hides what it has to hide; with coalitions of two it leaks, and the leak is there to be seen. Demand 2: what its
-- relays and its server are asked to hear can be heard, so that the total is shown.
use Prim.Native.Nat.{ℕ, zero, suc, ◌≤◌, ◌<◌}
use native.Mathlib.Omega.{arith}
use mathlib.Core.Path.{◌≡◌, refl, sym}
use mathlib.Core.Bool.{true}
use mathlib.Core.List.{List, [], ◌∷◌}
use lib.ListN.{length}
use Rattle.refusals.specs.Codes.{code, accepted, first_of}
use Rattle.lists.specs.Search.{all_to}
use Rattle.residues.specs.Primes.{is_prime, all_below}
use Rattle.lists.specs.Lists.{tab}
use Rattle.lists.specs.Sums.{sum_to}
use Rattle.lists.specs.Bits.{has_bit}
use Rattle.secrecy.specs.Model.{column_sum, view, reading, key, upload, total}
use Rattle.secrecy.specs.Leaks.{keys_showing, Symbols, Agrees, PairLeak, longest}
use Rattle.plans.specs.Plans.{plan}
use Rattle.vetting.specs.Pools.{pool_of}
use Rattle.vetting.specs.Walk.{InWalk}
use Rattle.vetting.specs.Vet.{other_checks}
use Rattle.rounds.specs.Ledger.{Frame, frame, named, bits_of, counted_at, frames_of}
use Rattle.rounds.specs.Rounds.{opened, open_round, sums_after, run_of, ledger_of, server_round, server_answers}
use Rattle.rounds.specs.Relays.{relay_opened, relay_sums, Event, heard, moves, relay_answers, relay_run, log_after}
use Rattle.demands.specs.Demands.{Reached, AllHeard}
use Rattle.demands.proofs.Demands.{zero-sum, total-is-sum, equal-numbers, names-first}
use Rattle.cases.proofs.SmallPool.{rows, N, W, accepts, leaks-to-two}

-- any coalition of at most one user, any observer, any readings that may not be told apart, any view
pub hides : (g w : ℕ) → InWalk (plan 2 2 1 3 5) g w → (L : ℕ) → 1 ≤ L → L ≤ longest
    → (W W' : List ℕ) → Symbols 5 4 L W → Symbols 5 4 L W' → Agrees (pool_of (plan 2 2 1 3 5) rows) g w L W W'
    → (s : List ℕ) → keys_showing 5 3 (view (pool_of (plan 2 2 1 3 5) rows) g w) L W s ≡ keys_showing 5 3 (view (pool_of (plan 2 2 1 3 5) rows) g w) L W' s
hides = equal-numbers (plan 2 2 1 3 5) rows (sym accepts)

-- with coalitions of two the table passes every check but 7
passes : accepted ≡ first_of (other_checks (plan 2 2 2 3 5) rows)
unfolding is_prime all_to all_below column_sum sum_to tab
passes = refl

-- users 1 and 2 (coalition 3) with relay 2: two sets of readings and a view with unequal numbers
pub leak : PairLeak (pool_of (plan 2 2 2 3 5) rows) 3 2
leak = ((names-first (plan 2 2 2 3 5) rows passes (record { coalition = 3; observer = 2 })).0 leaks-to-two).here

-- ---- demand 2: round 9, the users' uploads 4, 1 and 2, 2, the relays' sums 0 and 4, each time the second sender first. Relay 1 is opened in round 8, where
-- its first user is a round ahead; a frame that repeats it with another block is refused with 11, and nothing is asked of that block. So is one into the
-- server.

pub first : ℕ → ℕ
first zero = 8
first (suc u) = 9

pub events : ℕ → List Event
events zero =
    heard (frame 1 9 (4 ∷ []))
    ∷ heard (frame 1 9 (3 ∷ []))
    ∷ heard (frame 2 8 (0 ∷ []))
    ∷ heard (frame 1 8 (3 ∷ []))
    ∷ moves
    ∷ heard (frame 2 9 (1 ∷ []))
    ∷ []
events (suc u) = heard (frame 2 9 (2 ∷ [])) ∷ heard (frame 1 9 (2 ∷ [])) ∷ []

abbrev sums : List Frame
sums = frame 2 9 (4 ∷ []) ∷ frame 2 9 (1 ∷ []) ∷ frame 1 9 (0 ∷ []) ∷ []

-- the answers, and what relay 1 writes into a lent buffer of one symbol
pub relay-answers : relay_answers (relay_opened 2 2 5 1 1 8) (events 0)
    ≡ (accepted, []) ∷ (code 11, []) ∷ (accepted, []) ∷ (accepted, []) ∷ (accepted, []) ∷ (accepted, []) ∷ []
unfolding events relay_answers tab is_prime all_to all_below has_bit named bits_of counted_at
relay-answers = refl

pub relay-gives : (out : List ℕ) → length out ≡ 1 → relay_sums (relay_run (relay_opened 2 2 5 1 1 8) (events 0)) out ≡ 0 ∷ []
unfolding events relay_run tab is_prime all_to all_below has_bit named bits_of counted_at
relay-gives out room = rw room

pub server-answers : server_answers (server_round (open_round 2 2 5 1 true 9)) sums ≡ accepted ∷ code 11 ∷ accepted ∷ []
unfolding server_answers tab is_prime all_to all_below has_bit named bits_of counted_at
server-answers = refl

all-heard : AllHeard (plan 2 2 1 3 5) rows 1 W N 9 first events sums
unfolding first events tab relay_run log_after frames_of is_prime all_to all_below has_bit named bits_of counted_at ledger_of upload reading key sum_to
all-heard = record { relays = each; sums = record { carried = (refl, (refl, tt)); full = refl } }
  where
    each : (u : ℕ) → u < 2 → Reached (plan 2 2 1 3 5) rows 1 W N 9 u (first u) (events u)
    each zero l = record { reached = refl; uploads = record { carried = (refl, (refl, tt)); full = refl } }
    each (suc zero) l = record { reached = refl; uploads = record { carried = (refl, (refl, tt)); full = refl } }
    each (suc (suc u)) l = absurd (omega arith)

-- "total 4": what the server writes into a lent buffer of one symbol
pub shown : (out : List ℕ) → length out ≡ 1
    → sums_after 2 true (run_of 2 true (opened 2 2 5 1 9) sums) out ≡ 4 ∷ []
unfolding is_prime all_to tab total reading sum_to
shown out room = (total-is-sum (plan 2 2 1 3 5) rows 1 W N 9 (zero-sum (plan 2 2 1 3 5) rows (sym accepts)) refl first events sums all-heard out room).1
