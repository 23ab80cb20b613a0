-- The plan (document 01: "The pool and its plan"): its counts, their bounds, and the checks of a key table.
use Rattle.std.specs.Prelude.{ℕ, ◌*◌, ◌≤◌, ◌<◌, Bool, not, ◌&&◌, List, [], ◌∷◌, leb, eqb, length}
use Rattle.refusals.specs.declared.Code.{Code}
use Rattle.refusals.specs.Codes.{code, first_of, if_accepted}
use Rattle.lists.specs.Search.{one_of}
use Rattle.residues.specs.Primes.{Prime, is_prime, all_below}
use Rattle.plans.specs.declared.Plan.{Plan}

abbrev pub users_of : Plan → ℕ
users_of P = P.clusters * P.size

-- ---- "Bounds: U and V from 1 to 8, U × V at most 16, T from 0 to U × V, R from 1 to 16, q a prime from 2 to 65,521, block length L from 1 to 64. The bounds
-- belong to the plan's type and stand there by name": the constructor's promise says that the constants of the plan's type are these. Document 02,
-- Q-7: "Let q go up to 4,294,967,291", which is the largest prime of 32 bits

abbrev pub max_clusters : ℕ
max_clusters = 8

abbrev pub max_size : ℕ
max_size = 8

abbrev pub max_users : ℕ
max_users = 16

abbrev pub max_rate : ℕ
max_rate = 16

abbrev pub max_length : ℕ
max_length = 64

-- of the primes that are below a number, this one is the largest
pub record LargestPrime (below q : ℕ) : Type 0 where
  pub prime : Prime q
  pub fits : q < below
  pub largest : (p : ℕ) → p < below → Prime p → p ≤ q

abbrev pub counts_fit : ℕ → ℕ → ℕ → Bool
counts_fit u v t = leb 1 u && leb u max_clusters && leb 1 v && leb v max_size && leb (u * v) max_users && leb t (u * v)

abbrev pub in_bounds : Plan → Bool
in_bounds P = counts_fit P.clusters P.size P.limit && leb 1 P.rate && leb P.rate max_rate

-- a block's length
abbrev pub length_fits : ℕ → Bool
length_fits L = one_of max_length L

-- of "a constructor without self", to which document 01 gives no order: 1, then 2, as in every order there that has both
abbrev pub plan_checks : Plan → List (Bool × Code)
plan_checks P = (not (in_bounds P), code 1) ∷ (not (is_prime P.q), code 2) ∷ []

abbrev pub plan : ℕ → ℕ → ℕ → ℕ → ℕ → Plan
plan clusters size limit rate q = record { clusters = clusters; size = size; limit = limit; rate = rate; q = q }

abbrev pub no_plan : Plan
no_plan = plan 0 0 0 0 0

abbrev pub plan_code : Plan → Code
plan_code P = first_of (plan_checks P)

-- the plan, where nothing is refused
abbrev pub plan_made : Plan → Plan
plan_made P = if_accepted (plan_code P) P no_plan

-- a plan and its key table: 1, 4, 2, 3
abbrev pub table_checks : Plan → List ℕ → List (Bool × Code)
table_checks P K =
    (not (in_bounds P), code 1)
    ∷ (not (eqb (length K) (users_of P * P.rate)), code 4)
    ∷ (not (is_prime P.q), code 2)
    ∷ (not (all_below P.q K), code 3)
    ∷ []
