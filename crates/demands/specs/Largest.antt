-- Which coalitions decide. No paper has this sentence, it is ours: a plan that passes the other checks is accepted exactly when, for every coalition of exactly
-- T users, its rows are independent and it leaks to no observer. The promise of `accepts` (vetting) is whether `vet_code` accepts; by this it need not walk.
use Rattle.std.specs.Prelude.{ℕ, ◌+◌, ◌*◌, ◌%◌, ◌≤◌, ◌≡◌, ◌↔◌, List, ◌∷◌, [], length}
use Rattle.refusals.specs.Codes.{accepted, first_of}
use Rattle.lists.specs.Lists.{All, at, tab, picked, zeros}
use Rattle.matrices.specs.Linear.{comb}
use Rattle.secrecy.specs.Model.{in_coalition}
use Rattle.secrecy.specs.Leaks.{PairLeak}
use Rattle.plans.specs.declared.Plan.{Plan}
use Rattle.plans.specs.Plans.{users_of}
use Rattle.vetting.specs.Pools.{pool_of}
use Rattle.vetting.specs.Vet.{other_checks, vet_code}
use Rattle.vetting.specs.Largest.{Largest}

module _ (P : Plan) (K : List ℕ) where
  -- a coalition's rows: R symbols of the key table for each of its users
  abbrev pub rows_of : ℕ → List (List ℕ)
  rows_of g = picked (users_of P) (in_coalition g) (λ i. tab P.rate (λ k. at K (i * P.rate + k)) ∷ [])

  -- they are independent: only coefficients that are 0 modulo q combine them to 0
  abbrev pub RowsIndependent : ℕ → Type 0
  RowsIndependent g =
      (cs : List ℕ) → length cs ≡ length (rows_of g) → comb P.q P.rate cs (rows_of g) ≡ zeros P.rate → All (λ c. c % P.q ≡ 0) cs

  -- the sentence; the observers are the relays' numbers from 1 on, and 0 for the server
  abbrev pub LargestDecide : Type 0
  LargestDecide =
      accepted ≡ first_of (other_checks P K)
      → (accepted ≡ vet_code P K)
      ↔ ((g : ℕ) → Largest P g → RowsIndependent g × ((w : ℕ) → w ≤ P.clusters → ¬ (PairLeak (pool_of P K) g w)))
