-- The verdict on a plan and its key table. Document 01, "Order": "The vet: 1, 4, 2, 3, 6, 7."
use Rattle.std.specs.Prelude.{ℕ, ◌+◌, Bool, not, List, ◌++◌, map, eqb}
use Rattle.refusals.specs.declared.Code.{Code}
use Rattle.refusals.specs.Codes.{first_of}
use Rattle.lists.specs.Lists.{tab}
use Rattle.secrecy.specs.Model.{column_sum}
use Rattle.secrecy.specs.Leaks.{leaks}
use Rattle.plans.specs.declared.Plan.{Plan}
use Rattle.vetting.specs.declared.Pair.{Pair}
use Rattle.plans.specs.Plans.{table_checks}
use Rattle.vetting.specs.Pools.{pool_of}
use Rattle.vetting.specs.Walk.{pairs}

-- 6 names the first column whose sum is not zero, from 1
abbrev pub column_check : Plan → List ℕ → ℕ → Bool × Code
column_check P K k = (not (eqb (column_sum (pool_of P K) k) 0), record { number = 6; first = k + 1; second = 0 })

abbrev pub column_checks : Plan → List ℕ → List (Bool × Code)
column_checks P K = map (column_check P K) (tab P.rate (λ k. k))

-- 7 names the first pair that leaks
abbrev pub leak_check : Plan → List ℕ → Pair → Bool × Code
leak_check P K pair = (leaks (pool_of P K) pair.coalition pair.observer, record { number = 7; first = pair.coalition; second = pair.observer })

-- the checks before 7, and all
abbrev pub other_checks : Plan → List ℕ → List (Bool × Code)
other_checks P K = table_checks P K ++ column_checks P K

abbrev pub vet_checks : Plan → List ℕ → List (Bool × Code)
vet_checks P K = other_checks P K ++ map (leak_check P K) (pairs P.clusters P.size P.limit)

abbrev pub vet_code : Plan → List ℕ → Code
vet_code P K = first_of (vet_checks P K)
