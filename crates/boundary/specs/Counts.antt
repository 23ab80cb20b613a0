-- A plan and the five numbers that a caller lends in one run: U, V, T, R and q.
use Rattle.std.specs.Prelude.{ℕ, List, [], ◌∷◌}
use Rattle.lists.specs.Lists.{at}
use Rattle.plans.specs.declared.Plan.{Plan}
use Rattle.plans.specs.Plans.{plan}

abbrev pub plan_of : List ℕ → Plan
plan_of counts = plan (at counts 0) (at counts 1) (at counts 2) (at counts 3) (at counts 4)

-- the numbers of a plan
abbrev pub counts_of : Plan → List ℕ
counts_of P = P.clusters ∷ P.size ∷ P.limit ∷ P.rate ∷ P.q ∷ []
