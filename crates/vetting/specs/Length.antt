-- How long the vet is (document 02, Q-5): how many pairs there are, from the counts alone, and how many of them the vet looked at.
use Rattle.std.specs.Prelude.{ℕ, suc, ◌+◌, ◌*◌, Bool, cond, not, List, [], ◌∷◌}
use Rattle.refusals.specs.declared.Code.{Code}
use Rattle.refusals.specs.Codes.{code, first_of, if_accepted}
use Rattle.lists.specs.Sums.{sum_to, binomial}
use Rattle.secrecy.specs.Leaks.{leaks}
use Rattle.plans.specs.declared.Plan.{Plan}
use Rattle.plans.specs.Plans.{counts_fit}
use Rattle.vetting.specs.declared.Pair.{Pair}
use Rattle.vetting.specs.Pools.{pool_of}
use Rattle.vetting.specs.Walk.{pairs}
use Rattle.vetting.specs.Vet.{other_checks}

-- "(U + 1) times the number of sets of at most T out of U × V meters"
unfoldable pub pair_count : ℕ → ℕ → ℕ → ℕ
pair_count clusters size limit = (clusters + 1) * sum_to (limit + 1) (binomial (clusters * size))

-- "From U, V and T alone": refused where they are outside their bounds
abbrev pub count_checks : ℕ → ℕ → ℕ → List (Bool × Code)
count_checks clusters size limit = (not (counts_fit clusters size limit), code 1) ∷ []

-- the place of the first pair that leaks, from 1; where none does, that of the last
unfoldable pub place_in : (Pair → Bool) → List Pair → ℕ
place_in leaking [] = 0
place_in leaking (p ∷ l) = cond (leaking p) 1 (suc (place_in leaking l))

-- how many pairs the vet looked at: "An accepted plan reports having looked at that many, and a leaking one at the place of its first leak, from 1; other
-- refusals report 0."
abbrev pub looked_at : Plan → List ℕ → ℕ
looked_at P K =
    if_accepted (first_of (other_checks P K))
    (place_in (λ p. leaks (pool_of P K) p.coalition p.observer) (pairs P.clusters P.size P.limit)) 0
