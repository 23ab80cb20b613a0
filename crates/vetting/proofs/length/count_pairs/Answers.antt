use mathlib.Core.Path.{◌≡◌, refl, sym, ap, ◌∙◌}
use mathlib.Core.Bool.{true}
use Prim.Native.Nat.{ℕ, ◌+◌, ◌*◌, ◌^◌, ◌≤◌}
use native.Mathlib.Nat.{mul-le-mul}
use native.Mathlib.Omega.{arith}
use lib.Pow.{pow_mono}
use Rattle.refusals.specs.Codes.{accepted, first_of}
use Rattle.refusals.proofs.CodeLaws.{accepted-outcome, held}
use Rattle.lists.proofs.Binomials.{sets-few}
use Rattle.plans.specs.Plans.{counts_fit}
use Rattle.plans.proofs.PlanBounds.{Counts, counts-known}
use Rattle.vetting.specs.Length.{pair_count, count_checks}
use Rattle.vetting.proofs.length.count_pairs.Goals as goal
use Rattle.vetting.proofs.length.count_pairs.Goals.{In_ok-refuse_unless}

-- the counts are within their bounds
fits : (c : In_ok-refuse_unless) → (let a = c.args in counts_fit a.clusters a.size a.limit ≡ true)
fits c = sym c.counts_fit.ensures ∙ held _ _ _ c.in_ok-refuse_unless.ensures

known : (c : In_ok-refuse_unless) → (let a = c.args in Counts a.clusters a.size a.limit)
known c = let a = c.args in counts-known a.clusters a.size a.limit (fits c)

-- at most 9 times 65,536
pub overflow_mul-result : goal.overflow_mul-result
overflow_mul-result c =
    let d = (goal.at.overflow_mul-result c).In_ok-refuse_unless in let a = d.args in
    let k = known d in
    let l : c.sets_up_to.result ≤ 2 ^ 16 = omega (arith, c.sets_up_to.ensures, sets-few (a.clusters * a.size) a.limit, pow_mono k.few-users) in
    omega (arith, mul-le-mul {n₁ = a.clusters + 1} {m₁ = c.sets_up_to.result} {n₂ = 9} {m₂ = 2 ^ 16} (omega (arith, k.few-clusters)) l)

pub returns : goal.returns
unfolding pair_count
returns c =
    let d = (goal.at.returns c).In_ok-refuse_unless in let a = d.args in
    let e : accepted ≡ first_of (count_checks a.clusters a.size a.limit) = rw (fits d) refl in
    ap (λ (n : ℕ). record { refusal = accepted; value = (a.clusters + 1) * n }) c.sets_up_to.ensures
    ∙ accepted-outcome (count_checks a.clusters a.size a.limit) (pair_count a.clusters a.size a.limit) e
