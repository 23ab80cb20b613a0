use mathlib.Core.Path.{refl, ◌≡◌, ap, ◌∙◌}
use Prim.Native.Nat.{ℕ, ◌+◌, ◌*◌, ◌%◌}
use native.Mathlib.Omega.{arith}
use Rattle.lists.specs.Lists.{at}
use Rattle.lists.specs.Sums.{sum_to}
use Rattle.vetting.specs.Walking.{cluster_sum}
use Rattle.residues.proofs.RunningSum.{kept-none, kept_next}
use Rattle.vetting.proofs.walk.cluster_sum.Goals as goal

pub loop-v-init : goal.loop-v-init
loop-v-init c =
    let a = c.args in
    kept-none a.q (λ v. at a.table.now ((a.u * a.size + v) * a.rate + a.k))

pub loop-v-preserved : goal.loop-v-preserved
loop-v-preserved c =
    let s = c.loop-v in
    let a = c.args in
    c.add_mod-sum.ensures ∙ kept_next a.q (λ v. at a.table.now ((a.u * a.size + v) * a.rate + a.k)) s.v s.sum _ c.requires.0 s.invariant refl

pub returns : goal.returns
unfolding cluster_sum
returns c =
    let s = c.loop-v in
    let a = c.args in
    let e : s.v ≡ a.size = omega (arith, c.loop-v-test.false, s.auto.v-end) in
    s.invariant ∙ ap (λ (n : ℕ). sum_to n (λ v. at a.table.now ((a.u * a.size + v) * a.rate + a.k)) % a.q) e
