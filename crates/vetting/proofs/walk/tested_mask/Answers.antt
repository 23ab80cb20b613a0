use mathlib.Core.Path.{◌≡◌, sym, ap, ap₂, ◌∙◌, subst}
use mathlib.Core.Bool.{true, false}
use Prim.Native.Nat.{ℕ, ◌+◌, ◌^◌, ◌≤◌, ◌<◌}
use native.Mathlib.Nat.{one-mul, add-zero}
use native.Mathlib.Omega.{arith}
use lib.Pow.{pow_mono}
use Rattle.vetting.specs.Walking.{outsider_in, outsider_mask, tested_mask}
use Rattle.lists.proofs.BitLaws.{one_shl}
use Rattle.vetting.proofs.MaskLaws.{outsiders-none, outsiders-next, outsiders-below, tested-none, tested-next, tested-below}
use Rattle.vetting.proofs.walk.tested_mask.Goals as goal
use Rattle.vetting.proofs.walk.tested_mask.Goals.{then-has_outsider, else-has_outsider}

pub loop-u-init : goal.loop-u-init
loop-u-init c =
    (outsiders-none c.args.size c.args.g, tested-none c.args.size c.args.g)

pub overflow_add-seen : goal.overflow_add-seen
overflow_add-seen c =
    let s = c.loop-u in
    let a = c.args in
    let few : s.u ≤ 8 = omega (arith, c.loop-u-test.true, c.requires.0) in
    let l : s.seen < 2 ^ s.u = subst (λ (n : ℕ). n < 2 ^ s.u) (sym s.invariant.0) (outsiders-below a.size a.g s.u) in
    rw (one_shl 32 s.u (omega arith)) (omega (arith, pow_mono few))

pub loop-u-preserved : goal.loop-u-preserved
loop-u-preserved c =
    let s = c.loop-u in
    let a = c.args in
    let few : s.u < 32 = omega (arith, c.loop-u-test.true, c.requires.0) in
    let shown = c.has_outsider.ensures in
    elim c.if-has_outsider.branch [
      | then-has_outsider w ↦
          let e : true ≡ outsider_in a.size a.g s.u = sym w.if-has_outsider.true ∙ shown in (
            w.seen-is ∙ ap₂ ◌+◌ s.invariant.0 (one_shl 32 s.u few ∙ one-mul (2 ^ s.u)) ∙ sym (outsiders-next a.size a.g s.u true e),
            w.tested-is ∙ s.invariant.0 ∙ sym (tested-next a.size a.g s.u true e),
          )
      | else-has_outsider w ↦
          let e : false ≡ outsider_in a.size a.g s.u = sym w.if-has_outsider.false ∙ shown in (
            w.seen-is ∙ s.invariant.0 ∙ sym (outsiders-next a.size a.g s.u false e ∙ add-zero (outsider_mask a.size a.g s.u)),
            w.tested-is ∙ s.invariant.1 ∙ sym (tested-next a.size a.g s.u false e),
          )
    ]

pub returns : goal.returns
returns c =
    let s = c.loop-u in
    let a = c.args in
    let e : s.u ≡ a.clusters = omega (arith, s.auto.u-end, c.loop-u-test.false) in
    let r : s.tested ≡ tested_mask a.size a.g a.clusters = s.invariant.1 ∙ ap (tested_mask a.size a.g) e in record {
      value = r;
      upper_bound = subst (λ (n : ℕ). n < 2 ^ a.clusters) (sym r) (tested-below a.size a.g a.clusters);
    }
