use mathlib.Core.Path.{◌≡◌, refl, sym, ap, ap₂, ◌∙◌, subst}
use mathlib.Core.Bool.{Bool, true, false, cond, ◌||◌}
use Prim.Native.Nat.{ℕ, ◌+◌, ◌/◌, ◌^◌, ◌≤◌, ◌<◌}
use native.Mathlib.Nat.{one-mul, add-zero}
use native.Mathlib.Numerals.{add-one}
use native.Mathlib.Omega.{arith}
use lib.Dec.{eqb}
use lib.Pow.{pow_mono}
use borrow.Author.Tests.{eq-eqb, ne_eqb}
use Rattle.lists.specs.Sums.{sum_to}
use Rattle.vetting.specs.Walking.{joint_mask}
use Rattle.lists.proofs.BitLaws.{one_shl, mask_below}
use Rattle.vetting.proofs.walk.joint_mask.Goals as goal
use Rattle.vetting.proofs.walk.joint_mask.Goals.{In-loop-i, then-u-first, then-u-first-via-then-u-first, then-u-first-via-else-u-first+then-u-second, else-u-first+else-u-second}

-- is user i in cluster a or b?
abbrev in_either : ℕ → ℕ → ℕ → ℕ → Bool
in_either size a b i = eqb (i / size) a || eqb (i / size) b

module _ (size a b : ℕ) where
  joint-none : 0 ≡ joint_mask size a b 0
  unfolding joint_mask sum_to
  joint-none = refl

  -- one user more
  joint-next : (i : ℕ) (t : Bool) → in_either size a b i ≡ t → joint_mask size a b (i + 1) ≡ joint_mask size a b i + cond t (2 ^ i) 0
  unfolding joint_mask sum_to
  joint-next i t e =
      ap (joint_mask size a b) (add-one i) ∙ ap (λ (t : Bool). joint_mask size a b i + cond t (2 ^ i) 0) e

  joint-below : (i : ℕ) → joint_mask size a b i < 2 ^ i
  unfolding joint_mask
  joint-below i = mask_below (in_either size a b) i

-- a mask has at most 16 bits
low : (c : In-loop-i) → c.loop-i.i < 16
low c = omega (arith, c.loop-i-test.true, c.requires.0)

pub loop-i-init : goal.loop-i-init
loop-i-init c = joint-none c.args.size c.args.first c.args.second

pub overflow_add-mask : goal.overflow_add-mask
overflow_add-mask c =
    let s = c.loop-i in
    let a = c.args in
    let l : s.mask < 2 ^ s.i = subst (λ (n : ℕ). n < 2 ^ s.i) (sym s.invariant) (joint-below a.size a.first a.second s.i) in
    let few : s.i ≤ 16 = omega (arith, low (goal.at.overflow_add-mask c).In-loop-i) in
    rw (one_shl 32 s.i (omega arith)) (omega (arith, pow_mono few))

pub loop-i-preserved : goal.loop-i-preserved
loop-i-preserved c =
    let s = c.loop-i in
    let a = c.args in
    let u : ℕ = s.i / a.size in
    let few : s.i < 16 = low (goal.at.loop-i-preserved c).In-loop-i in
    elim c.if-u-first.branch [
      | then-u-first w ↦
          let e : in_either a.size a.first a.second s.i ≡ true =
          elim w.then-u-first.branch [
            | then-u-first-via-then-u-first v ↦ ap (λ (t : Bool). t || eqb u a.second) (eq-eqb u a.first v.if-u-first.true)
            | then-u-first-via-else-u-first+then-u-second v ↦ ap₂ ◌||◌ (ne_eqb u a.first v.if-u-first.false) (eq-eqb u a.second v.if-u-second.true)
          ] in
          w.mask-is ∙ ap₂ ◌+◌ s.invariant (one_shl 32 s.i (omega arith) ∙ one-mul (2 ^ s.i)) ∙ sym (joint-next a.size a.first a.second s.i true e)
      | else-u-first+else-u-second w ↦
          let e : in_either a.size a.first a.second s.i ≡ false = ap₂ ◌||◌ (ne_eqb u a.first w.if-u-first.false) (ne_eqb u a.second w.if-u-second.false) in
          w.mask-is ∙ s.invariant ∙ sym (joint-next a.size a.first a.second s.i false e ∙ add-zero (joint_mask a.size a.first a.second s.i))
    ]
