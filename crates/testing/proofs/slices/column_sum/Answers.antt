use mathlib.Core.Path.{◌≡◌, refl, sym, ap, ap₂, ◌∙◌}
use Prim.Native.Nat.{ℕ, ◌+◌, ◌%◌}
use native.Mathlib.Omega.{arith}
use Rattle.testing.specs.Numbers.{mul_add_of}
use Rattle.testing.specs.Slices.{at, column_of}
use Rattle.testing.proofs.Loops.{column-next}
use Rattle.testing.proofs.slices.column_sum.Goals as goal

-- The invariant: the sum of the first i rows, at most 4,294,967,295 for each.

pub loop-i-init : goal.loop-i-init
unfolding column_of
loop-i-init c = (omega arith, omega arith, refl)

pub overflow_add-sum : goal.overflow_add-sum
unfolding at
overflow_add-sum c = omega (arith, c.type_inv.t c.mul_add.result)

pub loop-i-preserved : goal.loop-i-preserved
unfolding at
loop-i-preserved c =
    let a = c.args in
    let s = c.loop-i in
    let sum : s.sum ≡ column_of a.t.now s.i a.cols a.k = s.invariant.2 in
    let number : c.at-sum.result ≡ at a.t.now (mul_add_of a.k s.i a.cols) = c.at-sum.ensures ∙ ap (at a.t.now) c.mul_add.ensures in (
      s.invariant.0,
      omega (arith, c.type_inv.t c.mul_add.result),
      ap₂ (λ (x y : ℕ). x + y) sum number ∙ sym (column-next a.t.now s.i a.cols a.k),
    )

pub returns : goal.returns
returns c =
    let e : c.loop-i.i ≡ c.args.rows % 65536 = omega arith in
    rw e at c.loop-i.invariant.2
