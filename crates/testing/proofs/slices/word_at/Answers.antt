use borrow.Author.Rules.{rules}
use mathlib.Core.List.{List}
use Prim.Native.Nat.{ℕ, ◌+◌}
use native.Mathlib.Omega.{arith}
use lib.ListN.{get_or-eq_default}
use Rattle.testing.specs.Slices.{at, word_at}
use Rattle.testing.proofs.slices.word_at.Goals as goal

-- Bytes are below 256, so that the sum fits.

pub returns-else-i-b : goal.returns-else-i-b
unfolding at word_at
returns-else-i-b c =
    let b : List ℕ = c.args.b.now in
    let i : ℕ = c.args.i in
    omega (arith, get_or-eq_default b 0 {n = i} c.if-i-b.false, get_or-eq_default b 0 {n = i + 1} (omega (arith, c.if-i-b.false)))

pub overflow_mul-result : goal.overflow_mul-result
unfolding at
overflow_mul-result c =
    omega (arith, c.type_inv.b (c.args.i + 1))

pub overflow_add-result : goal.overflow_add-result
unfolding at
overflow_add-result c =
    omega (arith, c.type_inv.b c.args.i, c.type_inv.b (c.args.i + 1))

pub returns-then-i-b : goal.returns-then-i-b
unfolding word_at
returns-then-i-b c = search rules
