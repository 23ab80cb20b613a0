use Prim.Native.Nat.{ℕ, ◌+◌}
use native.Mathlib.Omega.{arith}
use borrow.Author.Rules.{rules}
use Rattle.lists.specs.Sums.{sum_to}
use Rattle.stocks.specs.Stocks.{drawn_of}
use Rattle.lists.proofs.Sums.{sum-next, sum-some}
use Rattle.stocks.proofs.Stock.position.Goals as goal

pub loop-i-init : goal.loop-i-init
unfolding sum_to
loop-i-init c = search rules

pub overflow_add-sum : goal.overflow_add-sum
overflow_add-sum c =
    let i : ℕ = c.loop-i.i in
    let f : ℕ → ℕ = drawn_of c.args.self in
    record { fits = omega (arith, sum-some (i + 1) c.args.self.pools f (omega (arith, c.loop-i-test.true)), sum-next i f) }

pub loop-i-preserved : goal.loop-i-preserved
loop-i-preserved c = omega (arith, sum-next c.loop-i.i (drawn_of c.args.self))
