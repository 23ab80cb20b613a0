use Prim.Native.Nat.{ℕ, ◌+◌}
use mathlib.Core.Path.{sym}
use native.Mathlib.Omega.{arith}
use borrow.Author.Rules.{rules}
use borrow.Author.Tests.{lt-leb}
use Rattle.lists.specs.Sums.{sum_to}
use Rattle.stocks.specs.Stocks.{held_by}
use Rattle.lists.proofs.Sums.{sum-next, sum-some}
use Rattle.stocks.proofs.Stock.fits_on.Goals as goal

pub loop-i-init : goal.loop-i-init
unfolding sum_to
loop-i-init c = search rules

pub returns-then-left-mine : goal.returns-then-left-mine
returns-then-left-mine c =
    let a = c.args in
    let i : ℕ = c.loop-i.i in
    let f : ℕ → ℕ = held_by a.self in
    sym (lt-leb (sum_to a.self.pools f) a.size (omega (arith, sum-some (i + 1) a.self.pools f (omega (arith, c.loop-i-test.true)), sum-next i f, c.held_of-mine.ensures)))

pub loop-i-preserved : goal.loop-i-preserved
loop-i-preserved c = omega (arith, sum-next c.loop-i.i (held_by c.args.self), c.held_of-mine.ensures)
