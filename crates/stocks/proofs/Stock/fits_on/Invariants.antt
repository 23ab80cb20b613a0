use Prim.Native.Nat.{◌+◌}
use mathlib.Core.Path.{◌≡◌}
use Rattle.lists.specs.Sums.{sum_to}
use Rattle.stocks.specs.Stocks.{held_by}
use Rattle.stocks.proofs.Stock.fits_on.Given as goal

abbrev pub invariant-loop-i : goal.invariant-loop-i
invariant-loop-i l = l.left + sum_to l.i (held_by l.self) ≡ l.size
