use mathlib.Core.Path.{◌≡◌}
use Rattle.lists.specs.Sums.{sum_to}
use Rattle.stocks.specs.Stocks.{owed_to}
use Rattle.stocks.proofs.Pools.{others}
use Rattle.stocks.proofs.Stock.owed_to_others.Given as goal

abbrev pub invariant-loop-i : goal.invariant-loop-i
invariant-loop-i l = l.sum ≡ sum_to l.i (others l.pool (owed_to l.self))
