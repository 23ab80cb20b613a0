use mathlib.Core.Path.{◌≡◌}
use Rattle.lists.specs.Sums.{sum_to}
use Rattle.stocks.specs.Stocks.{drawn_of}
use Rattle.stocks.proofs.Stock.position.Given as goal

abbrev pub invariant-loop-i : goal.invariant-loop-i
invariant-loop-i l = l.sum ≡ sum_to l.i (drawn_of l.self)
