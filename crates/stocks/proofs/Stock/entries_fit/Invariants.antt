use mathlib.Core.Path.{◌≡◌}
use mathlib.Core.Bool.{true}
use Rattle.lists.specs.Search.{all_to}
use Rattle.stocks.specs.Stocks.{entry_fits}
use Rattle.stocks.proofs.Stock.entries_fit.Given as goal

abbrev pub invariant-loop-i : goal.invariant-loop-i
invariant-loop-i l = all_to l.i (entry_fits l.self) ≡ true
