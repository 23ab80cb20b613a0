-- The invariant: the array is filled up to i.
use mathlib.Core.Path.{◌≡◌}
use lib.ListN.{length}
use Rattle.lists.specs.Lists.{at}
use Rattle.lists.proofs.Filling.{Filling}
use Rattle.stocks.specs.Stocks.{max_pools}
use Rattle.stocks.proofs.entries.padded.Given as goal

abbrev pub invariant-loop-i : goal.invariant-loop-i
invariant-loop-i l = (length l.initial.made ≡ max_pools) × Filling (at l.lent) l.initial.made l.made l.i
