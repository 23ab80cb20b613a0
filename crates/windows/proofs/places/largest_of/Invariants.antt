-- The invariant: the best so far is the largest of the first total and of those passed after it.
use Rattle.std.proofs.Common.{◌≡◌, pos, take, slice_index_or}
use Rattle.windows.specs.Runs.{largest_from}
use Rattle.windows.proofs.places.largest_of.Given as goal

abbrev pub invariant-loop-total : goal.invariant-loop-total
invariant-loop-total l = l.best ≡ largest_from (slice_index_or l.totals 0 (pos 0)) (take l.total-index l.total-items)
