-- The invariant: the columns passed are written, below rows that stay as they were.
use Rattle.std.proofs.Common.{◌+◌, ◌*◌}
use Rattle.lists.proofs.Fronts.{Front}
use Rattle.keys.proofs.MakerSteps.{with_last}
use Rattle.keys.proofs.maker.fill_last.Given as goal

abbrev pub invariant-loop-k : goal.invariant-loop-k
invariant-loop-k l = Front l.initial.table (with_last l.q l.rows l.cols l.initial.table) l.table (l.rows * l.cols + l.k)
