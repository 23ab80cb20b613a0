-- The invariant: the rows passed are written.
use Rattle.std.proofs.Common.{◌*◌}
use Rattle.lists.proofs.Fronts.{Front}
use Rattle.keys.proofs.MakerSteps.{power_rows}
use Rattle.keys.proofs.maker.fill_rows.Given as goal

abbrev pub invariant-loop-i : goal.invariant-loop-i
invariant-loop-i l = Front l.initial.table (power_rows l.q l.generator l.rows l.cols) l.table (l.i * l.cols)
