use Rattle.std.proofs.Common.{sym, ◌∙◌}
use Rattle.matrices.proofs.Steps.{no-shape, no-row, no-pivot}
use Rattle.matrices.proofs.eliminate.Goals as goal
use Rattle.matrices.proofs.eliminate.Goals.{else-is_shaped-via-then-is_shaped+else-i-rows, else-is_shaped-via-else-is_shaped}

pub returns-else-is_shaped : goal.returns-else-is_shaped
returns-else-is_shaped c =
    let a = c.args in
    no-pivot a.q a.rows a.cols a.i a.table.now 0
    (elim c.else-is_shaped.branch [
      | else-is_shaped-via-then-is_shaped+else-i-rows w ↦
          no-row a.q a.rows a.cols a.i a.table.now (sym c.is_shaped.ensures ∙ w.if-is_shaped.true) w.if-i-rows.false
      | else-is_shaped-via-else-is_shaped w ↦ no-shape a.q a.rows a.cols a.i a.table.now (sym c.is_shaped.ensures ∙ w.if-is_shaped.false)
    ])
