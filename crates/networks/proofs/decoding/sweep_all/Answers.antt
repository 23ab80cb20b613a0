use mathlib.Core.Path.{sym, ◌∙◌}
use Rattle.networks.proofs.ValueLaws.{swept-start, swept-on, swept-past}
use Rattle.networks.proofs.decoding.sweep_all.Goals as goal
use Rattle.networks.proofs.decoding.sweep_all.Goals.{then-has_arrived, else-has_arrived}

pub loop-j-init : goal.loop-j-init
loop-j-init c = swept-start _ _ _ _ _ _ _ _

pub loop-j-preserved : goal.loop-j-preserved
loop-j-preserved c =
    let a = c.args in
    let l = c.loop-j in
    elim c.if-has_arrived.branch [
      | then-has_arrived w ↦
          swept-on a.q a.rows a.cols a.first a.reported a.table.now a.values.now a.units.now l.table l.values l.units
          c.if-has_arrived.table c.if-has_arrived.values c.if-has_arrived.units l.j (sym c.has_arrived.ensures ∙ w.if-has_arrived.true)
          (w.table-is ∙ w.sweep.ensures.table)
          (w.values-is ∙ w.sweep.ensures.values) (w.units-is ∙ w.sweep.ensures.units) l.invariant
      | else-has_arrived w ↦
          swept-past a.q a.rows a.cols a.first a.reported a.table.now a.values.now a.units.now l.table l.values l.units
          c.if-has_arrived.table c.if-has_arrived.values c.if-has_arrived.units l.j (sym c.has_arrived.ensures ∙ w.if-has_arrived.false)
          w.table-is w.values-is w.units-is l.invariant
    ]
