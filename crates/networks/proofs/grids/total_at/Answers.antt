use borrow.Author.Tests.{eq-eqb, ne_eqb}
use Rattle.networks.specs.Rings.{network_of}
use Rattle.networks.proofs.GridLaws.{total-in, total-out}
use Rattle.networks.proofs.grids.total_at.Goals as goal
use Rattle.networks.proofs.grids.total_at.Goals.{else-c-ring-via-then-c-ring+else-c-ring-2, else-c-ring-via-else-c-ring}

pub returns-then-c-ring-2 : goal.returns-then-c-ring-2
returns-then-c-ring-2 c =
    let a = c.args in
    total-in (network_of a.ring a.table.now a.weights.now) a.s a.c _ c.if-c-ring.true (eq-eqb _ _ c.if-c-ring-2.true)

pub returns-else-c-ring : goal.returns-else-c-ring
returns-else-c-ring c =
    let a = c.args in
    elim c.else-c-ring.branch [
      | else-c-ring-via-then-c-ring+else-c-ring-2 w ↦
          total-in (network_of a.ring a.table.now a.weights.now) a.s a.c _ w.if-c-ring.true (ne_eqb _ _ w.if-c-ring-2.false)
      | else-c-ring-via-else-c-ring w ↦ total-out (network_of a.ring a.table.now a.weights.now) a.s a.c w.if-c-ring.false
    ]
