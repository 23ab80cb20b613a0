use Rattle.std.proofs.Common.{get_or}
use borrow.Author.Tests.{eq-eqb, ne_eqb}
use Rattle.matrices.specs.Tables.{cleared}
use Rattle.matrices.proofs.clear.Goals as goal

pub returns-then-x-ne0 : goal.returns-then-x-ne0
unfolding cleared
returns-then-x-ne0 c = rw (ne_eqb (get_or c.args.row.now c.args.p 0) 0 c.if-x-ne0.true) c.cross.ensures

pub returns-else-x-ne0 : goal.returns-else-x-ne0
unfolding cleared
returns-else-x-ne0 c = rw (eq-eqb (get_or c.args.row.now c.args.p 0) 0 c.if-x-ne0.false)
