use mathlib.Core.Path.{sym}
use lib.Seq.{set_out}
use Rattle.testing.specs.Slices.{replaced}
use Rattle.testing.proofs.slices.put.Goals as goal

pub returns-then-i-t : goal.returns-then-i-t
unfolding replaced
returns-then-i-t c = cc c.narrow.ensures

pub returns-else-i-t : goal.returns-else-i-t
unfolding replaced
returns-else-i-t c = sym (set_out c.args.t.now c.args.i _ c.if-i-t.false)
