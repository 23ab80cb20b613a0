use borrow.Author.Rules.{rules}
use mathlib.Core.Path.{sym}
use lib.Seq.{set_out}
use Rattle.testing.specs.Slices.{replaced}
use Rattle.testing.proofs.slices.put_byte.Goals as goal

pub returns-then-i-b : goal.returns-then-i-b
unfolding replaced
returns-then-i-b c = search rules

pub returns-else-i-b : goal.returns-else-i-b
unfolding replaced
returns-else-i-b c = sym (set_out c.args.b.now c.args.i _ c.if-i-b.false)
