use borrow.Author.Rules.{rules}
use mathlib.Core.Path.{sym}
use lib.ListN.{get_or-eq_default}
use Rattle.testing.specs.Slices.{at}
use Rattle.testing.proofs.slices.byte_at.Goals as goal

pub returns-then-i-b : goal.returns-then-i-b
unfolding at
returns-then-i-b c = search rules

pub returns-else-i-b : goal.returns-else-i-b
unfolding at
returns-else-i-b c = sym (get_or-eq_default c.args.b.now 0 c.if-i-b.false)
