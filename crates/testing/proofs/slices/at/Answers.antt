use borrow.Author.Rules.{rules}
use mathlib.Core.Path.{sym}
use lib.ListN.{get_or-eq_default}
use Rattle.testing.specs.Slices.{at}
use Rattle.testing.proofs.slices.at.Goals as goal

pub returns-then-i-t : goal.returns-then-i-t
unfolding at
returns-then-i-t c = search rules

pub returns-else-i-t : goal.returns-else-i-t
unfolding at
returns-else-i-t c = sym (get_or-eq_default c.args.t.now 0 c.if-i-t.false)
