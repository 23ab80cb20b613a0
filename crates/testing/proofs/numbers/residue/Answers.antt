use borrow.Author.Tests.{eq-eqb, ne_eqb}
use Rattle.testing.specs.Numbers.{residue_of}
use Rattle.testing.proofs.numbers.residue.Goals as goal

pub returns-then-n-eq0 : goal.returns-then-n-eq0
unfolding residue_of
returns-then-n-eq0 c = simp (eq-eqb _ _ c.if-n-eq0.true)

pub returns-else-n-eq0 : goal.returns-else-n-eq0
unfolding residue_of
returns-else-n-eq0 c = simp (ne_eqb _ _ c.if-n-eq0.false)
