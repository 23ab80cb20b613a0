use borrow.Author.Tests.{lt-ltb, le-ltb}
use Rattle.texts.specs.Texts.{typed}
use Rattle.texts.proofs.Line.put.Goals as goal

pub returns-then-self-lt-PLACES : goal.returns-then-self-lt-PLACES
unfolding typed
returns-then-self-lt-PLACES c = simp (lt-ltb _ _ c.if-self-lt-PLACES.true)

pub returns-else-self-lt-PLACES : goal.returns-else-self-lt-PLACES
unfolding typed
returns-else-self-lt-PLACES c = simp (le-ltb _ _ c.if-self-lt-PLACES.false)
