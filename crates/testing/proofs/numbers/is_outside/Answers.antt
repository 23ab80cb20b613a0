use borrow.Author.Tests.{lt-ltb, le-ltb}
use Rattle.testing.specs.Numbers.{outside_of}
use Rattle.testing.proofs.numbers.is_outside.Goals as goal

pub returns-then-a-lt1 : goal.returns-then-a-lt1
unfolding outside_of
returns-then-a-lt1 c = rw (lt-ltb _ _ c.if-a-lt1.true)

pub returns-else-a-lt1 : goal.returns-else-a-lt1
unfolding outside_of
returns-else-a-lt1 c = rw (le-ltb _ _ c.if-a-lt1.false)
