use Rattle.testing.specs.Numbers.{over_of}
use Rattle.testing.proofs.numbers.over.Goals as goal

pub returns-then-fault : goal.returns-then-fault
unfolding over_of
returns-then-fault c = rw c.if-fault.true

pub returns-else-fault : goal.returns-else-fault
unfolding over_of
returns-else-fault c = rw c.if-fault.false
