use borrow.Author.Rules.{rules}
use Rattle.testing.specs.Numbers.{mul_add_of}
use Rattle.testing.proofs.numbers.mul_add.Goals as goal

pub returns : goal.returns
unfolding mul_add_of
returns c = search rules
