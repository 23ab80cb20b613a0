use Rattle.testing.specs.Numbers.{drawn_of}
use Rattle.testing.proofs.numbers.drawn.Goals as goal

pub returns : goal.returns
unfolding drawn_of
returns c = cc
