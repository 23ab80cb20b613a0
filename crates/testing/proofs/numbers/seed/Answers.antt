use Rattle.testing.specs.Numbers.{seed_of}
use Rattle.testing.proofs.numbers.seed.Goals as goal

pub returns : goal.returns
unfolding seed_of
returns c = cc
