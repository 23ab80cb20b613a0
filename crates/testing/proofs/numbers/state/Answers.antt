use Rattle.testing.specs.Numbers.{state_of}
use Rattle.testing.proofs.numbers.state.Goals as goal

pub returns : goal.returns
unfolding state_of
returns c = cc
