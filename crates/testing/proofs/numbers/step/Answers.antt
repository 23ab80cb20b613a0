use mathlib.Core.Path.{refl}
use Rattle.testing.specs.Numbers.{step_of}
use Rattle.testing.proofs.numbers.step.Goals as goal

pub returns : goal.returns
unfolding step_of
returns c = refl
