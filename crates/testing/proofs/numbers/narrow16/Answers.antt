use mathlib.Core.Path.{refl}
use Rattle.testing.specs.Numbers.{low}
use Rattle.testing.proofs.numbers.narrow16.Goals as goal

pub returns : goal.returns
unfolding low
returns c = refl
