use mathlib.Core.Path.{refl}
use Rattle.testing.specs.Numbers.{symbol_of}
use Rattle.testing.proofs.numbers.narrow.Goals as goal

pub returns : goal.returns
unfolding symbol_of
returns c = refl
