-- The invariant: the product so far is the power k.
use mathlib.Core.Path.{◌≡◌}
use Rattle.testing.specs.Numbers.{power_of}
use Rattle.testing.proofs.numbers.power.Given as goal

abbrev pub invariant-loop-k : goal.invariant-loop-k
invariant-loop-k l = l.p ≡ power_of l.q l.a l.k
