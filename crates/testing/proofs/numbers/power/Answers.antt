use mathlib.Core.Path.{◌≡◌}
use native.Mathlib.Numerals.{add-one}
use native.Mathlib.Omega.{arith}
use Rattle.testing.specs.Numbers.{power_of}
use Rattle.testing.proofs.numbers.power.Goals as goal

-- The invariant: the product so far is the power k.

pub loop-k-init : goal.loop-k-init
unfolding power_of
loop-k-init c = c.residue-p.ensures

pub loop-k-preserved : goal.loop-k-preserved
unfolding power_of
loop-k-preserved c = rw add-one (cc)

pub returns : goal.returns
returns c =
    let e : c.loop-k.k ≡ c.args.n = omega arith in
    rw e at c.loop-k.invariant
