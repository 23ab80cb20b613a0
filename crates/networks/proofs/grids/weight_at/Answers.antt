use mathlib.Core.Path.{refl}
use native.Mathlib.Omega.{arith}
use Rattle.cyclic.specs.Network.{weight}
use Rattle.networks.proofs.RingLaws.{weight-place}
use Rattle.networks.proofs.grids.weight_at.Goals as goal

pub bounds-weights-k : goal.bounds-weights-k
bounds-weights-k c =
    let a = c.args in
    omega (arith, weight-place a.ring c.requires.0.counted a.k a.l a.s c.requires.1 c.requires.2 c.requires.3, c.requires.0.weights)

pub returns : goal.returns
unfolding weight
returns c = refl
