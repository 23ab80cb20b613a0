use Prim.Native.Nat.{◌+◌, ◌-◌, ◌%◌, ◌≤◌, ◌<◌}
use mathlib.Core.Path.{◌∙◌}
use native.Mathlib.Omega.{arith}
use Rattle.networks.specs.Rings.{network_of}
use Rattle.cyclic.specs.Network.{Network, link_of}
use Rattle.networks.proofs.GridLaws.{reading-linked, reading-unlinked}
use Rattle.networks.proofs.grids.reading_at.Goals as goal

pub returns-then-l-ring : goal.returns-then-l-ring
unfolding link_of
returns-then-l-ring c =
    let a = c.args in
    let C : Network = network_of a.ring a.table.now a.weights.now in
    let h : (a.k + (a.ring.size - a.j)) % a.ring.size < a.ring.links = omega arith in
    c.weight_at.ensures ∙ reading-linked C a.j a.k a.s h

pub returns-else-l-ring : goal.returns-else-l-ring
unfolding link_of
returns-else-l-ring c =
    let a = c.args in
    let C : Network = network_of a.ring a.table.now a.weights.now in
    let h : a.ring.links ≤ (a.k + (a.ring.size - a.j)) % a.ring.size = omega arith in
    reading-unlinked C a.j a.k a.s h
