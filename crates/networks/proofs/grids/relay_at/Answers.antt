use Prim.Native.Nat.{◌*◌, ◌≤◌, ◌<◌}
use mathlib.Core.Path.{◌∙◌}
use native.Mathlib.Omega.{arith}
use Rattle.networks.specs.Rings.{network_of}
use Rattle.cyclic.specs.Network.{Network}
use Rattle.networks.proofs.GridLaws.{relay-in, relay-out}
use Rattle.networks.proofs.grids.relay_at.Goals as goal

pub returns-then-c-m : goal.returns-then-c-m
returns-then-c-m c =
    let a = c.args in
    let C : Network = network_of a.ring a.table.now a.weights.now in
    let h : a.c < a.ring.size * a.ring.parts = omega arith in
    c.reading_at.ensures ∙ relay-in C a.j a.c h

pub returns-else-c-m : goal.returns-else-c-m
returns-else-c-m c =
    let a = c.args in
    let C : Network = network_of a.ring a.table.now a.weights.now in
    let h : a.ring.size * a.ring.parts ≤ a.c = omega arith in
    c.source_at.ensures ∙ relay-out C a.j a.c h
