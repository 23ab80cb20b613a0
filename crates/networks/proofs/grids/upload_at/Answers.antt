use Prim.Native.Nat.{ℕ, ◌+◌, ◌-◌, ◌*◌, ◌/◌, ◌%◌, ◌≤◌, ◌<◌}
use mathlib.Core.Path.{◌≡◌, ap, ◌∙◌}
use native.Mathlib.Omega.{arith}
use Rattle.networks.specs.Rings.{network_of}
use Rattle.cyclic.specs.Network.{Network}
use Rattle.lists.specs.Lists.{at}
use Rattle.residues.proofs.PrimeLaws.{prime-pos}
use Rattle.residues.proofs.Congruence.{residue-mod}
use Rattle.networks.proofs.GridLaws.{upload-in, upload-other, upload-out}
use Rattle.networks.proofs.grids.upload_at.Goals as goal

pub returns-then-c-m : goal.returns-then-c-m
returns-then-c-m c =
    let a = c.args in
    let C : Network = network_of a.ring a.table.now a.weights.now in
    let h : a.ring.size * a.ring.parts ≤ a.c = omega arith in
    c.mul_mod.ensures
    ∙ residue-mod a.ring.q (c.weight_at-w.result * at a.table.now
    (a.k * a.ring.rate + (a.c - a.ring.size * a.ring.parts)))
    (prime-pos c.requires.0.prime)
    ∙ ap (λ (z : ℕ). z * at a.table.now (a.k * a.ring.rate + (a.c - a.ring.size * a.ring.parts)) % a.ring.q)
    c.weight_at-w.ensures
    ∙ upload-out C a.k a.l a.c h

pub returns-then-c-ring : goal.returns-then-c-ring
returns-then-c-ring c =
    let a = c.args in
    let C : Network = network_of a.ring a.table.now a.weights.now in
    let h : a.c < a.ring.size * a.ring.parts = omega arith in
    let e : a.c / a.ring.parts ≡ a.k = omega arith in
    c.weight_at.ensures ∙ upload-in C a.k a.l a.c h e

pub returns-else-c-ring : goal.returns-else-c-ring
returns-else-c-ring c =
    let a = c.args in
    let C : Network = network_of a.ring a.table.now a.weights.now in
    let h : a.c < a.ring.size * a.ring.parts = omega arith in
    upload-other C a.k a.l a.c h c.if-c-ring.false
