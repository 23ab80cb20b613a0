use Prim.Native.Nat.{ℕ, ◌+◌, ◌*◌, ◌%◌}
use mathlib.Core.Path.{◌≡◌, ap, ◌∙◌}
use native.Mathlib.Omega.{arith}
use Rattle.networks.specs.Rings.{network_of}
use Rattle.cyclic.specs.Network.{Network, heard}
use Rattle.cyclic.specs.Decoding.{on_source}
use Rattle.lists.specs.Lists.{at}
use Rattle.lists.specs.Sums.{sum_to}
use Rattle.residues.proofs.RunningSum.{kept-none, kept_next}
use Rattle.residues.proofs.PrimeLaws.{prime-pos}
use Rattle.networks.proofs.grids.source_at.Goals as goal
use Rattle.networks.proofs.grids.source_at.Invariants.{term}

pub loop-l-init : goal.loop-l-init
loop-l-init c = kept-none _ _

pub loop-l-preserved : goal.loop-l-preserved
unfolding term heard
loop-l-preserved c =
    let a = c.args in
    let l = c.loop-l in
    let C : Network = network_of a.ring a.table.now a.weights.now in
    c.mul_add_mod-sum.ensures
    ∙ kept_next a.ring.q (term C a.j a.s) l.l l.sum _ (prime-pos c.requires.0.prime) l.invariant
    (ap (λ (z : ℕ). z * at a.table.now ((a.j + l.l) % a.ring.size * a.ring.rate + a.s)) c.weight_at-w.ensures)

pub returns : goal.returns
unfolding term on_source
returns c =
    let a = c.args in
    let e : c.loop-l.l ≡ a.ring.links = omega (arith, c.loop-l-test.false, c.loop-l.auto.l-end) in
    c.loop-l.invariant ∙ ap (λ (n : ℕ). sum_to n (term (network_of a.ring a.table.now a.weights.now) a.j a.s) % a.ring.q) e
