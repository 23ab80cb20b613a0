use Prim.Native.Nat.{ℕ, ◌+◌, ◌*◌, ◌%◌, ◌≤◌, ◌<◌}
use mathlib.Core.Path.{◌≡◌, refl, ap, ◌∙◌}
use native.Mathlib.Omega.{arith}
use lib.ListN.{length}
use Rattle.residues.proofs.Congruence.{residue-mod, to-mod, of_eq, of-rem, c-add, c-trans, c-refl}
use Rattle.lists.specs.Lists.{at}
use Rattle.lists.specs.Sums.{sum_to}
use Rattle.residues.proofs.RunningSum.{kept-none, kept_next}
use Rattle.cyclic.specs.Network.{weight}
use Rattle.networks.specs.Rings.{upload_of}
use Rattle.networks.proofs.RingLaws.{weight-place}
use Rattle.networks.proofs.uploads.combine.Goals as goal
use Rattle.networks.proofs.uploads.combine.Invariants.{term}
use Rattle.networks.proofs.uploads.combine.Goals.{Start}

place : (s : Start) (i : ℕ) → i ≤ s.args.ring.parts
    → (s.args.k * s.args.ring.links + s.args.l) * (s.args.ring.parts + 1) + i < length s.args.weights.now
place s i h =
    let a = s.args in
    omega (arith, weight-place a.ring s.requires.0 a.k a.l i s.requires.3 s.requires.4 h, s.requires.2)

pub loop-s-init : goal.loop-s-init
loop-s-init c = kept-none _ _

pub bounds-weights-base : goal.bounds-weights-base
bounds-weights-base c = place (goal.at.bounds-weights-base c).Start c.loop-s.s (omega (arith, c.loop-s-test.true))

pub loop-s-preserved : goal.loop-s-preserved
unfolding term weight
loop-s-preserved c =
    let a = c.args in
    let l = c.loop-s in
    c.mul_add_mod-sum.ensures
    ∙ kept_next a.ring.q (term a.ring a.weights.now a.k a.l a.reading.now) l.s l.sum _
    c.requires.1 l.invariant refl

pub bounds-weights-base-2 : goal.bounds-weights-base-2
bounds-weights-base-2 c = place (goal.at.bounds-weights-base-2 c).Start c.args.ring.parts (omega arith)

pub returns : goal.returns
unfolding upload_of term weight
returns c =
    let a = c.args in
    let l = c.loop-s in
    let e : l.s ≡ a.ring.parts = omega (arith, c.loop-s-test.false, l.auto.s-end) in
    c.mul_add_mod.ensures
    ∙ residue-mod a.ring.q _ c.requires.1
    ∙ to-mod (c-add (c-trans (of_eq l.invariant)
    (of-rem a.ring.q (sum_to l.s (term a.ring a.weights.now a.k a.l a.reading.now)))) c-refl)
    ∙ ap (λ (n : ℕ). (sum_to n (term a.ring a.weights.now a.k a.l a.reading.now) + at a.weights.now
    ((a.k * a.ring.links + a.l) * (a.ring.parts + 1) + a.ring.parts) * a.key) % a.ring.q) e
