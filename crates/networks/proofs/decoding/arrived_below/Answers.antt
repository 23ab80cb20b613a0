use Prim.Native.Nat.{ℕ}
use mathlib.Core.Path.{◌≡◌, refl, sym, ap, ◌∙◌}
use native.Mathlib.Omega.{arith}
use borrow.Author.Tests.{lt-ltb, le-ltb}
use lib.Dec.{ltb}
use Rattle.lists.specs.Bits.{has_bit}
use Rattle.lists.specs.Search.{all_to}
use Rattle.lists.specs.Lists.{at}
use Rattle.lists.proofs.Searches.{all-next, all-fails}
use Rattle.networks.proofs.ValueLaws.{came-yes, came-not, came-no}
use Rattle.networks.proofs.decoding.arrived_below.Goals as goal
use Rattle.networks.proofs.decoding.arrived_below.Goals.{else-has_arrived-via-then-has_arrived+else-sums-j, else-has_arrived-via-else-has_arrived}
use Rattle.networks.proofs.decoding.arrived_below.Invariants.{test}

pub loop-j-init : goal.loop-j-init
unfolding all_to
loop-j-init c = refl

pub returns-then-sums-j : goal.returns-then-sums-j
unfolding test
returns-then-sums-j c =
    let a = c.args in
    sym (all-fails (test a.q a.reported a.sums.now) c.loop-j.j a.count
    c.loop-j-test.true
    (came-no _ _ (sym c.has_arrived.ensures ∙ c.if-has_arrived.true) (le-ltb _ _ c.if-sums-j.true)))

pub loop-j-preserved : goal.loop-j-preserved
unfolding test
loop-j-preserved c =
    let l = c.loop-j in
    let a = c.args in
    all-next (test a.q a.reported a.sums.now) l.j l.invariant
    (elim c.else-has_arrived.branch [
      | else-has_arrived-via-then-has_arrived+else-sums-j w ↦
          came-yes (has_bit a.reported l.j) (ltb (at a.sums.now l.j) a.q) (lt-ltb _ _ w.if-sums-j.false)
      | else-has_arrived-via-else-has_arrived w ↦
          came-not (has_bit a.reported l.j) (ltb (at a.sums.now l.j) a.q) (sym c.has_arrived.ensures ∙ w.if-has_arrived.false)
    ])

pub returns : goal.returns
unfolding test
returns c =
    let a = c.args in
    let e : c.loop-j.j ≡ a.count = omega (arith, c.loop-j-test.false, c.loop-j.auto.j-end) in
    sym (ap (λ (k : ℕ). all_to k (test a.q a.reported a.sums.now)) (sym e) ∙ c.loop-j.invariant)
