use borrow.Author.Tests.{eq-eqb, ne_eqb}
use mathlib.Core.Path.{◌≡◌, refl, sym, ◌∙◌}
use mathlib.Core.Bool.{Bool}
use Prim.Native.Nat.{ℕ}
use native.Mathlib.Omega.{arith}
use lib.Dec.{eqb}
use lib.ListN.{length}
use Rattle.lists.specs.Search.{all_to}
use Rattle.lists.proofs.Searches.{all-next, all-fails}
use Rattle.testing.specs.Slices.{at, same_front}
use Rattle.testing.proofs.slices.same.Goals as goal

-- The invariant: nothing differs up to i.

pub loop-i-init : goal.loop-i-init
unfolding all_to
loop-i-init c = refl

pub returns-then-at : goal.returns-then-at
unfolding same_front
returns-then-at c =
    let a = c.args in
    let f : ℕ → Bool = λ k. eqb (at a.s.now k) (at a.t.now k) in
    sym (all-fails f c.loop-i.i (length a.s.now) c.loop-i-test.true
    (ne_eqb _ _ (λ z. c.if-at.true (c.at.ensures ∙ z ∙ sym c.at-in-loop-i.ensures))))

pub loop-i-preserved : goal.loop-i-preserved
loop-i-preserved c =
    let a = c.args in
    let s = c.loop-i in
    let f : ℕ → Bool = λ k. eqb (at a.s.now k) (at a.t.now k) in
    all-next f s.i s.invariant (eq-eqb _ _ (sym c.at.ensures ∙ c.if-at.false ∙ c.at-in-loop-i.ensures))

pub returns : goal.returns
unfolding same_front
returns c =
    let a = c.args in
    let e : c.loop-i.i ≡ length a.s.now = omega arith in
    sym (rw e at c.loop-i.invariant)
