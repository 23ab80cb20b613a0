use borrow.Author.Tests.{le-leb, lt-leb}
use mathlib.Core.Path.{◌≡◌, refl, sym, ap, ◌∙◌}
use mathlib.Core.Bool.{Bool, true, false}
use Prim.Native.Nat.{ℕ, ◌+◌}
use native.Mathlib.Omega.{arith}
use lib.Dec.{leb}
use lib.ListN.{length}
use Rattle.testing.specs.Numbers.{how_many}
use Rattle.testing.specs.Slices.{at, large_of}
use Rattle.testing.proofs.Loops.{counted, passed_over}
use Rattle.testing.proofs.slices.count_large.Goals as goal
use Rattle.testing.proofs.slices.count_large.Goals.{then-at-q, else-at-q}

-- The invariant: n counts the large numbers before i.

pub loop-i-init : goal.loop-i-init
unfolding how_many
loop-i-init c = (omega arith, refl)

pub loop-i-preserved : goal.loop-i-preserved
loop-i-preserved c =
    let s = c.loop-i in
    let a = c.args in
    let f : ℕ → Bool = λ k. leb a.q (at a.t.now k) in
    let m : s.n ≡ how_many s.i f = s.invariant.1 in
    elim c.if-at-q.branch [
      | then-at-q w ↦
          let more : c.if-at-q.n ≡ s.n + 1 = omega arith in
          let e : f s.i ≡ true = le-leb a.q (at a.t.now s.i) (omega arith) in
          (omega arith, more ∙ ap (λ (k : ℕ). k + 1) m ∙ sym (counted f s.i e))
      | else-at-q w ↦
          let stays : c.if-at-q.n ≡ s.n = omega arith in
          let e : f s.i ≡ false = lt-leb a.q (at a.t.now s.i) (omega arith) in
          (omega arith, stays ∙ m ∙ sym (passed_over f s.i e))
    ]

pub returns : goal.returns
unfolding large_of
returns c =
    let e : c.loop-i.i ≡ length c.args.t.now = omega arith in
    rw e at c.loop-i.invariant.1
