-- The invariant: up to number k the buffer is what it is to be.
use mathlib.Core.Path.{◌≡◌, refl, sym, ap, ◌∙◌}
use mathlib.Core.List.{List, map}
use Prim.Native.Nat.{ℕ, ◌+◌, ◌-◌, ◌*◌, ◌≤◌, ◌<◌}
use native.Mathlib.Omega.{arith}
use lib.ListN.{length, take, drop, length-map}
use Rattle.lists.specs.Lists.{at}
use Rattle.lists.proofs.ListLaws.{map_get}
use Rattle.lists.proofs.Fronts.{row_fits, length_part, front-none, front-part}
use Rattle.numerals.specs.Bytes.{bytes_of, bytes_of_all, cut}
use Rattle.numerals.proofs.Bytes.{length-all, all-at}
use Rattle.numerals.proofs.write_all.Goals as goal

lent : (w k : ℕ) (out : List ℕ) → w * k + w ≤ length out → length (take (w * k + w - w * k) (drop (w * k) out)) ≡ w
lent w k out h = length_part (w * k + w - w * k) (w * k) out (omega arith) ∙ omega arith

pub loop-k-init : goal.loop-k-init
loop-k-init c =
    let a = c.args in
    let K : List ℕ = map (cut a.width) a.numbers.now in
    front-none a.out.now (bytes_of_all a.width K) (a.width * 0) (omega arith)
    (length-all a.width K ∙ ap (◌*◌ a.width) (length-map a.numbers.now (cut a.width)) ∙ sym c.requires)

pub loop-k-preserved : goal.loop-k-preserved
loop-k-preserved c =
    let room : (let w : ℕ = c.args.width in w * c.loop-k.k + w ≤ length c.loop-k.out) = let a = c.args in
    omega (
      arith,
      c.loop-k.invariant.whole,
      c.requires,
      row_fits (length a.numbers.now) a.width c.loop-k.k (length a.numbers.now * a.width) c.loop-k-test.true refl,
    ) in
    let s = c.loop-k in
    let a = c.args in
    let w : ℕ = a.width in
    let K : List ℕ = map (cut w) a.numbers.now in
    let n : ℕ = w * s.k + w - w * s.k in
    let same : w ≡ n = omega arith in
    let inside : w * s.k + w ≤ length s.out = room in
    let some : s.k < length a.numbers.now = c.loop-k-test.true in
    front-part _ _ s.out (w * s.k) n (w * (s.k + 1)) c.write_number.new.out (omega arith) s.invariant (omega arith)
    (c.write_number.ensures
    ∙ ap (λ (m : ℕ). bytes_of m (cut m (at a.numbers.now s.k))) (lent w s.k s.out inside)
    ∙ ap (bytes_of w) (sym (map_get (cut w) a.numbers.now s.k 0 0 some))
    ∙ sym (all-at w K s.k (omega (arith, length-map a.numbers.now (cut w))))
    ∙ ap (λ (m : ℕ). take m (drop (w * s.k) (bytes_of_all w K))) same)
