-- What a trailer says of the buffer that ends with it.
use Prim.Native.Nat.{ℕ, ◌+◌, ◌-◌, ◌≤◌}
use mathlib.Core.Path.{◌≡◌, refl}
use mathlib.Core.Bool.{Bool, true, false, not, ◌||◌}
use mathlib.Core.List.{List}
use native.Mathlib.Omega.{arith}
use lib.Dec.{eqb, ltb}
use lib.ListN.{length}
use borrow.Author.Tests.{ltb-false, eqb-true, not-false, le-ltb, eq-eqb}
use Rattle.lists.proofs.Searches.{false→not-T}
use Rattle.lists.specs.Lists.{at}
use Rattle.records.specs.Records.{mark_of, width_in, distance, start, bad_trailer}

pub record Trailer (B : List ℕ) : Type 0 where
  pub four : 4 ≤ length B
  pub first-mark : at B (length B - 2) ≡ 0x4b
  pub last-mark : at B (length B - 1) ≡ mark_of (width_in B)
  pub least : 8 + width_in B ≤ distance B
  pub inside : distance B ≤ length B

neither : (a b : Bool) → (a || b) ≡ false → (a ≡ false) × (b ≡ false)
neither true b e = absurd (false→not-T (true || b) e tt)
neither false b e = (refl, e)

pub trailer-of : (B : List ℕ) → bad_trailer B ≡ false → Trailer B
trailer-of B e =
    let a : Bool = ltb (length B) 4 in
    let b : Bool = eqb (at B (length B - 2)) 0x4b in
    let c : Bool = eqb (at B (length B - 1)) (mark_of (width_in B)) in
    let d : Bool = ltb (distance B) (8 + width_in B) in
    let (rest, inside) = neither (a || not b || not c || d) (ltb (length B) (distance B)) e in
    let (marks, least) = neither (a || not b || not c) d rest in
    let (front, last) = neither (a || not b) (not c) marks in
    let (four, mark) = neither a (not b) front in
    record {
      four = ltb-false (length B) 4 four;
      first-mark = eqb-true (at B (length B - 2)) 0x4b (not-false b mark);
      last-mark = eqb-true (at B (length B - 1)) (mark_of (width_in B)) (not-false c last);
      least = ltb-false (distance B) (8 + width_in B) least;
      inside = ltb-false (length B) (distance B) inside;
    }

pub trailer-good : (B : List ℕ) → Trailer B → bad_trailer B ≡ false
trailer-good B t =
    simp (
      le-ltb (length B) 4 t.four,
      eq-eqb (at B (length B - 2)) 0x4b t.first-mark,
      eq-eqb (at B (length B - 1)) (mark_of (width_in B)) t.last-mark,
      le-ltb (distance B) (8 + width_in B) t.least,
      le-ltb (length B) (distance B) t.inside,
    )

-- the bytes from the record's first on: the counts, q and the trailer at least
pub start-room : (B : List ℕ) → bad_trailer B ≡ false → start B + (8 + width_in B) ≤ length B
start-room B e = let t = trailer-of B e in omega (arith, t.least, t.inside)
