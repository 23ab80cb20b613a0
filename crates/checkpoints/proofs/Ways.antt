-- What a trailer says of the bytes that end with it, and the way back from save to save.
use Prim.Native.Nat.{ℕ, zero, suc, ◌-◌, ◌≤◌, ◌<◌}
use mathlib.Core.Path.{◌≡◌, ap, ◌∙◌}
use mathlib.Core.Bool.{Bool, true, false, not, ◌&&◌, ◌||◌}
use mathlib.Core.List.{List}
use native.Mathlib.Omega.{arith}
use lib.Dec.{eqb, ltb}
use borrow.Author.Tests.{ltb-false, eqb-true, not-false, le-ltb, eq-eqb}
use Rattle.lists.specs.Lists.{at}
use Rattle.lists.proofs.Searches.{T→true, true→T, not-T→false, false→not-T, T_and, or_left, or_right}
use Rattle.checkpoints.specs.Checkpoints.{distance_at, bad_trailer_at, end_back, bad_way}

pub record TrailerAt (B : List ℕ) (e : ℕ) : Type 0 where
  pub four : 4 ≤ e
  pub first-mark : at B (e - 2) ≡ 0x4b
  pub last-mark : at B (e - 1) ≡ 0x52
  pub least : 20 ≤ distance_at B e
  pub inside : distance_at B e ≤ e

-- neither of two tests holds
left_false : (a b : Bool) → (a || b) ≡ false → a ≡ false
left_false a b e = not-T→false a (λ t. false→not-T (a || b) e (or_left a b t))

right-false : (a b : Bool) → (a || b) ≡ false → b ≡ false
right-false a b e = not-T→false b (λ t. false→not-T (a || b) e (or_right a b t))

pub trailer-at : (B : List ℕ) (e : ℕ) → bad_trailer_at B e ≡ false → TrailerAt B e
trailer-at B e n =
    let a : Bool = ltb e 4 in
    let b : Bool = eqb (at B (e - 2)) 0x4b in
    let c : Bool = eqb (at B (e - 1)) 0x52 in
    let d : Bool = ltb (distance_at B e) 20 in
    let rest : (a || not (b && c) || d) ≡ false = left_false (a || not (b && c) || d) (ltb e (distance_at B e)) n in
    let marks : (a || not (b && c)) ≡ false = left_false (a || not (b && c)) d rest in
    let (first, last) = T_and b c (true→T (b && c) (not-false (b && c) (right-false a (not (b && c)) marks))) in
    record {
      four = ltb-false e 4 (left_false a (not (b && c)) marks);
      first-mark = eqb-true (at B (e - 2)) 0x4b (T→true b first);
      last-mark = eqb-true (at B (e - 1)) 0x52 (T→true c last);
      least = ltb-false (distance_at B e) 20 (right-false (a || not (b && c)) d rest);
      inside = ltb-false e (distance_at B e) (right-false (a || not (b && c) || d) (ltb e (distance_at B e)) n);
    }

pub trailer-good : (B : List ℕ) (e : ℕ) → TrailerAt B e → bad_trailer_at B e ≡ false
trailer-good B e t =
    simp (
      le-ltb e 4 t.four,
      eq-eqb (at B (e - 2)) 0x4b t.first-mark,
      eq-eqb (at B (e - 1)) 0x52 t.last-mark,
      le-ltb (distance_at B e) 20 t.least,
      le-ltb e (distance_at B e) t.inside,
    )

-- ---- step by step

module _ (B : List ℕ) (left e : ℕ) (some : 0 < left) where
  one_more : left ≡ suc (left - 1)
  one_more = omega arith

  pub way-bad : bad_trailer_at B e ≡ true → bad_way B left e ≡ true
  unfolding bad_way
  way-bad t = ap (λ (n : ℕ). bad_way B n e) one_more ∙ ap (λ (b : Bool). b || bad_way B (left - 1) (e - distance_at B e)) t

  pub way_on : bad_trailer_at B e ≡ false → bad_way B left e ≡ bad_way B (left - 1) (e - distance_at B e)
  unfolding bad_way
  way_on t = ap (λ (n : ℕ). bad_way B n e) one_more ∙ ap (λ (b : Bool). b || bad_way B (left - 1) (e - distance_at B e)) t

  pub end_on : end_back B left e ≡ end_back B (left - 1) (e - distance_at B e)
  unfolding end_back
  end_on = ap (λ (n : ℕ). end_back B n e) one_more

pub way_end : (B : List ℕ) (left e : ℕ) → left ≤ 0 → bad_way B left e ≡ bad_trailer_at B e
unfolding bad_way
way_end B left e h = ap (λ (n : ℕ). bad_way B n e) {x = left} {y = 0} (omega arith)

pub end-end : (B : List ℕ) (left e : ℕ) → left ≤ 0 → end_back B left e ≡ e
unfolding end_back
end-end B left e h = ap (λ (n : ℕ). end_back B n e) {x = left} {y = 0} (omega arith)

-- a way without a bad trailer ends with a good one, within the bytes
pub way-good : (B : List ℕ) (steps e : ℕ) → bad_way B steps e ≡ false → TrailerAt B (end_back B steps e) × (end_back B steps e ≤ e)
unfolding bad_way end_back
way-good B zero e n = (trailer-at B e n, omega arith)
way-good B (suc steps) e n =
    let (t, h) = way-good B steps (e - distance_at B e) (right-false (bad_trailer_at B e) (bad_way B steps (e - distance_at B e)) n) in
    (t, omega arith)
