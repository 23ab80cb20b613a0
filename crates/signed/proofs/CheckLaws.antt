-- The checks of the signed calls: those that all of them make first decide, or those of the call itself do; and what holds where they accept.
use Prim.Native.Nat.{ℕ, ◌*◌, ◌<◌}
use mathlib.Core.Path.{◌≡◌, sym, ap, ◌∙◌}
use mathlib.Core.Logic.{◌≢◌}
use mathlib.Core.Bool.{Bool, true, false, not, ◌&&◌}
use mathlib.Core.List.{List, [], ◌∷◌, ◌++◌}
use lib.ListN.{length}
use lib.Dec.{T, eqb, eqb→eq}
use lib.IntN.{ℤ}
use borrow.Author.Tests.{not-false, eq-eqb, ne_eqb}
use Rattle.std.specs.Prelude.{Result}
use Rattle.refusals.specs.declared.Code.{Code}
use Rattle.refusals.specs.declared.Refusal.{Refusal}
use Rattle.refusals.specs.Codes.{code, accepted, code_of_result, is_accepted, first_of}
use Rattle.refusals.proofs.Answers.{first-answers, second-answers}
use Rattle.refusals.proofs.CodeLaws.{none-holds}
use Rattle.lists.proofs.Searches.{T_and, true→T}
use Rattle.residues.specs.Primes.{is_prime, all_below}
use Rattle.residues.proofs.PrimeLaws.{prime-pos, true-prime}
use Rattle.plans.specs.declared.Plan.{Plan}
use Rattle.plans.specs.Plans.{in_bounds, length_fits, plan_checks, plan_code}
use Rattle.plans.proofs.PlanBounds.{bounds-known, some-users}
use Rattle.signed.specs.Caps.{cap_fits, all_in_cap}
use Rattle.signed.specs.SignedBlocks.{cap_checks, signed_upload_checks, signed_upload_code, signed_unmask_checks, signed_unmask_code, totals_checks, totals_code}
use Rattle.signed.proofs.CapLaws.{cap-known, one-room}

-- ---- two parts

abbrev pub shape_checks : Plan → ℕ → ℕ → Bool → List (Bool × Code)
shape_checks P m L sized = cap_checks P m L ++ (not sized, code 4) ∷ []

-- v is the answer to the first part, where `told` was handed over for whether the blocks have the length, and r says whether v accepts
module _ (P : Plan) (m L : ℕ) {sized : Bool} (own : List (Bool × Code)) (v : Result (Unit {0}) Refusal) {told r : Bool}
    (is : code_of_result v ≡ first_of (shape_checks P m L told)) (means : told ≡ sized) (asked : r ≡ is_accepted (code_of_result v))
  where
    meant : code_of_result v ≡ first_of (shape_checks P m L sized)
    meant = is ∙ ap (λ (t : Bool). first_of (shape_checks P m L t)) means

    pub shape-refuses : not r ≡ true → code_of_result v ≡ first_of (shape_checks P m L sized ++ own)
    shape-refuses = first-answers (shape_checks P m L sized) own v meant asked

    pub shape-passes : not r ≡ false → {d : Code} → d ≡ first_of own → d ≡ first_of (shape_checks P m L sized ++ own)
    shape-passes e h = h ∙ second-answers (shape_checks P m L sized) own v meant asked tt e

-- what `a == length && ..` tells, by its first test
module _ (a L : ℕ) (b : Bool) {r : Bool} where
  pub and_same : a ≡ L → r ≡ b → r ≡ (eqb a L && b)
  and_same e h = rw (eq-eqb a L e) h

  pub and-other : a ≢ L → r ≡ eqb a L → r ≡ (eqb a L && b)
  and-other n h = rw (ne_eqb a L n) (h ∙ ne_eqb a L n)

-- ---- what holds where the checks accept

pub record Shape (P : Plan) (m L : ℕ) : Type 0 where
  pub bounds : in_bounds P ≡ true
  pub prime : is_prime P.q ≡ true
  pub cap : cap_fits P m ≡ true
  pub fits : length_fits L ≡ true

pub shape : (P : Plan) (m L : ℕ) → not (in_bounds P) ≡ false → not (is_prime P.q) ≡ false → not (cap_fits P m) ≡ false → not (length_fits L) ≡ false
    → Shape P m L
shape P m L b p c l =
    record {
      bounds = not-false (in_bounds P) b;
      prime = not-false (is_prime P.q) p;
      cap = not-false (cap_fits P m) c;
      fits = not-false (length_fits L) l;
    }

-- a plan that its constructor makes, with a cap and a length
pub plan-shape : (P : Plan) (m L : ℕ) → accepted ≡ plan_code P → cap_fits P m ≡ true → length_fits L ≡ true → Shape P m L
plan-shape P m L e c l =
    let w = none-holds (plan_checks P) tt e in
    record { bounds = not-false (in_bounds P) w.0; prime = not-false (is_prime P.q) w.1.0; cap = c; fits = l }

module _ {P : Plan} {m L : ℕ} (s : Shape P m L) where
  pub positive : 0 < P.q
  positive = prime-pos (true-prime P.q s.prime)

  -- the cap leaves room for one reading of either sign
  pub reading-room : 2 * m < P.q
  reading-room = one-room (cap-known P m s.cap) (some-users (bounds-known P s.bounds).counts)

-- three lengths
pub lengths : (a b o L : ℕ) → not (eqb a L && eqb b L && eqb o L) ≡ false → (a ≡ L) × (b ≡ L) × (o ≡ L)
lengths a b o L e =
    let (both, out) = T_and (eqb a L && eqb b L) (eqb o L) (true→T (eqb a L && eqb b L && eqb o L) (not-false (eqb a L && eqb b L && eqb o L) e)) in
    let (first, second) = T_and (eqb a L) (eqb b L) both in
    (eqb→eq a L first, eqb→eq b L second, eqb→eq o L out)

told : (b : Bool) → not b ≡ false → T b
told b e = true→T b (not-false b e)

-- an upload
pub record Uploadable (P : Plan) (m L : ℕ) (readings : List ℤ) (key out : List ℕ) : Type 0 where
  pub shaped : Shape P m L
  pub size : length readings ≡ L
  pub key-size : length key ≡ L
  pub room : length out ≡ L
  pub inside : T (all_in_cap m readings)
  pub key_below : T (all_below P.q key)

pub uploadable : (P : Plan) (m L : ℕ) (readings : List ℤ) (key out : List ℕ) → accepted ≡ signed_upload_code P m L readings key out
    → Uploadable P m L readings key out
uploadable P m L readings key out e =
    let w = none-holds (signed_upload_checks P m L readings key out) tt e in
    let (a, b, o) = lengths (length readings) (length key) (length out) L w.1.1.1.1.0 in
    record {
      shaped = shape P m L w.0 w.1.0 w.1.1.0 w.1.1.1.0;
      size = a;
      key-size = b;
      room = o;
      inside = told (all_in_cap m readings) w.1.1.1.1.1.0;
      key_below = told (all_below P.q key) w.1.1.1.1.1.1.0;
    }

-- taking a key off
pub record Unmaskable (P : Plan) (m L : ℕ) (upload key : List ℕ) (out : List ℤ) : Type 0 where
  pub shaped : Shape P m L
  pub size : length upload ≡ L
  pub key-size : length key ≡ L
  pub room : length out ≡ L
  pub below : T (all_below P.q upload)
  pub key_below : T (all_below P.q key)

pub unmaskable : (P : Plan) (m L : ℕ) (upload key : List ℕ) (out : List ℤ) → accepted ≡ signed_unmask_code P m L upload key out
    → Unmaskable P m L upload key out
unmaskable P m L upload key out e =
    let w = none-holds (signed_unmask_checks P m L upload key out) tt e in
    let (a, b, o) = lengths (length upload) (length key) (length out) L w.1.1.1.1.0 in
    let (low, high) = T_and (all_below P.q upload) (all_below P.q key)
    (told (all_below P.q upload && all_below P.q key) w.1.1.1.1.1.0) in
    record { shaped = shape P m L w.0 w.1.0 w.1.1.0 w.1.1.1.0; size = a; key-size = b; room = o; below = low; key_below = high }

-- totals
pub record Showable (P : Plan) (m L : ℕ) (totals : List ℕ) (out : List ℤ) : Type 0 where
  pub shaped : Shape P m L
  pub size : length totals ≡ length out
  pub below : T (all_below P.q totals)

pub showable : (P : Plan) (m L : ℕ) (totals : List ℕ) (out : List ℤ) → accepted ≡ totals_code P m L totals out → Showable P m L totals out
showable P m L totals out e =
    let w = none-holds (totals_checks P m L totals out) tt e in
    let (a, o) = T_and (eqb (length totals) L) (eqb (length out) L) (told (eqb (length totals) L && eqb (length out) L) w.1.1.1.1.0) in
    record {
      shaped = shape P m L w.0 w.1.0 w.1.1.0 w.1.1.1.0;
      size = eqb→eq (length totals) L a ∙ sym (eqb→eq (length out) L o);
      below = told (all_below P.q totals) w.1.1.1.1.1.0;
    }
