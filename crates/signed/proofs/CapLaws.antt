-- Laws of caps, and of readings inside one.
use Prim.Native.Nat.{ℕ, zero, suc, ◌+◌, ◌*◌, ◌≤◌, ◌<◌}
use mathlib.Core.Path.{◌≡◌, refl, sym, ◌∙◌, subst}
use mathlib.Core.Logic.{◌⊎◌, inl, inr, ⊎_elim, ◌↔◌}
use mathlib.Core.Bool.{Bool, true, false, not, ◌&&◌}
use mathlib.Core.List.{List, [], ◌∷◌}
use native.Mathlib.Nat.{mul-le-mul}
use native.Mathlib.Numerals.{add-one}
use native.Mathlib.Decide.{ℕ_discrete, dec_lt}
use native.Mathlib.Omega.{arith}
use lib.Dec.{T, eqb, ltb, leb→le, le→leb, ltb→lt}
use lib.IntN.{ℤ, pos, neg_ℤ, nat_abs}
use lib.Signed.{le_z, le_z_yes, ◌≤ℤ◌}
use lib.ListN.{length, drop, get_or, drop_of_length-le}
use lib.Seq.{drop-cons}
use borrow.Author.Tests.{not-true, eqb-false, eq-eqb, ne_eqb, lt-ltb, le-ltb}
use Rattle.lists.proofs.Searches.{T_and, and_T, T-ext, true→T, T→true}
use Rattle.integers.proofs.Parts.{one-part, abs-parts, neg-up, neg-dn, order-parts, parts-order}
use Rattle.plans.specs.declared.Plan.{Plan}
use Rattle.plans.specs.Plans.{users_of}
use Rattle.signed.specs.Caps.{is_in_cap, all_in_cap, cap_fits}

-- ---- a cap that fits: of n users and a prime q

pub record Cap (n q m : ℕ) : Type 0 where
  pub some : 0 < m
  pub room : 2 * n * m < q

pub cap-known : (P : Plan) (m : ℕ) → cap_fits P m ≡ true → Cap (users_of P) P.q m
cap-known P m e =
    let (some, room) = T_and (not (eqb m 0)) (ltb (2 * users_of P * m) P.q) (true→T (cap_fits P m) e) in
    let none : m ≡ 0 → ⊥ = eqb-false m 0 (not-true (eqb m 0) (T→true (not (eqb m 0)) some)) in
    record { some = omega (arith, none); room = ltb→lt (2 * users_of P * m) P.q room }

-- it leaves room for one reading of either sign
pub one-room : {n q m : ℕ} → Cap n q m → 0 < n → 2 * m < q
one-room {n} {q} {m} cap h = omega (arith, cap.room, mul-le-mul {n₁ = 2} {m₁ = m} {n₂ = 2 * n} {m₂ = m} (omega arith) (omega arith))

-- and one that doesn't: "16 when m is 0 or 2 × U × V × m is not below q"
pub cap-refused : (P : Plan) (m : ℕ) → (cap_fits P m ≡ false) ↔ ((m ≡ 0) ⊎ (P.q ≤ 2 * users_of P * m))
cap-refused P m = (
  (λ e. go (ℕ_discrete m 0) (dec_lt (2 * users_of P * m) P.q) e),
  ⊎_elim (λ (z : m ≡ 0). rw (eq-eqb m 0 z)) (λ (h : P.q ≤ 2 * users_of P * m). rw (le-ltb (2 * users_of P * m) P.q h) (and-false (not (eqb m 0)))),
)
  where
    and-false : (b : Bool) → (b && false) ≡ false
    and-false true = refl
    and-false false = refl

    go : Dec (m ≡ 0) → Dec (2 * users_of P * m < P.q) → cap_fits P m ≡ false → (m ≡ 0) ⊎ (P.q ≤ 2 * users_of P * m)
    go (yes z) d e = inl z
    go (no n) (yes l) e =
        let fits : cap_fits P m ≡ true = rw (ne_eqb m 0 n, lt-ltb (2 * users_of P * m) P.q l) in
        absurd (subst (λ (b : Bool). T b) (sym fits ∙ e) tt)
    go (no n) (no l) e = inr (omega (arith, l))

-- ---- one reading after the other, as the code looks at them

pub cap-step : (m : ℕ) (s : List ℤ) (k : ℕ) → k < length s → all_in_cap m (drop k s) ≡ (is_in_cap m (get_or s k (pos 0)) && all_in_cap m (drop (k + 1) s))
unfolding all_in_cap
cap-step m s k h = rw (drop-cons s k (pos 0) h, add-one k)

pub cap-end : (m : ℕ) (s : List ℤ) (k : ℕ) → length s ≤ k → all_in_cap m (drop k s) ≡ true
unfolding all_in_cap
cap-end m s k h = rw (drop_of_length-le s h)

-- each reading of the list is inside the cap, and so is what stands past its end
pub cap-at : (m : ℕ) (s : List ℤ) → T (all_in_cap m s) → (i : ℕ) → nat_abs (get_or s i (pos 0)) ≤ m
unfolding all_in_cap
cap-at m [] t i = omega arith
cap-at m (w ∷ s) t zero = leb→le (nat_abs w) m (T_and (is_in_cap m w) (all_in_cap m s) t).0
cap-at m (w ∷ s) t (suc i) = cap-at m s (T_and (is_in_cap m w) (all_in_cap m s) t).1 i

pub at_cap : (m : ℕ) (s : List ℤ) → ((i : ℕ) → i < length s → nat_abs (get_or s i (pos 0)) ≤ m) → T (all_in_cap m s)
unfolding all_in_cap
at_cap m [] h = tt
at_cap m (w ∷ s) h = and_T (is_in_cap m w) (all_in_cap m s) (le→leb (nat_abs w) m (h 0 (omega arith))) (at_cap m s (λ i l. h (suc i) (omega arith)))

-- a larger cap
pub cap-grows : (m n : ℕ) (s : List ℤ) → m ≤ n → T (all_in_cap m s) → T (all_in_cap n s)
cap-grows m n s h t = at_cap n s (λ i l. omega (arith, cap-at m s t i))

-- ---- what the test says

-- "from −m to m"
pub cap-means : (m : ℕ) (w : ℤ) → T (is_in_cap m w) ↔ ((neg_ℤ (pos m) ≤ℤ w) × (w ≤ℤ pos m))
cap-means m w = (
  (λ t.
      let h : nat_abs w ≤ m = leb→le (nat_abs w) m t in (
        parts-order (neg_ℤ (pos m)) w (omega (arith, abs-parts w, neg-up (pos m), neg-dn (pos m))),
        parts-order w (pos m) (omega (arith, abs-parts w)),
      )),
  (λ h. le→leb (nat_abs w) m
      (omega (arith, abs-parts w, one-part w, neg-up (pos m), neg-dn (pos m), order-parts (neg_ℤ (pos m)) w h.0, order-parts w (pos m) h.1))),
)

-- the two tests that the code makes
pub cap-test : (m : ℕ) (w : ℤ) → (le_z w (pos m) && le_z (neg_ℤ (pos m)) w) ≡ is_in_cap m w
cap-test m w =
    T-ext (le_z w (pos m) && le_z (neg_ℤ (pos m)) w) (is_in_cap m w)
    (λ t. let (high, low) = T_and (le_z w (pos m)) (le_z (neg_ℤ (pos m)) w) t in (cap-means m w).1 (le_z_yes low, le_z_yes high))
    (λ t. let (low, high) = (cap-means m w).0 t in and_T (le_z w (pos m)) (le_z (neg_ℤ (pos m)) w) high.le low.le)
