-- "A total symbol t is shown as t when 2 × t is below q and as t − q otherwise. Where demand 2 gives the total, the shown one equals the true sum of the
-- readings."
use Prim.Native.Nat.{ℕ, zero, suc, ◌+◌, ◌-◌, ◌*◌, ◌%◌, ◌≤◌, ◌<◌}
use mathlib.Core.Path.{◌≡◌, refl, sym, ap, ◌∙◌}
use mathlib.Core.List.{List, map}
use native.Mathlib.Nat.{mod-lt, mod-eq_of_lt, mul-le-mul}
use native.Mathlib.Decide.{dec_lt}
use native.Mathlib.Omega.{arith}
use lib.Dec.{T}
use lib.IntN.{ℤ, pos, negsuc, ◌+ℤ◌, ◌-ℤ◌, nat_abs}
use lib.ListN.{length, take, drop, length-map}
use lib.Seq.{get_or-take, get_or-drop}
use borrow.Author.Tests.{lt-ltb, le-ltb}
use Rattle.lists.specs.Lists.{tab}
use Rattle.lists.specs.Sums.{sum_to}
use Rattle.lists.proofs.Fronts.{row_fits, length_part}
use Rattle.lists.proofs.ListLaws.{map_get, map-tab, tab-cong, tab-get}
use Rattle.lists.proofs.Sums as Sums
use Rattle.residues.proofs.Congruence.{Cong, to-mod, of-rem, c-trans, c-add, of_eq}
use Rattle.integers.proofs.Parts.{up, dn, one-part, same_parts, abs-parts, sum-parts, difference-parts}
use Rattle.secrecy.specs.Model.{Pool, users, reading, total}
use Rattle.signed.specs.Numbers.{symbol_of, shown_of, true_sum, signed_reading}
use Rattle.signed.specs.Caps.{all_in_cap}
use Rattle.signed.proofs.NumberLaws.{symbol-below, symbol-minus}
use Rattle.signed.proofs.CapLaws.{Cap, cap-at}

-- ---- a symbol is congruent to its number: where the number is negative, what is missing is added on the other side

symbol-cong : (q : ℕ) (w : ℤ) → nat_abs w < q → Cong q (symbol_of q w + dn w) (up w)
symbol-cong q (pos n) h = of_eq (rw (lt-ltb n q h) (omega arith))
symbol-cong q (negsuc k) h = record { up = 0; dn = 1; eq = omega (arith, symbol-minus q k (omega arith)) }

-- ---- what is congruent to a number that q leaves room for is shown as that number

shown-cong : (q t : ℕ) (z : ℤ) → t < q → 2 * nat_abs z < q → Cong q (t + dn z) (up z) → shown_of q t ≡ z
shown-cong q t (pos n) h room c =
    let same : t ≡ n = sym (mod-eq_of_lt h) ∙ ap (λ (x : ℕ). x % q) (omega arith) ∙ to-mod c ∙ mod-eq_of_lt (omega arith) in
    rw (lt-ltb (2 * t) q (omega arith)) (ap pos same)
shown-cong q t (negsuc k) h room c =
    let away : Cong q t (q - suc k) = record { up = c.up + 1; dn = c.dn; eq = omega (arith, c.eq) } in
    let same : t ≡ q - suc k = sym (mod-eq_of_lt h) ∙ to-mod away ∙ mod-eq_of_lt (omega arith) in
    rw (le-ltb (2 * t) q (omega arith))
    (same_parts (pos t -ℤ pos q) (negsuc k) (omega (arith, difference-parts (pos t) (pos q), one-part (pos t -ℤ pos q))))

-- so a reading comes back as itself
pub shown-symbol : (q m : ℕ) (w : ℤ) → nat_abs w ≤ m → 2 * m < q → shown_of q (symbol_of q w) ≡ w
shown-symbol q m w h room = shown-cong q (symbol_of q w) w (symbol-below q w (omega arith)) (omega arith) (symbol-cong q w (omega arith))

-- and a symbol that is shown travels as itself
pub symbol-shown : (q t : ℕ) → t < q → symbol_of q (shown_of q t) ≡ t
symbol-shown q t h = go (dec_lt (2 * t) q)
  where
    go : Dec (2 * t < q) → symbol_of q (shown_of q t) ≡ t
    go (yes l) = rw (lt-ltb (2 * t) q l, lt-ltb t q h)
    go (no n) =
        let away : pos t -ℤ pos q ≡ negsuc (q - suc t)
        = same_parts (pos t -ℤ pos q) (negsuc (q - suc t)) (omega (arith, difference-parts (pos t) (pos q), one-part (pos t -ℤ pos q))) in
        rw (le-ltb (2 * t) q (omega (arith, n)), away) (symbol-minus q (q - suc t) (omega arith) ∙ omega arith)

-- ---- sums

-- the symbols of readings add up to what the true sum is congruent to
sum-cong : (q n : ℕ) (r : ℕ → ℤ) → ((i : ℕ) → i < n → nat_abs (r i) < q) → Cong q (sum_to n (λ i. symbol_of q (r i)) + dn (true_sum n r)) (up (true_sum n r))
unfolding sum_to true_sum
sum-cong q zero r h = of_eq refl
sum-cong q (suc n) r h =
    let S : ℤ = true_sum n r in
    let total : ℕ = sum_to n (λ i. symbol_of q (r i)) in
    let both : Cong q (total + dn S + (symbol_of q (r n) + dn (r n))) (up S + up (r n))
    = c-add (sum-cong q n r (λ i l. h i (omega arith))) (symbol-cong q (r n) (h n (omega arith))) in
    record { up = both.up; dn = both.dn; eq = omega (arith, both.eq, sum-parts S (r n)) }

sum-size : (n m : ℕ) (r : ℕ → ℤ) → ((i : ℕ) → i < n → nat_abs (r i) ≤ m) → nat_abs (true_sum n r) ≤ n * m
unfolding true_sum
sum-size zero m r h = omega arith
sum-size (suc n) m r h =
    let S : ℤ = true_sum n r in
    let rest : nat_abs S ≤ n * m = sum-size n m r (λ i l. h i (omega arith)) in
    let last : nat_abs (r n) ≤ m = h n (omega arith) in
    omega (arith, sum-parts S (r n), one-part (S +ℤ r n), abs-parts (S +ℤ r n), abs-parts S, abs-parts (r n))

-- the shown total is the true sum
shown-sum : (q m n : ℕ) (r : ℕ → ℤ) → ((i : ℕ) → i < n → nat_abs (r i) ≤ m) → 2 * n * m < q
    → shown_of q (sum_to n (λ i. symbol_of q (r i)) % q) ≡ true_sum n r
shown-sum q m n r h room =
    let total : ℕ = sum_to n (λ i. symbol_of q (r i)) in
    let S : ℤ = true_sum n r in
    shown-cong q (total % q) S (mod-lt total (omega arith)) (omega (arith, sum-size n m r h))
    (c-trans (c-add (of-rem q total) (of_eq refl))
    (sum-cong q n r (λ i l. omega (arith, h i l, mul-le-mul {n₁ = 1} {m₁ = m} {n₂ = n} {m₂ = m} (omega arith) (omega arith)))))

-- ---- the readings of a pool

-- a total is a symbol
pub total-below : (P : Pool) → 0 < P.q → (L : ℕ) (W : List ℕ) (p : ℕ) → total P L W p < P.q
unfolding total
total-below P h L W p = mod-lt (sum_to (users P) (λ i. reading L W i p)) h

module _ (P : Pool) (m L : ℕ) (R : List ℤ) (size : length R ≡ users P * L) where
  abbrev W : List ℕ
  W = map (symbol_of P.q) R

  pub reading-symbol : (i p : ℕ) → i < users P → p < L → reading L W i p ≡ symbol_of P.q (signed_reading L R i p)
  unfolding reading
  reading-symbol i p h l = map_get (symbol_of P.q) R (i * L + p) (pos 0) 0 (omega (arith, row_fits (users P) L i (length R) h size))

  -- a user's readings, as they travel
  pub own-readings : (i : ℕ) → i < users P → tab L (reading L W i) ≡ map (symbol_of P.q) (take L (drop (i * L) R))
  own-readings i h =
      let own : List ℤ = take L (drop (i * L) R) in
      let long : length own ≡ L = length_part L (i * L) R (row_fits (users P) L i (length R) h size) in
      tab-get L (reading L W i) (map (symbol_of P.q) own) 0 (length-map own (symbol_of P.q) ∙ long)
      (λ p l.
      reading-symbol i p h l
      ∙ sym (map_get (symbol_of P.q) own p (pos 0) 0 (omega (arith, long))
      ∙ ap (symbol_of P.q) (get_or-take L (drop (i * L) R) p (pos 0) l ∙ get_or-drop (i * L) R p (pos 0))))

  module _ (inside : T (all_in_cap m R)) (cap : Cap (users P) P.q m) where
    pub shown-total : (p : ℕ) → p < L → shown_of P.q (total P L W p) ≡ true_sum (users P) (λ i. signed_reading L R i p)
    unfolding total
    shown-total p l =
        ap (λ (x : ℕ). shown_of P.q (x % P.q))
        (Sums.sum-cong (users P) (λ i. reading L W i p) (λ i. symbol_of P.q (signed_reading L R i p)) (λ i h. reading-symbol i p h l))
        ∙ shown-sum P.q m (users P) (λ i. signed_reading L R i p) (λ i h. cap-at m R inside (i * L + p)) cap.room

    -- so a block of the totals that demand 2 gives is shown as the true sums
    pub shown-totals : map (shown_of P.q) (tab L (total P L W)) ≡ tab L (λ p. true_sum (users P) (λ i. signed_reading L R i p))
    shown-totals =
        map-tab (shown_of P.q) L (total P L W)
        ∙ tab-cong L (λ p. shown_of P.q (total P L W p)) (λ p. true_sum (users P) (λ i. signed_reading L R i p)) shown-total
