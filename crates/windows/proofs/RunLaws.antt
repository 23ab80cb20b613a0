-- Laws of runs: their sums, their largest totals and their last ones.
use Prim.Native.Nat.{ℕ, zero, suc, ◌+◌, ◌-◌, ◌*◌, ◌^◌, ◌≤◌, ◌<◌}
use mathlib.Core.Path.{◌≡◌, refl, sym, ap, ap₂, ◌∙◌, subst}
use mathlib.Core.Bool.{Bool, true, false, cond, ◌&&◌}
use mathlib.Core.List.{List, [], ◌∷◌, ◌++◌}
use native.Mathlib.Nat.{not-suc-le-zero}
use native.Mathlib.Numerals.{add-one}
use native.Mathlib.Omega.{arith}
use native.Mathlib.Decide.{ℕ_discrete}
use lib.Dec.{T, eqb}
use lib.IntN.{ℤ, pos, negsuc, neg_ℤ, ◌+ℤ◌, ◌-ℤ◌, nat_abs, +ℤ_assoc, +ℤ_idl, +ℤ_idr}
use lib.ListN.{length, take, drop, set, get_or, replicate, drop_of_length-le, length-drop, length-append}
use lib.Seq.{take-suc, drop-cons, drop-append-le, drop-drop, length-take-le, get_or-append-add, get_or-drop, set_at, append_snoc, take-nil}
use lib.Signed.{mag, lt_z, nat_abs-le}
use borrow.Author.Tests.{eqb-true, eq-eqb, ne_eqb}
use mir.Syntax.{w32, w64}
use mir.Val.{SFits, to_z, of_z}
use mir.Facts.{to_z-of_z}
use Rattle.lists.proofs.Searches.{T_and, T→true, true→T}
use Rattle.lists.specs.Lists.{All}
use Rattle.integers.proofs.Parts.{one-part, same_parts, abs-parts, sum-parts, difference-parts, less-true, order-parts, neg-up, neg-dn}
use Rattle.integers.proofs.Bits.{fits-parts, widened}
use Rattle.windows.specs.Runs.{sum_of, larger, largest_from, largest_of, last_of, same, all_zero}
use Rattle.windows.specs.Windows.{max_span, IsTotal}

-- ---- sums

sum-append : (a b : List ℤ) → sum_of (a ++ b) ≡ sum_of a +ℤ sum_of b
unfolding sum_of
sum-append [] b = sym (+ℤ_idl (sum_of b))
sum-append (t ∷ a) b = ap (λ (z : ℤ). t +ℤ z) (sum-append a b) ∙ sym (+ℤ_assoc t (sum_of a) (sum_of b))

pub sum-newest : (a : List ℤ) (t : ℤ) → sum_of (a ++ (t ∷ [])) ≡ sum_of a +ℤ t
unfolding sum_of
sum-newest a t = sum-append a (t ∷ []) ∙ ap (λ (z : ℤ). sum_of a +ℤ z) (+ℤ_idr t)

pub sum-next : (l : List ℤ) (k : ℕ) → k < length l → sum_of (take (k + 1) l) ≡ sum_of (take k l) +ℤ get_or l k (pos 0)
sum-next l k h = rw (add-one k, take-suc l k (pos 0) h) (sum-newest (take k l) (get_or l k (pos 0)))

sum-oldest : (l : List ℤ) → 0 < length l → sum_of l ≡ get_or l 0 (pos 0) +ℤ sum_of (drop 1 l)
unfolding sum_of
sum-oldest [] h = absurd (not-suc-le-zero h)
sum-oldest (t ∷ l) h = refl

-- the oldest off and the newest on
pub sum_shifted : (l : List ℤ) (t : ℤ) → 0 < length l → (sum_of l -ℤ get_or l 0 (pos 0)) +ℤ t ≡ sum_of (drop 1 l ++ (t ∷ []))
sum_shifted l t h =
    let a : ℤ = get_or l 0 (pos 0) in
    let r : ℤ = sum_of (drop 1 l) in
    ap (λ (z : ℤ). (z -ℤ a) +ℤ t) (sum-oldest l h)
    ∙ ap (λ (z : ℤ). z +ℤ t) (same_parts ((a +ℤ r) -ℤ a) r (omega (arith, sum-parts a r, difference-parts (a +ℤ r) a)))
    ∙ sym (sum-newest (drop 1 l) t)

-- ---- sizes: a total has 31 bits beside its sign

pub sum_bound : (s t : ℤ) (k : ℕ) → nat_abs s ≤ k * 2 ^ 31 → mag t < 2 ^ 31 → nat_abs (s +ℤ t) ≤ (k + 1) * 2 ^ 31
sum_bound s t k h l =
    omega (arith, sum-parts s t, one-part (s +ℤ t), abs-parts (s +ℤ t), abs-parts s, abs-parts t, nat_abs-le t l)

pub difference-bound : (s t : ℤ) (k : ℕ) → nat_abs s ≤ k * 2 ^ 31 → mag t < 2 ^ 31 → nat_abs (s -ℤ t) ≤ (k + 1) * 2 ^ 31
difference-bound s t k h l =
    omega (arith, difference-parts s t, one-part (s -ℤ t), abs-parts (s -ℤ t), abs-parts s, abs-parts t, nat_abs-le t l)

pub bound-fits : (z : ℤ) → nat_abs z ≤ (max_span + 2) * 2 ^ 31 → SFits w64 z
bound-fits z h = fits-parts w64 z (omega (arith, abs-parts z)) (omega (arith, abs-parts z))

-- the sum of the totals passed, and the next total as the machine adds it
pub record Added (run : List ℤ) (k : ℕ) (next : ℤ) : Type 0 where
  pub fits : SFits w64 next
  pub is : to_z w64 (of_z w64 next) ≡ sum_of (take (k + 1) run)
  pub small : nat_abs (to_z w64 (of_z w64 next)) ≤ (k + 1) * 2 ^ 31

pub added : (run : List ℤ) (k : ℕ) (sum : ℤ) → k < length run → k < max_span → mag (get_or run k (pos 0)) < 2 ^ 31 → sum ≡ sum_of (take k run)
    → nat_abs sum ≤ k * 2 ^ 31 → Added run k (sum +ℤ to_z w64 (of_z w64 (to_z w32 (of_z w32 (get_or run k (pos 0))))))
added run k sum h few fit is small =
    let here : ℤ = get_or run k (pos 0) in
    let next : ℤ = sum +ℤ to_z w64 (of_z w64 (to_z w32 (of_z w32 here))) in
    let plain : next ≡ sum +ℤ here = ap (λ (z : ℤ). sum +ℤ z) (widened {z = here} (record { sfits = fit })) in
    let low : nat_abs next ≤ (k + 1) * 2 ^ 31 = subst (λ (z : ℤ). nat_abs z ≤ (k + 1) * 2 ^ 31) (sym plain) (sum_bound sum here k small fit) in
    let fits : SFits w64 next = bound-fits next (omega arith) in
    let kept : to_z w64 (of_z w64 next) ≡ next = to_z-of_z fits in
    record {
      fits = fits;
      is = kept ∙ plain ∙ ap (λ (z : ℤ). z +ℤ here) is ∙ sym (sum-next run k h);
      small = subst (λ (z : ℤ). nat_abs z ≤ (k + 1) * 2 ^ 31) (sym kept) low;
    }

-- and so has every number of a run of totals
total_size : (t : ℤ) → IsTotal t → nat_abs t ≤ 2 ^ 31
total_size t (low, high) =
    let end : ℤ = pos (2 ^ 31) in
    omega (arith, abs-parts t, one-part t, order-parts (neg_ℤ end) t low, neg-up end, neg-dn end, less-true t end (T→true (lt_z t end) high.lt))

pub sum-size : (run : List ℤ) → All IsTotal run → nat_abs (sum_of run) ≤ length run * 2 ^ 31
unfolding sum_of
sum-size [] h = omega arith
sum-size (t ∷ run) h =
    let s : ℤ = sum_of run in
    omega (arith, sum-parts t s, one-part (t +ℤ s), abs-parts (t +ℤ s), abs-parts t, abs-parts s, total_size t h.0, sum-size run h.1)

-- ---- tests

pub same_true : (a b : ℤ) → same a b ≡ true → a ≡ b
same_true (pos a) (pos b) e = ap pos (eqb-true a b e)
same_true (pos a) (negsuc b) e = absurd (true→T false e)
same_true (negsuc a) (pos b) e = absurd (true→T false e)
same_true (negsuc a) (negsuc b) e = ap negsuc (eqb-true a b e)

pub same_refl : (a : ℤ) → same a a ≡ true
same_refl (pos a) = eq-eqb a a refl
same_refl (negsuc a) = eq-eqb a a refl

-- equal bits, equal numbers
pub same_bits : (a b : ℤ) → mag a < 2 ^ 63 → mag b < 2 ^ 63 → eqb (of_z w64 a) (of_z w64 b) ≡ same a b
same_bits (pos a) (pos b) h l = refl
same_bits (pos a) (negsuc b) h l = ne_eqb a (2 ^ 64 - suc b) (λ e. omega arith)
same_bits (negsuc a) (pos b) h l = ne_eqb (2 ^ 64 - suc a) b (λ e. omega arith)
same_bits (negsuc a) (negsuc b) h l = go (ℕ_discrete a b)
  where
    go : Dec (a ≡ b) → eqb (2 ^ 64 - suc a) (2 ^ 64 - suc b) ≡ eqb a b
    go (yes e) = rw (eq-eqb a b e) (eq-eqb (2 ^ 64 - suc a) (2 ^ 64 - suc b) (omega arith))
    go (no n) = rw (ne_eqb a b n) (ne_eqb (2 ^ 64 - suc a) (2 ^ 64 - suc b) (λ e. n (omega arith)))

-- the bits of a total tell whether it is 0
pub bits-zero : (t : ℤ) → mag t < 2 ^ 31 → eqb (of_z w32 t) 0 ≡ same t (pos 0)
bits-zero (pos n) h = refl
bits-zero (negsuc n) h = ne_eqb (2 ^ 32 - suc n) 0 (λ e. omega arith)

pub bits-not-zero : (t : ℤ) → (of_z w32 t ≡ 0 → ⊥) → same t (pos 0) ≡ false
bits-not-zero (pos n) f = ne_eqb n 0 f
bits-not-zero (negsuc n) f = refl

pub zero-step : (l : List ℤ) (k : ℕ) → k < length l → all_zero (drop k l) ≡ (same (get_or l k (pos 0)) (pos 0) && all_zero (drop (k + 1) l))
unfolding all_zero
zero-step l k h = rw (drop-cons l k (pos 0) h, add-one k)

pub zero-end : (l : List ℤ) (k : ℕ) → length l ≤ k → all_zero (drop k l) ≡ true
unfolding all_zero
zero-end l k h = rw (drop_of_length-le l h)

-- a run of nothing but 0
pub zeros-are : (l : List ℤ) → T (all_zero l) → l ≡ replicate (length l) (pos 0)
unfolding all_zero
zeros-are [] t = refl
zeros-are (x ∷ l) t =
    let (here, rest) = T_and (same x (pos 0)) (all_zero l) t in
    ap₂ (λ (y : ℤ) (r : List ℤ). y ∷ r) (same_true x (pos 0) (T→true (same x (pos 0)) here)) (zeros-are l rest)

pub are-zeros : (n : ℕ) → all_zero (replicate n (pos 0)) ≡ true
unfolding all_zero
are-zeros zero = refl
are-zeros (suc n) = are-zeros n

-- ---- the largest

pub larger-second : (a b : ℤ) → lt_z a b ≡ true → larger a b ≡ b
larger-second a b e = ap (λ (t : Bool). cond t b a) e

pub larger-first : (a b : ℤ) → lt_z a b ≡ false → larger a b ≡ a
larger-first a b e = ap (λ (t : Bool). cond t b a) e

largest-newest : (a : ℤ) (run : List ℤ) (t : ℤ) → largest_from a (run ++ (t ∷ [])) ≡ larger (largest_from a run) t
unfolding largest_from
largest-newest a [] t = refl
largest-newest a (x ∷ run) t = largest-newest (larger a x) run t

pub largest-first : (l : List ℤ) → 0 < length l → largest_of (take 1 l) ≡ get_or l 0 (pos 0)
unfolding largest_from
largest-first [] h = absurd (not-suc-le-zero h)
largest-first (t ∷ l) h = refl

pub largest-next : (a : ℤ) (run : List ℤ) (k : ℕ) → k < length run
    → largest_from a (take (k + 1) run) ≡ larger (largest_from a (take k run)) (get_or run k (pos 0))
largest-next a run k h = rw (add-one k, take-suc run k (pos 0) h) (largest-newest a (take k run) (get_or run k (pos 0)))

-- the first of a run, and the rest
pub largest-rest : (l : List ℤ) (n : ℕ) → 0 < length l → 0 < n → largest_from (get_or l 0 (pos 0)) (take (n - 1) (drop 1 l)) ≡ largest_of (take n l)
largest-rest l zero h p = absurd (not-suc-le-zero p)
largest-rest [] (suc n) h p = absurd (not-suc-le-zero h)
largest-rest (t ∷ l) (suc n) h p = let less : suc n - 1 ≡ n = omega arith in ap (λ (k : ℕ). largest_from t (take k l)) less

-- ---- all one place forward

-- what stands at the start, where the first k have moved
abbrev pub moved_to : ℕ → List ℤ → List ℤ
moved_to k l = take k (drop 1 l) ++ drop k l

module _ (l : List ℤ) (j k : ℕ) (next : j + 1 ≡ k) (h : k ≤ length l) where
  moved-size : length (take j (drop 1 l)) ≡ j
  moved-size = length-take-le j (drop 1 l) (omega (arith, length-drop 1 l))

  -- the total after the moved ones' next place
  pub moved-reads : get_or (moved_to j l) k (pos 0) ≡ get_or l k (pos 0)
  moved-reads =
      let place : k ≡ length (take j (drop 1 l)) + 1 = omega (arith, moved-size) in
      ap (λ (n : ℕ). get_or (moved_to j l) n (pos 0)) place
      ∙ get_or-append-add (take j (drop 1 l)) (drop j l) 1 (pos 0)
      ∙ get_or-drop j l 1 (pos 0)
      ∙ ap (λ (n : ℕ). get_or l n (pos 0)) next

  -- and any total in that place
  pub moved-set : (t : ℤ) → set (moved_to j l) j t ≡ (take j (drop 1 l) ++ (t ∷ [])) ++ drop k l
  moved-set t =
      let place : suc j ≡ k = omega arith in
      ap (λ (r : List ℤ). set (take j (drop 1 l) ++ r) j t) (drop-cons l j (pos 0) (omega arith))
      ∙ set_at (take j (drop 1 l)) (get_or l j (pos 0)) (drop (suc j) l) t j moved-size
      ∙ sym (append_snoc (take j (drop 1 l)) t (drop (suc j) l))
      ∙ ap (λ (n : ℕ). (take j (drop 1 l) ++ (t ∷ [])) ++ drop n l) place

  -- one more has moved
  pub moved-next : k < length l → set (moved_to j l) j (get_or l k (pos 0)) ≡ moved_to k l
  moved-next less =
      let place : suc j ≡ k = omega arith in
      let same : 1 + j ≡ k = omega arith in
      let more : take k (drop 1 l) ≡ take j (drop 1 l) ++ (get_or l k (pos 0) ∷ [])
      = ap (λ (n : ℕ). take n (drop 1 l)) (sym place)
      ∙ take-suc (drop 1 l) j (pos 0) (omega (arith, length-drop 1 l))
      ∙ ap (λ (t : ℤ). take j (drop 1 l) ++ (t ∷ [])) (get_or-drop 1 l j (pos 0) ∙ ap (λ (n : ℕ). get_or l n (pos 0)) same) in
      moved-set (get_or l k (pos 0)) ∙ ap (λ (r : List ℤ). r ++ drop k l) (sym more)

-- those that are left when the first of n + 1 goes
pub rest_of : (l : List ℤ) (n : ℕ) → take n (drop 1 l) ≡ drop 1 (take (n + 1) l)
rest_of [] n = rw (add-one n) (take-nil n)
rest_of (x ∷ l) n = rw (add-one n)

-- ---- the last ones

pub last-all : (n : ℕ) (run : List ℤ) → length run ≤ n → last_of n run ≡ run
last-all n run h = let none : length run - n ≡ 0 = omega arith in ap (λ (k : ℕ). drop k run) none

pub last-few : (n : ℕ) (run : List ℤ) → length (last_of n run) ≤ n
last-few n run = omega (arith, length-drop (length run - n) run)

-- what came before the last ones does not matter later
pub last-last : (n : ℕ) (a b : List ℤ) → last_of n (last_of n a ++ b) ≡ last_of n (a ++ b)
last-last n a b =
    let d : ℕ = length a - n in
    let e : last_of n a ++ b ≡ drop d (a ++ b) = sym (drop-append-le d a b (omega arith)) in
    let places : d + (length (drop d (a ++ b)) - n) ≡ length (a ++ b) - n = omega (arith, length-drop d (a ++ b), length-append a b) in
    ap (last_of n) e ∙ drop-drop (length (drop d (a ++ b)) - n) d (a ++ b) ∙ ap (λ (k : ℕ). drop k (a ++ b)) places
