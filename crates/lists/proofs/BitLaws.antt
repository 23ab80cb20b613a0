-- Sets kept as the bits of a number: single bits, masks, the count of ones, trailing zeros, and numbers with their low bits cleared.
use mathlib.Core.Path.{◌≡◌, refl, sym, ap, ap₂, ◌∙◌, subst}
use mathlib.Core.Bool.{Bool, true, false, cond, ◌&&◌, and-false}
use mathlib.Core.Logic.{◌⊎◌, inl, inr, ⊎_elim}
use Prim.Native.Nat.{ℕ, zero, suc, ◌+◌, ◌-◌, ◌*◌, ◌/◌, ◌%◌, ◌^◌, ◌≤◌, ◌<◌}
use native.Mathlib.Nat.{mod-eq_of_lt, mod-lt, mod-one, pow-suc, add_comm, add-zero, mul_comm, mul_assoc, one-mul, div-eq_of_lt, div-div-eq-div-mul}
use native.Mathlib.Nat.{div-eq_of_lt-le, div-add-mod', add-mul-div_right, lt_of_lt_of_le}
use native.Mathlib.Numerals.{one-add}
use native.Mathlib.Decide.{ℕ_discrete, dec_lt}
use native.Mathlib.Omega.{arith}
use lib.Dec.{lit<, eqb, ltb, leb}
use lib.Pow.{pow_pos, pow_mono, pow-lt, mod-pow-add, shl_exact, shl_lt, ones_lt, shl-shr, shr-shr, ones_split, high, pow-add}
use lib.Count.{ones, ones_cat, count_trailing_zeros}
use borrow.Author.Tests.{eq-eqb, ne_eqb, lt-ltb, le-ltb, le-leb, lt-leb, ltb-true, ltb-false}
use Rattle.lists.specs.Search.{all_to}
use Rattle.lists.specs.Bits.{has_bit}
use Rattle.lists.specs.Sums.{sum_to, how_many}

pub lt-or-ge : (a b : ℕ) → (a < b) ⊎ (b ≤ a)
lt-or-ge a b = go (ltb a b) refl
  where
    go : (t : Bool) → ltb a b ≡ t → (a < b) ⊎ (b ≤ a)
    go true e = inl (ltb-true a b e)
    go false e = inr (ltb-false a b e)

-- a binary digit is 0 or 1
pub digit : (n : ℕ) → (n % 2 ≡ 0) ⊎ (n % 2 ≡ 1)
digit n = go (n % 2) (mod-lt n (lit< tt))
  where
    go : (d : ℕ) → d < 2 → (d ≡ 0) ⊎ (d ≡ 1)
    go zero h = inl refl
    go (suc zero) h = inr refl
    go (suc (suc d)) h = absurd (omega arith)

-- the machine's `1 << i` at a width of w
pub one_shl : (w i : ℕ) → i < w → 1 * 2 ^ i % 2 ^ w ≡ 1 * 2 ^ i
one_shl w i h = shl_exact 1 i w (lit< tt) (omega arith)

-- ---- the count of ones

ones-digit : (n : ℕ) → ones (n % 2) ≡ cond (eqb (n % 2) 1) 1 0
unfolding ones
ones-digit n = ⊎_elim (λ e. rw e refl) (λ e. rw e refl) (digit n)

many-ones : (k g : ℕ) → how_many k (has_bit g) ≡ ones (g % 2 ^ k)
unfolding how_many sum_to has_bit ones
many-ones zero g = sym (ap ones (mod-one g))
many-ones (suc k) g =
    ap (λ (z : ℕ). z + cond (eqb (g / 2 ^ k % 2) 1) 1 0) (many-ones k g)
    ∙ add_comm (ones (g % 2 ^ k)) (cond (eqb (g / 2 ^ k % 2) 1) 1 0)
    ∙ ap (λ (z : ℕ). z + ones (g % 2 ^ k)) (sym (ones-digit (g / 2 ^ k)))
    ∙ sym (ones_cat k (g / 2 ^ k % 2) (g % 2 ^ k) (mod-lt g (pow_pos k)))
    ∙ ap ones (sym (mod-pow-add g 1 k))
    ∙ ap (λ (z : ℕ). ones (g % 2 ^ z)) (one-add k)

-- the machine's count is that of the members
pub ones-many : (k g : ℕ) → g < 2 ^ k → ones g ≡ how_many k (has_bit g)
ones-many k g h = sym (many-ones k g ∙ ap ones (mod-eq_of_lt h))

-- ---- a mask of v ones from a place

-- the machine's `((1 << v) - 1) << k` at a width of w
pub mask-shl : (w v k : ℕ) → v < w → v + k ≤ w → (1 * 2 ^ v % 2 ^ w - 1) * 2 ^ k % 2 ^ w ≡ (2 ^ v - 1) * 2 ^ k
mask-shl w v k h l =
    ap (λ (z : ℕ). (z - 1) * 2 ^ k % 2 ^ w) (one_shl w v h ∙ one-mul (2 ^ v))
    ∙ shl_exact v k w (ones_lt v) l

pub mask_lt : (w v k : ℕ) → v + k ≤ w → (2 ^ v - 1) * 2 ^ k < 2 ^ w
mask_lt w v k l = lt_of_lt_of_le (shl_lt v k (ones_lt v)) (pow_mono l)

-- ---- the bits of a mask

even-twice : (m : ℕ) → m * 2 % 2 ≡ 0
even-twice m = omega arith

-- below the mask
pub mask-under : (m k i : ℕ) → i < k → has_bit (m * 2 ^ k) i ≡ false
unfolding has_bit
mask-under m k i h =
    let d : k ≡ suc (k - suc i) + i = omega arith in
    let p : m * 2 ^ k ≡ m * 2 ^ (k - suc i) * 2 * 2 ^ i =
    ap (λ (z : ℕ). m * 2 ^ z) d ∙ ap (λ (z : ℕ). m * z) (pow-add 2 (suc (k - suc i)) i ∙ ap (λ (z : ℕ). z * 2 ^ i) (pow-suc 2 (k - suc i)))
    ∙ sym (mul_assoc m (2 ^ (k - suc i) * 2) (2 ^ i)) ∙ ap (λ (z : ℕ). z * 2 ^ i) (sym (mul_assoc m (2 ^ (k - suc i)) 2)) in
    let z : m * 2 ^ k / 2 ^ i % 2 ≡ 0 = ap (λ (z : ℕ). z / 2 ^ i % 2) p ∙ ap (λ (z : ℕ). z % 2) (shl-shr (m * 2 ^ (k - suc i) * 2) i) ∙ even-twice
    (m * 2 ^ (k - suc i)) in
    ap (λ (z : ℕ). eqb z 1) z

-- from its place on
pub mask-from : (m k j : ℕ) → has_bit (m * 2 ^ k) (k + j) ≡ has_bit m j
unfolding has_bit
mask-from m k j = ap (λ (z : ℕ). eqb (z % 2) 1) (sym (shr-shr (m * 2 ^ k) k j) ∙ ap (λ (z : ℕ). z / 2 ^ j) (shl-shr m k))

-- v ones, and nothing above them
pub ones_in : (v j : ℕ) → j < v → has_bit (2 ^ v - 1) j ≡ true
unfolding has_bit
ones_in v j h =
    let d : v ≡ suc (v - suc j) + j = omega arith in
    let e : (2 ^ v - 1) / 2 ^ j ≡ 2 ^ suc (v - suc j) - 1 =
    ap (λ (z : ℕ). (2 ^ z - 1) / 2 ^ j) d ∙ ap (λ (z : ℕ). z / 2 ^ j) (ones_split (suc (v - suc j)) j) ∙ high (2 ^ suc (v - suc j) - 1) j (ones_lt j) in
    let p : 2 ^ suc (v - suc j) ≡ 2 ^ (v - suc j) * 2 = pow-suc 2 (v - suc j) in
    let o : (2 ^ suc (v - suc j) - 1) % 2 ≡ 1 = omega (arith, pow_pos (v - suc j)) in
    ap (λ (z : ℕ). eqb z 1) (ap (λ (z : ℕ). z % 2) e ∙ o)

pub ones-out : (v j : ℕ) → v ≤ j → has_bit (2 ^ v - 1) j ≡ false
unfolding has_bit
ones-out v j h =
    let l : 2 ^ v - 1 < 2 ^ j = omega (arith, pow_pos v, pow_mono h) in
    let e : (2 ^ v - 1) / 2 ^ j ≡ 0 = div-eq_of_lt l in
    ap (λ (z : ℕ). eqb (z % 2) 1) e

-- the machine's mask of v places from k on has exactly those
pub mask-bits : (v k i : ℕ) → has_bit ((2 ^ v - 1) * 2 ^ k) i ≡ (leb k i && ltb i (k + v))
mask-bits v k i =
    ⊎_elim
    (λ h. mask-under (2 ^ v - 1) k i h ∙ sym (ap (λ (t : Bool). t && ltb i (k + v)) (lt-leb k i h)))
    (λ h.
    let d : k + (i - k) ≡ i = omega arith in
    subst (λ (z : ℕ). has_bit ((2 ^ v - 1) * 2 ^ k) z ≡ (leb k i && ltb i (k + v))) d
    (mask-from (2 ^ v - 1) k (i - k)
    ∙ ⊎_elim
    (λ g. ones_in v (i - k) g ∙ sym (ap₂ ◌&&◌ (le-leb k i h) (lt-ltb i (k + v) (omega arith))))
    (λ g. ones-out v (i - k) g ∙ sym (ap₂ ◌&&◌ (le-leb k i h) (le-ltb i (k + v) (omega arith))))
    (lt-or-ge (i - k) v)))
    (lt-or-ge i k)

pub half-bound : (k n : ℕ) → n < 2 ^ suc k → n / 2 < 2 ^ k
half-bound k n h =
    let p : 2 ^ suc k ≡ 2 ^ k * 2 = pow-suc 2 k in
    omega arith

-- ---- numbers with the low digits cleared

-- what is left without the lowest set digit is the number with all digits up to it cleared
pub low-cleared : (k n : ℕ) → 0 < n → n < 2 ^ k → (2 ^ count_trailing_zeros k n ≤ n)
    × (n - 2 ^ count_trailing_zeros k n ≡ n / 2 ^ suc (count_trailing_zeros k n) * 2 ^ suc (count_trailing_zeros k n))
unfolding count_trailing_zeros
low-cleared zero n p h = absurd (omega arith)
low-cleared (suc k) n p h =
    ⊎_elim
    (λ e.
    let t : ℕ = count_trailing_zeros k (n / 2) in
    let ih = low-cleared k (n / 2) (omega arith) (half-bound k n h) in
    let w : 2 ^ suc t ≡ 2 ^ t * 2 = pow-suc 2 t in
    let w' : 2 ^ suc (suc t) ≡ 2 ^ suc t * 2 = pow-suc 2 (suc t) in
    let d : n / 2 ^ suc (suc t) ≡ n / 2 / 2 ^ suc t = ap (λ (z : ℕ). n / z) (w' ∙ mul_comm (2 ^ suc t) 2) ∙ sym (div-div-eq-div-mul n 2 (2 ^ suc t)) in
    let i1 : 2 ^ t ≤ n / 2 = ih.0 in
    let i2 : n / 2 - 2 ^ t ≡ n / 2 / 2 ^ suc t * 2 ^ suc t = ih.1 in
    let r : n / 2 ^ suc (suc t) * 2 ^ suc (suc t) ≡ (n / 2 - 2 ^ t) * 2 =
    ap₂ (λ (x y : ℕ). x * y) d w' ∙ sym (mul_assoc (n / 2 / 2 ^ suc t) (2 ^ suc t) 2) ∙ ap (λ (z : ℕ). z * 2) (sym i2) in
    rw e (omega arith, omega arith))
    (λ e.
    let r : n - 1 ≡ n / 2 * 2 = omega arith in
    rw e (omega arith, r))
    (digit n)

one-digit : (t : ℕ) → ones (2 ^ t) ≡ 1
unfolding ones
one-digit t =
    let e : 2 ^ t ≡ 1 * 2 ^ t + 0 = omega arith in
    ap ones e ∙ ones_cat t 1 0 (pow_pos t)

cleared-ones : (j h : ℕ) → ones (h * 2 ^ j) ≡ ones h
unfolding ones
cleared-ones j h =
    let e : h * 2 ^ j ≡ h * 2 ^ j + 0 = omega arith in
    let z : ones h + ones 0 ≡ ones h = add-zero (ones h) in
    ap ones e ∙ ones_cat j h 0 (pow_pos j) ∙ z

-- one set digit less
pub low_ones : (k n : ℕ) → 0 < n → n < 2 ^ k → ones n ≡ suc (ones (n - 2 ^ count_trailing_zeros k n))
low_ones k n p h =
    let t : ℕ = count_trailing_zeros k n in
    let c = low-cleared k n p h in
    let c0 : 2 ^ t ≤ n = c.0 in
    let c1 : n - 2 ^ t ≡ n / 2 ^ suc t * 2 ^ suc t = c.1 in
    let s : n ≡ n / 2 ^ suc t * 2 ^ suc t + 2 ^ t = omega arith in
    let w : 2 ^ t < 2 ^ suc t = pow-lt (omega arith) in
    let a : ones n ≡ ones (n / 2 ^ suc t) + ones (2 ^ t) = ap ones s ∙ ones_cat (suc t) (n / 2 ^ suc t) (2 ^ t) w in
    let b : ones (n - 2 ^ t) ≡ ones (n / 2 ^ suc t) = ap ones c1 ∙ cleared-ones (suc t) (n / 2 ^ suc t) in
    omega (arith, one-digit t)

-- a number with low digits cleared that is less has fewer set digits
pub cleared-fewer : (k j n : ℕ) → n < 2 ^ k → n / 2 ^ j * 2 ^ j < n → ones (n / 2 ^ j * 2 ^ j) < ones n
cleared-fewer k j n h l =
    let b : ℕ = 2 ^ j in
    let r : ℕ = n % 2 ^ j in
    let e : n / 2 ^ j * 2 ^ j + n % 2 ^ j ≡ n = div-add-mod' n (2 ^ j) in
    let rb : n % 2 ^ j < 2 ^ j = mod-lt n (pow_pos j) in
    let a : ones n ≡ ones (n / 2 ^ j) + ones (n % 2 ^ j) = ap ones (sym e) ∙ ones_cat j (n / 2 ^ j) (n % 2 ^ j) rb in
    omega (arith, cleared-ones j (n / 2 ^ j), low_ones k (n % 2 ^ j) (omega arith) (omega arith))

-- the next number, with low digits cleared, is itself or the same of this number
pub cleared-next : (j g : ℕ) → (g + 1) / 2 ^ j * 2 ^ j < g + 1 → (g + 1) / 2 ^ j * 2 ^ j ≡ g / 2 ^ j * 2 ^ j
cleared-next j g l =
    let p : 0 < 2 ^ j = pow_pos j in
    let e : (g + 1) / 2 ^ j * 2 ^ j + (g + 1) % 2 ^ j ≡ g + 1 = div-add-mod' (g + 1) (2 ^ j) in
    let rb : (g + 1) % 2 ^ j < 2 ^ j = mod-lt (g + 1) p in
    ap (λ (z : ℕ). z * 2 ^ j) (sym (div-eq_of_lt-le {k = (g + 1) / 2 ^ j} (2 ^ j) {m = g} (omega arith) (omega arith)))

-- ---- a set made of its bits

abbrev pub mask_of : (ℕ → Bool) → ℕ → ℕ
mask_of b k = sum_to k (λ i. cond (b i) (2 ^ i) 0)

pub mask_below : (b : ℕ → Bool) (k : ℕ) → mask_of b k < 2 ^ k
unfolding sum_to
mask_below b zero = lit< tt
mask_below b (suc k) = go (b k) (mask_below b k)
  where
    go : (t : Bool) → mask_of b k < 2 ^ k → mask_of b k + cond t (2 ^ k) 0 < 2 ^ suc k
    go true h = omega (arith, pow-suc 2 k)
    go false h = omega (arith, pow-suc 2 k)

-- the bits of a number, and one more on top
pub low_bit : (n k i : ℕ) → i < k → (t : Bool) → has_bit (n + cond t (2 ^ k) 0) i ≡ has_bit n i
unfolding has_bit
low_bit n k i h true =
    let d : k ≡ suc (k - suc i) + i = omega arith in
    let p : 2 ^ k ≡ 2 ^ (k - suc i) * 2 * 2 ^ i = ap (λ (z : ℕ). 2 ^ z) d ∙ pow-add 2 (suc (k - suc i)) i ∙ ap (λ (z : ℕ). z * 2 ^ i) (pow-suc 2 (k - suc i)) in
    let e : (n + 2 ^ k) / 2 ^ i ≡ n / 2 ^ i + 2 ^ (k - suc i) * 2
    = ap (λ (z : ℕ). (n + z) / 2 ^ i) p ∙ add-mul-div_right n (2 ^ (k - suc i) * 2) (pow_pos i) in
    let m : (n / 2 ^ i + 2 ^ (k - suc i) * 2) % 2 ≡ n / 2 ^ i % 2 = omega arith in
    ap (λ (z : ℕ). eqb z 1) (ap (λ (z : ℕ). z % 2) e ∙ m)
low_bit n k i h false = ap (λ (z : ℕ). has_bit z i) (add-zero n)

pub top_bit : (n k : ℕ) → n < 2 ^ k → (t : Bool) → has_bit (n + cond t (2 ^ k) 0) k ≡ t
unfolding has_bit
top_bit n k h true =
    let e : (n + 2 ^ k) / 2 ^ k ≡ 1
    = ap (λ (z : ℕ). (n + z) / 2 ^ k) (sym (one-mul (2 ^ k))) ∙ add-mul-div_right n 1 (pow_pos k) ∙ ap (λ (z : ℕ). z + 1) (div-eq_of_lt h) in
    ap (λ (z : ℕ). eqb (z % 2) 1) e
top_bit n k h false = ap (λ (z : ℕ). eqb (z % 2) 1) (ap (λ (z : ℕ). z / 2 ^ k) (add-zero n) ∙ div-eq_of_lt h)

pub bit-above : (n k i : ℕ) → n < 2 ^ k → k ≤ i → has_bit n i ≡ false
unfolding has_bit
bit-above n k i h l = ap (λ (z : ℕ). eqb (z % 2) 1) (div-eq_of_lt (lt_of_lt_of_le h (pow_mono l)))

pub mask-has : (b : ℕ → Bool) (k i : ℕ) → has_bit (mask_of b k) i ≡ (ltb i k && b i)
unfolding sum_to
mask-has b zero i = bit-above 0 0 i (lit< tt) (omega arith) ∙ sym (ap (λ (t : Bool). t && b i) (le-ltb i 0 (omega arith)))
mask-has b (suc k) i = go (dec_lt i k) (ℕ_discrete i k) (mask-has b k i)
  where
    go : Dec (i < k) → Dec (i ≡ k) → has_bit (mask_of b k) i ≡ (ltb i k && b i) → has_bit (mask_of b k + cond (b k) (2 ^ k) 0) i ≡ (ltb i (suc k) && b i)
    go (yes h) d ih =
        low_bit (mask_of b k) k i h (b k) ∙ ih ∙ ap (λ (t : Bool). t && b i) (lt-ltb i k h ∙ sym (lt-ltb i (suc k) (omega arith)))
    go (no h) (yes e) ih =
        ap (λ (x : ℕ). has_bit (mask_of b k + cond (b k) (2 ^ k) 0) x) e
        ∙ top_bit (mask_of b k) k (mask_below b k) (b k)
        ∙ ap b (sym e)
        ∙ ap (λ (t : Bool). t && b i) (sym (lt-ltb i (suc k) (omega arith)))
    go (no h) (no n) ih =
        bit-above (mask_of b k + cond (b k) (2 ^ k) 0) (suc k) i (mask_below b (suc k)) (omega arith)
        ∙ ap (λ (t : Bool). t && b i) (sym (le-ltb i (suc k) (omega arith)))

-- the lowest s bits are all set exactly where the remainder is the greatest
pub all_ones : (n s : ℕ) → eqb (n % 2 ^ s) (2 ^ s - 1) ≡ all_to s (has_bit n)
unfolding all_to has_bit
all_ones n zero = ap (λ (z : ℕ). eqb z 0) (mod-one n)
all_ones n (suc s) = step (digit (n / 2 ^ s)) (all_ones n s)
  where
    split : n % 2 ^ suc s ≡ n / 2 ^ s % 2 * 2 ^ s + n % 2 ^ s
    split = ap (λ (z : ℕ). n % 2 ^ z) (sym (one-add s)) ∙ mod-pow-add n 1 s

    small : n % 2 ^ s < 2 ^ s
    small = mod-lt n (pow_pos s)

    step : (n / 2 ^ s % 2 ≡ 0) ⊎ (n / 2 ^ s % 2 ≡ 1) → eqb (n % 2 ^ s) (2 ^ s - 1) ≡ all_to s (has_bit n)
        → eqb (n % 2 ^ suc s) (2 ^ suc s - 1) ≡ (all_to s (has_bit n) && eqb (n / 2 ^ s % 2) 1)
    step (inl e) ih =
        ne_eqb (n % 2 ^ suc s) (2 ^ suc s - 1) (λ f. absurd (omega (arith, split, small, ap (λ (z : ℕ). z * 2 ^ s) e, pow-suc 2 s, f)))
        ∙ sym (ap (λ (z : ℕ). all_to s (has_bit n) && eqb z 1) e ∙ and-false (all_to s (has_bit n)))
    step (inr e) ih = go (ℕ_discrete (n % 2 ^ s) (2 ^ s - 1)) ih
      where
        up : n % 2 ^ suc s ≡ 2 ^ s + n % 2 ^ s
        up = split ∙ omega (arith, ap (λ (z : ℕ). z * 2 ^ s) e)

        go : Dec (n % 2 ^ s ≡ 2 ^ s - 1) → eqb (n % 2 ^ s) (2 ^ s - 1) ≡ all_to s (has_bit n)
            → eqb (n % 2 ^ suc s) (2 ^ suc s - 1) ≡ (all_to s (has_bit n) && eqb (n / 2 ^ s % 2) 1)
        go (yes f) ih =
            eq-eqb (n % 2 ^ suc s) (2 ^ suc s - 1) (omega (arith, up, f, pow-suc 2 s, pow_pos s))
            ∙ sym (ap₂ (λ (t : Bool) (z : ℕ). t && eqb z 1) (sym ih ∙ eq-eqb (n % 2 ^ s) (2 ^ s - 1) f) e)
        go (no f) ih =
            ne_eqb (n % 2 ^ suc s) (2 ^ suc s - 1) (λ x. f (omega (arith, up, small, x, pow-suc 2 s, pow_pos s)))
            ∙ sym (ap₂ (λ (t : Bool) (z : ℕ). t && eqb z 1) (sym ih ∙ ne_eqb (n % 2 ^ s) (2 ^ s - 1) f) e)
