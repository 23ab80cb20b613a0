-- Laws of binomials, and of the number of sets that are kept as bits.
use mathlib.Core.Path.{◌≡◌, refl, sym, ap, ap₂, ◌∙◌}
use mathlib.Core.Bool.{Bool, true, cond}
use Prim.Native.Nat.{ℕ, zero, suc, ◌+◌, ◌-◌, ◌*◌, ◌/◌, ◌^◌, ◌≤◌, ◌<◌}
use native.Mathlib.Nat.{add_comm, add-zero, mul-div_cancel, zero-lt-suc, le_refl, le_trans}
use native.Mathlib.Numerals.{add-one}
use native.Mathlib.Omega.{arith}
use lib.Dec.{leb, leb-zero, leb-suc-zero, leb-suc-suc}
use Rattle.lists.specs.Bits.{has_bit}
use Rattle.lists.specs.Sums.{sum_to, how_many, binomial}
use Rattle.lists.proofs.BitLaws.{low_bit, top_bit, bit-above}
use Rattle.lists.proofs.ListLaws.{many-most}
use Rattle.lists.proofs.Sums.{sum-cong, sum-zero, sum-le, sum-split, sum-add, sum-front}

-- ---- a row of binomials

-- a binomial times n - k is the next of its row times k + 1, said without a difference
pub absorb : (n k : ℕ) → suc k * binomial n (suc k) + k * binomial n k ≡ n * binomial n k
unfolding binomial
absorb zero zero = refl
absorb zero (suc k) = omega arith
absorb (suc n) zero = omega (arith, absorb n zero)
absorb (suc n) (suc k) = omega (arith, absorb n k, absorb n (suc k))

-- each binomial of a row from the one before it
pub binomial-next : (n k : ℕ) → k < n → binomial n k * (n - k) / (k + 1) ≡ binomial n (k + 1)
binomial-next n k h =
    let e : n ≡ (n - k) + k = omega arith in
    let scaled : n * binomial n k ≡ ((n - k) + k) * binomial n k = ap (λ (z : ℕ). z * binomial n k) e in
    let p : binomial n k * (n - k) ≡ binomial n (suc k) * suc k = omega (arith, absorb n k) in
    rw add-one (ap (λ (z : ℕ). z / suc k) p ∙ mul-div_cancel (binomial n (suc k)) (zero-lt-suc k))

-- ---- how many sets there are

-- equal tests pass equally often
pub many-cong : (n : ℕ) (b c : ℕ → Bool) → ((i : ℕ) → i < n → b i ≡ c i) → how_many n b ≡ how_many n c
unfolding how_many
many-cong n b c e = sum-cong n (λ i. cond (b i) 1 0) (λ i. cond (c i) 1 0) (λ i l. ap (λ (t : Bool). cond t 1 0) (e i l))

-- a test of the numbers below 2 ^ (n + 1) is one of those below 2 ^ n, and one of those with bit n besides
many-halves : (n : ℕ) (b : ℕ → Bool) → how_many (2 ^ suc n) b ≡ how_many (2 ^ n) b + how_many (2 ^ n) (λ g. b (2 ^ n + g))
unfolding how_many
many-halves n b =
    let e : 2 ^ suc n ≡ 2 ^ n + 2 ^ n = omega arith in
    ap (λ (m : ℕ). how_many m b) e ∙ sum-split (2 ^ n) (2 ^ n) (λ g. cond (b g) 1 0)

module _ (n g : ℕ) (h : g < 2 ^ n) where
  -- a set of the first n has no other members
  size_low : how_many (suc n) (has_bit g) ≡ how_many n (has_bit g)
  unfolding how_many sum_to
  size_low = ap (λ (t : Bool). how_many n (has_bit g) + cond t 1 0) (bit-above g n n h (le_refl n)) ∙ add-zero (how_many n (has_bit g))

  -- with n itself it has one member more
  size-high : how_many (suc n) (has_bit (2 ^ n + g)) ≡ suc (how_many n (has_bit g))
  unfolding how_many sum_to
  size-high =
      ap (λ (z : ℕ). how_many (suc n) (has_bit z)) (add_comm (2 ^ n) g)
      ∙ ap₂ (λ (s : ℕ) (t : Bool). s + cond t 1 0)
      (many-cong n (has_bit (g + 2 ^ n)) (has_bit g) (λ i l. low_bit g n i l true)) (top_bit g n h true)
      ∙ add-one (how_many n (has_bit g))

-- does the set g of the first n have at most t members?
abbrev few : ℕ → ℕ → ℕ → Bool
few n t g = leb (how_many n (has_bit g)) t

-- the sum of the first binomials of a row, from sums of the row above it
row_next : (n t : ℕ) → sum_to (suc (suc t)) (binomial (suc n)) ≡ sum_to (suc (suc t)) (binomial n) + sum_to (suc t) (binomial n)
unfolding binomial
row_next n t =
    sum-front (suc t) (binomial (suc n))
    ∙ omega (arith, sum-add (suc t) (binomial n) (λ k. binomial n (suc k)), sum-front (suc t) (binomial n))

-- with the sets that have n besides, which have one member fewer among the first n, the sum is that of the next row
with-last : (n t : ℕ) → ((s : ℕ) → how_many (2 ^ n) (few n s) ≡ sum_to (suc s) (binomial n))
    → sum_to (suc t) (binomial n) + how_many (2 ^ n) (λ g. leb (suc (how_many n (has_bit g))) t) ≡ sum_to (suc t) (binomial (suc n))
unfolding how_many sum_to binomial
with-last n zero count =
    ap (λ (z : ℕ). 1 + z)
    (sum-zero (2 ^ n) (λ g. cond (leb (suc (how_many n (has_bit g))) 0) 1 0) (λ g l. ap (λ (b : Bool). cond b 1 0) (leb-suc-zero (how_many n (has_bit g)))))
with-last n (suc t) count =
    ap (λ (z : ℕ). sum_to (suc (suc t)) (binomial n) + z)
    (many-cong (2 ^ n) (λ g. leb (suc (how_many n (has_bit g))) (suc t)) (few n t) (λ g l. leb-suc-suc (how_many n (has_bit g)) t) ∙ count t)
    ∙ sym (row_next n t)

-- by the number of those who may be members: sets without the last of them, and sets with it
sets : (n t : ℕ) → how_many (2 ^ n) (few n t) ≡ sum_to (suc t) (binomial n)
unfolding how_many sum_to binomial
sets zero t =
    ap (λ (b : Bool). 0 + cond b 1 0) (leb-zero t)
    ∙ sym (sum-front t (binomial 0) ∙ ap (λ (z : ℕ). 1 + z) (sum-zero t (λ k. binomial 0 (suc k)) (λ k l. refl)))
sets (suc n) t =
    many-halves n (few (suc n) t)
    ∙ ap₂ ◌+◌
    (many-cong (2 ^ n) (few (suc n) t) (few n t) (λ g l. ap (λ (z : ℕ). leb z t) (size_low n g l)) ∙ sets n t)
    (many-cong (2 ^ n) (λ g. few (suc n) t (2 ^ n + g)) (λ g. leb (suc (how_many n (has_bit g))) t) (λ g l. ap (λ (z : ℕ). leb z t) (size-high n g l)))
    ∙ with-last n t (sets n)

-- there are as many sets of at most t out of n as the first binomials of row n make together
pub sets-count : (n t : ℕ) → how_many (2 ^ n) (λ g. leb (how_many n (has_bit g)) t) ≡ sum_to (t + 1) (binomial n)
sets-count n t = rw add-one (sets n t)

-- and they are no more than all sets
pub sets-few : (n t : ℕ) → sum_to (t + 1) (binomial n) ≤ 2 ^ n
sets-few n t = rw (sets-count n t) at (many-most (few n t) (2 ^ n))

-- a binomial is one of the summands
pub binomial-few : (n k : ℕ) → binomial n k ≤ 2 ^ n
binomial-few n k = le_trans (sum-le (k + 1) (binomial n) k (omega arith)) (sets-few n k)
