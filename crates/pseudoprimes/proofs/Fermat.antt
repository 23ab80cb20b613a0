-- Fermat's theorem at base 2: modulo an odd prime p, 2 ^ (p - 1) is 1. By row p of the binomials: it sums to 2 ^ p, and p divides all but its ends.
use mathlib.Core.Path.{◌≡◌, refl, sym, ap, ◌∙◌}
use mathlib.Core.Logic.{⊎_elim}
use mathlib.Core.Bool.{Bool, true, cond}
use Prim.Native.Nat.{ℕ, zero, suc, ◌-◌, ◌*◌, ◌%◌, ◌^◌, ◌<◌}
use native.Mathlib.Nat.{mod-eq_of_lt, mul-mod_right, pow-suc}
use native.Mathlib.Numerals.{add-one}
use native.Mathlib.Omega.{arith}
use lib.Dec.{leb}
use borrow.Author.Tests.{le-leb}
use Rattle.lists.specs.Bits.{has_bit}
use Rattle.lists.specs.Sums.{sum_to, how_many, binomial}
use Rattle.lists.proofs.Binomials.{absorb, sets-count}
use Rattle.lists.proofs.ListLaws.{many-all, many-most}
use Rattle.lists.proofs.Sums.{sum-cong}
use Rattle.residues.specs.Primes.{Prime}
use Rattle.residues.proofs.Congruence.{Cong, of_eq, c_sym, c-trans, c-add, c-mul-left, c-mul-right, cong-zero}
use Rattle.residues.proofs.InverseLaws.{invert}
use Rattle.residues.proofs.FieldLaws.{no-zero-divisors}

-- ---- a row of binomials

row-past : (n : ℕ) → binomial n (suc n) ≡ 0
row-past n = omega (arith, absorb n n)

row_last : (n : ℕ) → binomial n n ≡ 1
unfolding binomial
row_last zero = refl
row_last (suc n) = omega (arith, row_last n, row-past n)

-- k + 1 times a binomial of the next row is n + 1 times the one above it
next_row : (n k : ℕ) → suc k * binomial (suc n) (suc k) ≡ suc n * binomial n k
unfolding binomial
next_row n k = omega (arith, absorb n k)

-- a row counts all sets of n
row-sum : (n : ℕ) → sum_to (suc n) (binomial n) ≡ 2 ^ n
unfolding how_many
row-sum n =
    ap (λ (k : ℕ). sum_to k (binomial n)) (sym (add-one n))
    ∙ sym (sets-count n n)
    ∙ sum-cong (2 ^ n) (λ g. cond (leb (how_many n (has_bit g)) n) 1 0) (λ g. cond true 1 0)
    (λ g l. ap (λ (b : Bool). cond b 1 0) (le-leb (how_many n (has_bit g)) n (many-most (has_bit g) n)))
    ∙ many-all (2 ^ n)

-- ---- modulo a prime

-- p divides what stands between the ends of its row
inner : (p : ℕ) → Prime (suc p) → (k : ℕ) → suc k < suc p → binomial (suc p) (suc k) % suc p ≡ 0
inner p prime k h =
    ⊎_elim
    (λ z. absurd (omega (arith, mod-eq_of_lt h)))
    (λ z. z)
    (no-zero-divisors (suc p) prime (suc k) (binomial (suc p) (suc k))
    (ap (λ (z : ℕ). z % suc p) (next_row p k) ∙ mul-mod_right (suc p) (binomial p k)))

-- so the row without its last is 1
inner-sum : (p : ℕ) → Prime (suc p) → (m : ℕ) → m < suc p → Cong (suc p) (sum_to (suc m) (binomial (suc p))) 1
unfolding sum_to binomial
inner-sum p prime zero h = of_eq refl
inner-sum p prime (suc m) h =
    c-trans (c-add (inner-sum p prime m (omega arith)) (cong-zero (suc p) (binomial (suc p) (suc m)) (inner p prime m h))) (of_eq (omega arith))

-- and the whole row is 2
power-self : (p : ℕ) → Prime (suc p) → Cong (suc p) (2 ^ suc p) 2
unfolding sum_to
power-self p prime =
    c-trans (of_eq (sym (row-sum (suc p))))
    (c-trans (c-add (inner-sum p prime p (omega arith)) (of_eq (row_last (suc p)))) (of_eq (omega arith)))

pub fermat : (p : ℕ) → Prime p → p % 2 ≡ 1 → Cong p (2 ^ (p - 1)) 1
fermat zero prime odd = absurd (omega (arith, prime.two))
fermat (suc p) prime odd =
    let small : 2 % suc p ≡ 2 = mod-eq_of_lt (omega (arith, prime.two)) in
    let (x, c) = invert (suc p) prime 2 (λ z. omega arith) in
    let twice : Cong (suc p) (2 * 2 ^ p) (2 * 1) = c-trans (of_eq (omega (arith, pow-suc 2 p))) (power-self p prime) in
    let y : suc p - 1 ≡ p = omega arith in
    c-trans (of_eq (ap (λ (z : ℕ). 2 ^ z) y))
    (c-trans (c-trans (of_eq (omega arith)) (c-mul-right (2 ^ p) (c_sym c)))
    (c-trans (of_eq (omega arith)) (c-trans (c-mul-left x twice) (c-trans (of_eq (omega arith)) c))))
