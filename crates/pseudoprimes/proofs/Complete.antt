-- The list is whole: a number below 2 ^ 32 with no divisor below 1,627 that passes at base 2 and is not listed is prime.
-- Were it none, it would be p k with two primes p ≤ k, since the third power of 1,627 is above 2 ^ 32. By Fermat's theorem p divides 2 ^ (k - 1) - 1 and k
-- divides 2 ^ (p - 1) - 1. So k - p is a multiple of the order of 2 modulo p, and Scan has tried every such k for every p.
use mathlib.Core.Path.{◌≡◌, sym, ap, ◌∙◌, subst}
use mathlib.Core.Logic.{⊎_elim}
use Prim.Native.Nat.{ℕ, zero, suc, ◌+◌, ◌-◌, ◌*◌, ◌/◌, ◌%◌, ◌^◌, ◌≤◌, ◌<◌}
use native.Mathlib.Nat.{div-add-mod, mod-eq_of_lt, mul-mod_left, mul-le-mul, pow-zero}
use native.Mathlib.Decide.{ℕ_discrete, dec_lt}
use native.Mathlib.Omega.{arith}
use lib.Dec.{T}
use lib.Pow.{pow-add}
use Rattle.residues.specs.Primes.{Prime}
use Rattle.residues.proofs.Congruence.{Cong, of_eq, c-refl, c_sym, c-trans, c-mul, to-mod}
use Rattle.residues.proofs.PrimeLaws.{Undivided, undivided-prime}
use Rattle.pseudoprimes.proofs.Tables.{member, listed_numbers}
use Rattle.pseudoprimes.proofs.Divisors.{factor, divides-through, LeastDivisor, least-divisor, least-prime, undivided-factor}
use Rattle.pseudoprimes.proofs.Fermat.{fermat}
use Rattle.pseudoprimes.proofs.Orders.{power-rest}
use Rattle.pseudoprimes.proofs.Scan.{scanned-product, scanned-square}
use Rattle.pseudoprimes.proofs.Computed.{all-scanned}

-- ---- two primes p and k

-- what holds modulo a product holds modulo a factor
cong-factor : (p k a b : ℕ) → Cong (p * k) a b → Cong p a b
cong-factor p k a b c = record { up = k * c.up; dn = k * c.dn; eq = omega (arith, c.eq) }

-- modulo a prime factor p of p k, the power p k - 1 is the power k - 1
reduced : (p k : ℕ) → Prime p → p % 2 ≡ 1 → 0 < k → Cong (p * k) (2 ^ (p * k - 1)) 1 → Cong p (2 ^ (k - 1)) 1
reduced p k pp odd pos c =
    let e : p * k - 1 ≡ (p - 1) * k + (k - 1) = exponent p (omega (arith, pp.two)) in
    c-trans (c_sym (power-rest (p - 1) (fermat p pp odd) k (k - 1)))
    (c-trans (of_eq (ap (λ (z : ℕ). 2 ^ z) (sym e))) (cong-factor p k (2 ^ (p * k - 1)) 1 c))
  where
    exponent : (p : ℕ) → 0 < p → p * k - 1 ≡ (p - 1) * k + (k - 1)
    exponent zero h = absurd (omega arith)
    exponent (suc p) h = omega (arith, ap (λ (z : ℕ). z * k) {x = suc p - 1} {y = p} (omega arith))

-- ---- the square of a prime p: where 2 ^ m is 1 + p b, the power n of it is 1 + n p b modulo p p

square-step : (p b n x : ℕ) → Cong (p * p) x (1 + n * (p * b)) → Cong (p * p) (x * (1 + p * b)) (1 + suc n * (p * b))
square-step p b n x c =
    c-trans (c-mul c (c-refl {a = 1 + p * b})) (record { up = 0; dn = n * (b * b); eq = omega arith })

square-power : (p b m : ℕ) → 2 ^ m ≡ 1 + p * b → (n : ℕ) → Cong (p * p) (2 ^ (m * n)) (1 + n * (p * b))
square-power p b m e zero = of_eq (ap (λ (z : ℕ). 2 ^ z) {x = m * 0} {y = 0} (omega arith) ∙ pow-zero 2 ∙ omega arith)
square-power p b m e (suc n) =
    c-trans
    (of_eq (ap (λ (z : ℕ). 2 ^ z) {x = m * suc n} {y = m * n + m} (omega arith) ∙ pow-add 2 (m * n) m ∙ ap (λ (z : ℕ). 2 ^ (m * n) * z) e))
    (square-step p b n (2 ^ (m * n)) (square-power p b m e n))

-- the power p p - 1 is the power p - 1
squared : (p : ℕ) → Prime p → p % 2 ≡ 1 → Cong (p * p) (2 ^ (p * p - 1)) 1 → Cong (p * p) (2 ^ (p - 1)) 1
squared p pp odd c =
    let f : 2 ^ (p - 1) % p ≡ 1 = to-mod (fermat p pp odd) ∙ mod-eq_of_lt pp.two in
    let b : ℕ = 2 ^ (p - 1) / p in
    let e : 2 ^ (p - 1) ≡ 1 + p * (2 ^ (p - 1) / p) = omega (arith, div-add-mod (2 ^ (p - 1)) p) in
    let x : (p - 1) * (p + 1) ≡ p * p - 1 = exponent p (omega (arith, pp.two)) in
    c-trans (of_eq e)
    (c-trans (c_sym (record { up = 0; dn = b; eq = omega arith }))
    (c-trans (c_sym (square-power p b (p - 1) e (p + 1))) (c-trans (of_eq (ap (λ (z : ℕ). 2 ^ z) x)) c)))
  where
    exponent : (p : ℕ) → 0 < p → (p - 1) * (p + 1) ≡ p * p - 1
    exponent zero h = absurd (omega arith)
    exponent (suc p) h = ap (λ (z : ℕ). z * (suc p + 1)) {x = suc p - 1} {y = p} (omega arith) ∙ omega arith

-- ---- a product that passes is listed

module _ (p : ℕ) (pp : Prime p) (low : 1627 ≤ p) (root : p < 65536) (op : p % 2 ≡ 1) where
  square-listed : Cong (p * p) (2 ^ (p * p - 1)) 1 → T (member (p * p) listed_numbers)
  square-listed c =
      let big : 1 < p * p = omega (arith, mul-le-mul {n₁ = 2} {m₁ = 2} {n₂ = p} {m₂ = p} pp.two pp.two) in
      scanned-square p (all-scanned p low root op) pp low (fermat p pp op) (to-mod (squared p pp op c) ∙ mod-eq_of_lt big)

  product-listed : (k : ℕ) → Prime k → k % 2 ≡ 1 → p < k → p * k < 4294967296 → Cong (p * k) (2 ^ (p * k - 1)) 1 → T (member (p * k) listed_numbers)
  product-listed k pk ok l top c =
      let ck : Cong p (2 ^ (k - 1)) 1 = reduced p k pp op (omega arith) c in
      let turned : Cong (k * p) (2 ^ (k * p - 1)) 1 = subst (λ (w : ℕ). Cong w (2 ^ (w - 1)) 1) {x = p * k} {y = k * p} (omega arith) c in
      let cp : Cong k (2 ^ (p - 1)) 1 = reduced k p pk ok (omega arith) turned in
      scanned-product p (all-scanned p low root op) pp low (fermat p pp op) k pk op ok l top ck (to-mod cp ∙ mod-eq_of_lt pk.two)

  pair-listed : (k : ℕ) → Prime k → k % 2 ≡ 1 → p ≤ k → p * k < 4294967296 → Cong (p * k) (2 ^ (p * k - 1)) 1 → T (member (p * k) listed_numbers)
  pair-listed k pk ok le top c = go (ℕ_discrete p k)
    where
      go : Dec (p ≡ k) → T (member (p * k) listed_numbers)
      go (yes e) =
          subst (λ (w : ℕ). T (member (p * w) listed_numbers)) e
          (square-listed (subst (λ (w : ℕ). Cong (p * w) (2 ^ (p * w - 1)) 1) (sym e) c))
      go (no n) = product-listed k pk ok (omega arith) top c

-- ---- a number that is left: its least divisor p, and k = q / p, are primes

-- a factor of an odd number is odd
odd_factor : (q d : ℕ) → q % 2 ≡ 1 → q % d ≡ 0 → d % 2 ≡ 1
odd_factor q d odd z = go (ℕ_discrete (d % 2) 0)
  where
    go : Dec (d % 2 ≡ 0) → d % 2 ≡ 1
    go (yes w) = absurd (omega (arith, divides-through q d 2 z w))
    go (no n) = omega arith

module _ (q p : ℕ) (l : LeastDivisor q p) (low : 1627 ≤ p) (top : q < 4294967296) where
  whole : q ≡ p * (q / p)
  whole = factor q p l.divides

  other-divides : q % (q / p) ≡ 0
  other-divides = ap (λ (w : ℕ). w % (q / p)) whole ∙ mul-mod_left p (q / p)

  other-two : 2 ≤ q / p
  other-two = go (q / p) whole
    where
      go : (k : ℕ) → q ≡ p * k → 2 ≤ k
      go zero e = absurd (omega (arith, l.below))
      go (suc zero) e = absurd (omega (arith, l.below))
      go (suc (suc k)) e = omega arith

  other-least : p ≤ q / p
  other-least = go (dec_lt (q / p) p)
    where
      go : Dec (q / p < p) → p ≤ q / p
      go (yes y) = absurd (l.undivided.none (q / p) other-two y other-divides)
      go (no n) = omega arith

  -- the third power of 1,627 is above 2 ^ 32
  other-prime : Prime (q / p)
  other-prime = undivided-prime (q / p) p other-two (go (dec_lt (q / p) (p * p))) (undivided-factor q p p l.divides l.undivided)
    where
      go : Dec (q / p < p * p) → q / p < p * p
      go (yes y) = y
      go (no n) =
          let m : 1627 * 1627 ≤ p * p = mul-le-mul {n₁ = 1627} {m₁ = 1627} {n₂ = p} {m₂ = p} low low in
          absurd (omega (arith, whole, mul-le-mul {n₁ = 1627} {m₁ = 1627 * 1627} {n₂ = p} {m₂ = q / p} low (omega arith)))

  below_root : p < 65536
  below_root = go (dec_lt p 65536)
    where
      go : Dec (p < 65536) → p < 65536
      go (yes y) = y
      go (no n) =
          absurd (omega (arith, whole, other-least, mul-le-mul {n₁ = 65536} {m₁ = 65536} {n₂ = p} {m₂ = q / p} (omega arith) (omega (arith, other-least))))

  left-listed : q % 2 ≡ 1 → Cong q (2 ^ (q - 1)) 1 → T (member q listed_numbers)
  left-listed odd c =
      subst (λ (w : ℕ). T (member w listed_numbers)) (sym whole)
      (pair-listed p (least-prime q p l.two l.divides l.undivided) low below_root (odd_factor q p odd l.divides) (q / p) other-prime
      (odd_factor q (q / p) odd other-divides) other-least (omega (arith, whole)) (subst (λ (w : ℕ). Cong w (2 ^ (w - 1)) 1) whole c))

pub complete : (q : ℕ) → 2 ≤ q → q < 4294967296 → q % 2 ≡ 1 → Undivided q 1627 → Cong q (2 ^ (q - 1)) 1 → (T (member q listed_numbers) → ⊥) → Prime q
complete q two top odd u c out =
    ⊎_elim
    (λ p. p)
    (λ x. let (p, l) = x in absurd (out (left-listed q p l (low p l (dec_lt p 1627)) top odd c)))
    (least-divisor q two)
  where
    low : (p : ℕ) → LeastDivisor q p → Dec (p < 1627) → 1627 ≤ p
    low p l (yes y) = absurd (u.none p l.two y l.divides)
    low p l (no n) = omega arith
