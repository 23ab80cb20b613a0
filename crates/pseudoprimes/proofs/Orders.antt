-- The exponents at which a power of 2 is 1 modulo p are the multiples of one, the order of 2; and a test that a number is that order.
use mathlib.Core.Path.{◌≡◌, sym, ap, ◌∙◌, subst}
use mathlib.Core.Logic.{◌≢◌, ◌⊎◌, inl, inr, ⊎_elim}
use mathlib.Core.Bool.{Bool, true, false, not, ◌||◌}
use Prim.Native.Nat.{ℕ, zero, suc, ◌+◌, ◌*◌, ◌/◌, ◌%◌, ◌^◌, ◌≤◌, ◌<◌}
use native.Mathlib.Nat.{div-add-mod, mod-lt, mod-eq_of_lt, mul-mod_right, pow-zero, mul-div_cancel_left}
use native.Mathlib.Decide.{ℕ_discrete, dec_lt}
use native.Mathlib.Omega.{arith}
use lib.Dec.{T, T_not, eqb, ltb, eqb→eq, ltb→lt}
use lib.Pow.{pow-add}
use Rattle.lists.proofs.Searches.{T-or}
use Rattle.residues.specs.Primes.{Prime}
use Rattle.residues.proofs.Congruence.{Cong, of_eq, c-refl, c_sym, c-trans, c-mul, cong-one, to-mod}
use Rattle.residues.proofs.PrimeLaws.{Undivided, undivided-prime}
use Rattle.residues.proofs.FieldLaws.{no-zero-divisors}
use Rattle.pseudoprimes.proofs.TableLaws.{eq→T}
use Rattle.pseudoprimes.proofs.Divisors.{factor, factor-pos, undivided-next, undivided-factor, least-prime, prime-divisor, prime-same}

-- ---- powers of 2

power-times : {p a : ℕ} (m n : ℕ) → Cong p (2 ^ m) 1 → Cong p (2 ^ n) a → Cong p (2 ^ (m + n)) a
power-times m n c d = c-trans (of_eq (pow-add 2 m n)) (c-trans (c-mul c d) (of_eq (omega arith)))

power-multiple : {p : ℕ} (m : ℕ) → Cong p (2 ^ m) 1 → (n : ℕ) → Cong p (2 ^ (m * n)) 1
power-multiple m c zero = of_eq (ap (λ (z : ℕ). 2 ^ z) {x = m * 0} {y = 0} (omega arith) ∙ pow-zero 2)
power-multiple m c (suc n) =
    c-trans (of_eq (ap (λ (z : ℕ). 2 ^ z) {x = m * suc n} {y = m + m * n} (omega arith))) (power-times m (m * n) c (power-multiple m c n))

-- what is left of an exponent when multiples of one whose power is 1 are taken off
pub power-rest : {p : ℕ} (m : ℕ) → Cong p (2 ^ m) 1 → (n r : ℕ) → Cong p (2 ^ (m * n + r)) (2 ^ r)
power-rest m c n r = power-times (m * n) r (power-multiple m c n) c-refl

-- ---- the order

record Order (p o : ℕ) : Type 0 where
  pos : 0 < o
  one : Cong p (2 ^ o) 1
  none : (i : ℕ) → 0 < i → i < o → 2 ^ i % p ≢ 1

-- the least exponent, where there is one
order-of : (p : ℕ) → 2 ≤ p → (s : ℕ) → 0 < s → Cong p (2 ^ s) 1 → (o : ℕ) × Order p o
order-of p two s pos c = from s 1 (omega arith) (λ i a b. absurd (omega arith)) (omega arith)
  where
    Below : ℕ → Type 0
    Below d = (i : ℕ) → 0 < i → i < d → 2 ^ i % p ≢ 1

    more : (d : ℕ) → Below d → 2 ^ d % p ≢ 1 → Below (suc d)
    more d n k i a b z = pick (ℕ_discrete i d)
      where
        pick : Dec (i ≡ d) → ⊥
        pick (yes e) = k (ap (λ (w : ℕ). 2 ^ w % p) (sym e) ∙ z)
        pick (no j) = n i a (omega arith) z

    from : (f d : ℕ) → 0 < d → Below d → s < d + f → (o : ℕ) × Order p o
    from zero d a n l = absurd (n s pos (omega arith) (to-mod c ∙ mod-eq_of_lt two))
    from (suc f) d a n l = go (ℕ_discrete (2 ^ d % p) 1) (from f (suc d) (omega arith))
      where
        go : Dec (2 ^ d % p ≡ 1) → (Below (suc d) → s < suc d + f → (o : ℕ) × Order p o) → (o : ℕ) × Order p o
        go (yes e) ih = (d, record { pos = a; one = cong-one p two (2 ^ d) e; none = n })
        go (no k) ih = ih (more d n k) (omega arith)

order-divides : (p o : ℕ) → 2 ≤ p → Order p o → (m : ℕ) → Cong p (2 ^ m) 1 → m % o ≡ 0
order-divides p o two l m c = go (ℕ_discrete (m % o) 0)
  where
    go : Dec (m % o ≡ 0) → m % o ≡ 0
    go (yes e) = e
    go (no k) =
        absurd
        (l.none (m % o) (omega arith) (mod-lt m l.pos)
        (to-mod
        (c-trans (c_sym (power-rest o l.one (m / o) (m % o)))
        (c-trans (of_eq (ap (λ (z : ℕ). 2 ^ z) (div-add-mod m o))) c))
        ∙ mod-eq_of_lt two))

-- ---- a number whose power is 1 and from which no prime can be taken off

-- no prime divisor of c can be taken off s
abbrev pub Firm : ℕ → ℕ → ℕ → Type 0
Firm p s c = (t : ℕ) → Prime t → c % t ≡ 0 → 2 ^ (s / t) % p ≢ 1

-- such an s divides each exponent whose power is 1
pub firm-divides : (p s : ℕ) → 2 ≤ p → 0 < s → Cong p (2 ^ s) 1 → Firm p s s → (m : ℕ) → Cong p (2 ^ m) 1 → m % s ≡ 0
firm-divides p s two pos c firm m d =
    let (o, l) = order-of p two s pos c in
    go o l (factor s o (order-divides p o two l s c)) (dec_lt (s / o) 2)
  where
    go : (o : ℕ) → Order p o → s ≡ o * (s / o) → Dec (s / o < 2) → m % s ≡ 0
    go o l so (yes y) =
        let some : 0 < s / o = factor-pos s o pos (order-divides p o two l s c) in
        let e : s ≡ o = omega (arith, ap (λ (x : ℕ). o * x) {x = s / o} {y = 1} (omega arith)) in
        ap (λ (x : ℕ). m % x) e ∙ order-divides p o two l m d
    go o l so (no k) =
        let (t, pt, z) = prime-divisor (s / o) (omega arith) in
        let e : s ≡ t * (o * (s / o / t)) = omega (arith, so, ap (λ (x : ℕ). o * x) (factor (s / o) t z)) in
        let f : s / t ≡ o * (s / o / t) = ap (λ (x : ℕ). x / t) e ∙ mul-div_cancel_left (o * (s / o / t)) (omega (arith, pt.two)) in
        absurd
        (firm t pt (ap (λ (x : ℕ). x % t) e ∙ mul-mod_right t (o * (s / o / t)))
        (ap (λ (x : ℕ). 2 ^ x % p) f ∙ to-mod (power-multiple o l.one (s / o / t)) ∙ mod-eq_of_lt two))

-- ---- the same as a test, which antt computes

-- by trial division of c from r on, nothing from 2 below r dividing it, in at most f steps
unfoldable pub firm_test : ℕ → ℕ → ℕ → ℕ → ℕ → Bool
firm_test zero p s c r = false
firm_test (suc f) p s c r =
    elim (ltb c (r * r)) [
      | true ↦ eqb c 1 || not (eqb (2 ^ (s / c) % p) 1)
      | false ↦
          elim (eqb (c % r) 0) [
            | true ↦ elim (eqb (2 ^ (s / r) % p) 1) [ true ↦ false | false ↦ firm_test f p s (c / r) r ]
            | false ↦ firm_test f p s c (suc r)
          ]
    ]

pub cases : (b x y : Bool) → T (elim b [ true ↦ x | false ↦ y ]) → (T b × T x) ⊎ ((T b → ⊥) × T y)
cases true x y t = inl (tt, t)
cases false x y t = inr ((λ z. z), t)

-- where c is 1, nothing is left to take off
firm-one : (p s c : ℕ) → c ≡ 1 → Firm p s c
firm-one p s c e t pt z =
    absurd (omega (arith, ap (λ (x : ℕ). x % t) (sym e) ∙ z, mod-eq_of_lt {n = 1} {m = t} pt.two))

-- where c is below r r and not 1, it is a prime
firm-prime : (p s c r : ℕ) → 0 < c → c < r * r → Undivided c r → 2 ^ (s / c) % p ≢ 1 → Firm p s c
firm-prime p s c r pos l u o = go (ℕ_discrete c 1)
  where
    go : Dec (c ≡ 1) → Firm p s c
    go (yes e) = firm-one p s c e
    go (no n) = λ t pt z.
        let pc : Prime c = undivided-prime c r (omega arith) l u in
        subst (λ (x : ℕ). 2 ^ (s / x) % p ≢ 1) (sym (prime-same c t pc pt z)) o

-- where r divides c, the primes of c are r and those of c / r
firm-taken : (p s c r : ℕ) → 2 ≤ r → c % r ≡ 0 → Undivided c r → 2 ^ (s / r) % p ≢ 1 → Firm p s (c / r) → Firm p s c
firm-taken p s c r two z u o rest t pt y = go (ℕ_discrete t r)
  where
    go : Dec (t ≡ r) → 2 ^ (s / t) % p ≢ 1
    go (yes e) = subst (λ (x : ℕ). 2 ^ (s / x) % p ≢ 1) (sym e) o
    go (no k) =
        ⊎_elim
        (λ w. absurd (k (prime-same r t (least-prime c r two z u) pt w)))
        (λ w. rest t pt w)
        (no-zero-divisors t pt r (c / r) (ap (λ (x : ℕ). x % t) (sym (factor c r z)) ∙ y))

not-one : (n : ℕ) → (T (eqb n 1) → ⊥) → n ≢ 1
not-one n h e = h (eq→T n 1 e)

pub firm-test : (f p s c r : ℕ) → 2 ≤ r → 0 < c → Undivided c r → T (firm_test f p s c r) → Firm p s c
unfolding firm_test
firm-test zero p s c r two pos u t = absurd t
firm-test (suc f) p s c r two pos u t =
    ⊎_elim
    (λ x.
    ⊎_elim
    (λ y. firm-one p s c (eqb→eq c 1 y))
    (λ y. firm-prime p s c r pos (ltb→lt c (r * r) x.0) u (not-one (2 ^ (s / c) % p) (T_not (eqb (2 ^ (s / c) % p) 1) y)))
    (T-or (eqb c 1) (not (eqb (2 ^ (s / c) % p) 1)) x.1))
    (λ x.
    ⊎_elim
    (λ y.
    let z : c % r ≡ 0 = eqb→eq (c % r) 0 y.0 in
    ⊎_elim
    (λ w. absurd w.1)
    (λ w.
    firm-taken p s c r two z u (not-one (2 ^ (s / r) % p) w.0)
    (firm-test f p s (c / r) r two (factor-pos c r pos z) (undivided-factor c r r z u) w.1))
    (cases (eqb (2 ^ (s / r) % p) 1) false (firm_test f p s (c / r) r) y.1))
    (λ y. firm-test f p s c (suc r) (omega arith) pos (undivided-next c r u (λ e. y.0 (eq→T (c % r) 0 e))) y.1)
    (cases (eqb (c % r) 0) _ (firm_test f p s c (suc r)) x.1))
    (cases (ltb c (r * r)) _ _ t)
