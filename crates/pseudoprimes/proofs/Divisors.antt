-- The least divisor of a number is prime.
use mathlib.Core.Path.{◌≡◌, sym, ap, ◌∙◌}
use mathlib.Core.Logic.{◌≢◌, ◌⊎◌, inl, inr, ⊎_elim}
use Prim.Native.Nat.{ℕ, zero, suc, ◌+◌, ◌*◌, ◌/◌, ◌%◌, ◌≤◌, ◌<◌}
use native.Mathlib.Nat.{div-add-mod, mod_self, mod-eq_of_lt, mul-mod_left}
use native.Mathlib.Decide.{ℕ_discrete, dec_lt}
use native.Mathlib.Omega.{arith}
use Rattle.residues.specs.Primes.{Prime}
use Rattle.residues.proofs.PrimeLaws.{Undivided}

-- ---- divisors

-- a divisor and its other factor
pub factor : (n d : ℕ) → n % d ≡ 0 → n ≡ d * (n / d)
factor n d z = omega (arith, div-add-mod n d)

pub factor-pos : (n d : ℕ) → 0 < n → n % d ≡ 0 → 0 < n / d
factor-pos n d pos z = go (ℕ_discrete (n / d) 0)
  where
    go : Dec (n / d ≡ 0) → 0 < n / d
    go (yes e) = absurd (omega (arith, factor n d z, ap (λ (x : ℕ). d * x) e))
    go (no k) = omega arith

-- what divides a divisor divides the number
pub divides-through : (n d e : ℕ) → n % d ≡ 0 → d % e ≡ 0 → n % e ≡ 0
divides-through n d e y z =
    let h : n ≡ (d / e * (n / d)) * e = omega (arith, factor n d y, ap (λ (x : ℕ). x * (n / d)) (factor d e z)) in
    ap (λ (x : ℕ). x % e) h ∙ mul-mod_left (d / e * (n / d)) e

-- ---- the least divisor

pub undivided-two : (n : ℕ) → Undivided n 2
undivided-two n = record { none = λ e a b z. omega arith }

-- one step of a search for divisors
pub undivided-next : (n d : ℕ) → Undivided n d → n % d ≢ 0 → Undivided n (suc d)
undivided-next n d u no-d = record { none = λ e a b. go e a b (ℕ_discrete e d) }
  where
    go : (e : ℕ) → 2 ≤ e → e < suc d → Dec (e ≡ d) → n % e ≢ 0
    go e a b (yes y) z = no-d (ap (λ (x : ℕ). n % x) (sym y) ∙ z)
    go e a b (no y) z = u.none e a (omega arith) z

-- nothing divides a factor either
pub undivided-factor : (n d e : ℕ) → n % d ≡ 0 → Undivided n e → Undivided (n / d) e
undivided-factor n d e z u =
    let y : n % (n / d) ≡ 0 = ap (λ (x : ℕ). x % (n / d)) (factor n d z) ∙ mul-mod_left d (n / d) in
    record { none = λ c a b w. u.none c a b (divides-through n (n / d) c y w) }

pub record LeastDivisor (n e : ℕ) : Type 0 where
  pub two : 2 ≤ e
  pub below : e < n
  pub divides : n % e ≡ 0
  pub undivided : Undivided n e

-- from d on up to n: the least divisor, or none below n
least-from : (n f d : ℕ) → 2 ≤ d → Undivided n d → n ≤ d + f → Undivided n n ⊎ ((e : ℕ) × LeastDivisor n e)
least-from n zero d two u h = inl (record { none = λ e a b. u.none e a (omega arith) })
least-from n (suc f) d two u h = go (dec_lt d n) (ℕ_discrete (n % d) 0) (least-from n f (suc d) (omega arith))
  where
    Found : Type 0
    Found = Undivided n n ⊎ ((e : ℕ) × LeastDivisor n e)

    go : Dec (d < n) → Dec (n % d ≡ 0) → (Undivided n (suc d) → n ≤ suc d + f → Found) → Found
    go (no k) y ih = inl (record { none = λ e a b. u.none e a (omega arith) })
    go (yes l) (yes z) ih = inr (d, record { two = two; below = l; divides = z; undivided = u })
    go (yes l) (no k) ih = ih (undivided-next n d u k) (omega arith)

pub least-divisor : (n : ℕ) → 2 ≤ n → Prime n ⊎ ((e : ℕ) × LeastDivisor n e)
least-divisor n two =
    ⊎_elim
    (λ u. inl (record { two = two; none = u.none }))
    inr
    (least-from n n 2 (omega arith) (undivided-two n) (omega arith))

-- a divisor below which nothing divides is prime
pub least-prime : (n e : ℕ) → 2 ≤ e → n % e ≡ 0 → Undivided n e → Prime e
least-prime n e a z u = record { two = a; none = λ d h l y. u.none d h l (divides-through n e d z y) }

-- every number from 2 on has a prime divisor
pub prime-divisor : (n : ℕ) → 2 ≤ n → (e : ℕ) × Prime e × (n % e ≡ 0)
prime-divisor n two =
    ⊎_elim
    (λ p. (n, p, mod_self n))
    (λ x. let (e, l) = x in (e, least-prime n e l.two l.divides l.undivided, l.divides))
    (least-divisor n two)

-- a prime that divides a prime is that prime
pub prime-same : (p t : ℕ) → Prime p → Prime t → p % t ≡ 0 → t ≡ p
prime-same p t pp pt z = go (dec_lt t p) (dec_lt p t)
  where
    go : Dec (t < p) → Dec (p < t) → t ≡ p
    go (yes l) y = absurd (pp.none t pt.two l z)
    go (no k) (yes l) = absurd (omega (arith, mod-eq_of_lt l, pp.two))
    go (no k) (no j) = omega arith
