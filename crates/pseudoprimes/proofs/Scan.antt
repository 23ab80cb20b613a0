-- The test that a prime p makes no product with another that passes for a prime but the listed ones: what antt computes, and what it says.
use mathlib.Core.Path.{◌≡◌, sym, ap, ◌∙◌, subst}
use mathlib.Core.Logic.{◌⊎◌, inl, inr, ⊎_elim}
use mathlib.Core.Bool.{Bool, true, false, not, cond, ◌&&◌, ◌||◌}
use Prim.Native.Nat.{ℕ, zero, suc, ◌+◌, ◌-◌, ◌*◌, ◌/◌, ◌%◌, ◌^◌, ◌≤◌, ◌<◌}
use native.Mathlib.Nat.{mod-eq_of_lt, mul-mod_left, le-div_iff_mul-le, add-mul-mod_self_left}
use native.Mathlib.Decide.{ℕ_discrete}
use native.Mathlib.Omega.{arith}
use lib.Dec.{T, T_not, eqb, ltb, eqb→eq, ltb→lt}
use borrow.Author.Tests.{eq-eqb, ne_eqb}
use Rattle.lists.proofs.Searches.{T_and, T-or}
use Rattle.residues.specs.Primes.{Prime}
use Rattle.residues.proofs.Congruence.{Cong, cong-one, to-mod}
use Rattle.pseudoprimes.proofs.Tables.{some_divides, member, odd_primes, listed_tree, listed_numbers}
use Rattle.pseudoprimes.proofs.TableLaws.{eq→T, has, has_listed, odd-within, divided-composite}
use Rattle.pseudoprimes.proofs.Divisors.{factor, factor-pos, undivided-two}
use Rattle.pseudoprimes.proofs.Orders.{Firm, firm_test, firm-test, firm-divides, cases}

-- ---- one p with its candidates k, k + step, .., each of which is excused where it divides m - 1: the product is listed, or k is no prime

unfoldable pub excused : ℕ → ℕ → Bool
excused p k = has (p * k) listed_tree || some_divides k odd_primes

unfoldable pub run : ℕ → ℕ → ℕ → ℕ → ℕ → Bool
run zero p m step k = true
run (suc n) p m step k =
    elim (eqb (m % k) 1) [
      | true ↦ let rest = run n p m step (k + step) in excused p k && rest
      | false ↦ run n p m step (k + step)
    ]

run-both : (n p m step k : ℕ) → T (run (suc n) p m step k) → (m % k ≡ 1 → T (excused p k)) × T (run n p m step (k + step))
unfolding run
run-both n p m step k t =
    ⊎_elim
    (λ x. let (now, rest) = T_and (excused p k) (run n p m step (k + step)) x.1 in ((λ e. now), rest))
    (λ x. ((λ e. absurd (x.0 (eq→T (m % k) 1 e))), x.1))
    (cases (eqb (m % k) 1) (excused p k && run n p m step (k + step)) (run n p m step (k + step)) t)

run_at : (n p m step k : ℕ) → T (run n p m step k) → (j : ℕ) → j < n → m % (k + j * step) ≡ 1 → T (excused p (k + j * step))
run_at zero p m step k t j h e = absurd (omega arith)
run_at (suc n) p m step k t zero h e =
    let z : k ≡ k + 0 * step = omega arith in
    subst (λ (x : ℕ). T (excused p x)) z ((run-both n p m step k t).0 (ap (λ (w : ℕ). m % w) z ∙ e))
run_at (suc n) p m step k t (suc j) h e =
    let z : k + step + j * step ≡ k + suc j * step = omega arith in
    subst (λ (x : ℕ). T (excused p x)) z (run_at n p m step (k + step) (run-both n p m step k t).1 j (omega arith) (ap (λ (w : ℕ). m % w) z ∙ e))

-- ---- the step: the order s of 2 modulo p, or 2 s, so that k stays odd

unfoldable pub step_of : ℕ → ℕ
step_of s = cond (eqb (s % 2) 0) s (2 * s)

step-cases : (s : ℕ) → ((s % 2 ≡ 0) × (step_of s ≡ s)) ⊎ ((s % 2 ≡ 1) × (step_of s ≡ 2 * s))
unfolding step_of
step-cases s = go (ℕ_discrete (s % 2) 0)
  where
    go : Dec (s % 2 ≡ 0) → ((s % 2 ≡ 0) × (step_of s ≡ s)) ⊎ ((s % 2 ≡ 1) × (step_of s ≡ 2 * s))
    go (yes e) = inl (e, ap (λ (b : Bool). cond b s (2 * s)) (eq-eqb (s % 2) 0 e))
    go (no n) = inr (omega arith, ap (λ (b : Bool). cond b s (2 * s)) (ne_eqb (s % 2) 0 n))

step-divides : (s m : ℕ) → m % s ≡ 0 → m % 2 ≡ 0 → m % step_of s ≡ 0
step-divides s m z even =
    ⊎_elim
    (λ x. ap (λ (w : ℕ). m % w) x.1 ∙ z)
    (λ x.
    let f : m ≡ s * (m / s) = factor m s z in
    let g : s * (m / s) ≡ (2 * (s / 2) + 1) * (m / s) = ap (λ (w : ℕ). w * (m / s)) (omega (arith, x.0)) in
    let h : m / s ≡ 2 * (m / s / 2) = omega arith in
    let e : m ≡ (m / s / 2) * (2 * s) = omega (arith, f, ap (λ (w : ℕ). s * w) h) in
    ap (λ (w : ℕ). m % w) x.1 ∙ ap (λ (w : ℕ). w % (2 * s)) e ∙ mul-mod_left (m / s / 2) (2 * s))
    (step-cases s)

step-pos : (s : ℕ) → 0 < s → 0 < step_of s
step-pos s h = ⊎_elim (λ x. omega (arith, x.1)) (λ x. omega (arith, x.1)) (step-cases s)

-- the order of 2 modulo p, by taking primes off s. Nothing has to be shown of it: what it gives is tested
unfoldable pub shrink : ℕ → ℕ → ℕ → ℕ → ℕ → ℕ
shrink zero p s c r = s
shrink (suc f) p s c r =
    elim (ltb c (r * r)) [
      | true ↦ elim (eqb (2 ^ (s / c) % p) 1) [ true ↦ s / c | false ↦ s ]
      | false ↦
          elim (eqb (c % r) 0) [
            | true ↦ elim (eqb (2 ^ (s / r) % p) 1) [ true ↦ shrink f p (s / r) (c / r) r | false ↦ shrink f p s (c / r) r ]
            | false ↦ shrink f p s c (suc r)
          ]
    ]

-- ---- the test of p, where m is 2 ^ (p - 1) and s the order

-- p itself as the other factor
unfoldable pub square : ℕ → ℕ → Bool
square p m = not (eqb (m % (p * p)) 1) || has (p * p) listed_tree

-- p + step, p + 2 step and so on, while the product is below 2 ^ 32
unfoldable pub run_all : ℕ → ℕ → ℕ → Bool
run_all p m step = run ((4294967295 / p - p) / step) p m step (p + step)

-- steps of a trial division of a number below 65,536
abbrev pub fuel : ℕ
fuel = 300

unfoldable pub scan_prime : ℕ → ℕ → ℕ → Bool
scan_prime p m s = ltb 0 s && eqb (2 ^ s % p) 1 && firm_test fuel p s s 2 && square p m && run_all p m (step_of s)

-- p is no prime, by its power or by a divisor, or the test passes
unfoldable pub scan_one : ℕ → Bool
scan_one p = not (eqb (2 ^ (p - 1) % p) 1) || (scan_prime p (2 ^ (p - 1)) (shrink fuel p (p - 1) (p - 1) 2) || some_divides p odd_primes)

-- what a test says whose first part passes over what is not 1
passed : (n : ℕ) (b : Bool) → n ≡ 1 → T (not (eqb n 1) || b) → T b
passed n b e t = ⊎_elim (λ x. absurd (T_not (eqb n 1) x (eq→T n 1 e))) (λ x. x) (T-or (not (eqb n 1)) b t)

record Scanned (p m s : ℕ) : Type 0 where
  pos : 0 < s
  one : 2 ^ s % p ≡ 1
  firm : Firm p s s
  squared : T (square p m)
  ran : T (run_all p m (step_of s))

scan-prime : (p m s : ℕ) → T (scan_prime p m s) → Scanned p m s
unfolding scan_prime
scan-prime p m s t =
    let (t₁, ran) = T_and (ltb 0 s && eqb (2 ^ s % p) 1 && firm_test fuel p s s 2 && square p m) (run_all p m (step_of s)) t in
    let (t₂, squared) = T_and (ltb 0 s && eqb (2 ^ s % p) 1 && firm_test fuel p s s 2) (square p m) t₁ in
    let (t₃, firm) = T_and (ltb 0 s && eqb (2 ^ s % p) 1) (firm_test fuel p s s 2) t₂ in
    let (some, one) = T_and (ltb 0 s) (eqb (2 ^ s % p) 1) t₃ in
    let pos : 0 < s = ltb→lt 0 s some in
    record {
      pos = pos;
      one = eqb→eq (2 ^ s % p) 1 one;
      firm = firm-test fuel p s s 2 (omega arith) pos (undivided-two s) firm;
      squared = squared;
      ran = ran;
    }

none-divides : (k : ℕ) → Prime k → 1627 ≤ k → T (some_divides k odd_primes) → ⊥
none-divides k pk h t = divided-composite 1627 k odd_primes odd-within h t pk

scan-one : (p : ℕ) → T (scan_one p) → Prime p → 1627 ≤ p → 2 ^ (p - 1) % p ≡ 1 → (s : ℕ) × Scanned p (2 ^ (p - 1)) s
unfolding scan_one
scan-one p t pp h e =
    let s : ℕ = shrink fuel p (p - 1) (p - 1) 2 in
    ⊎_elim
    (λ x. (s, scan-prime p (2 ^ (p - 1)) s x))
    (λ x. absurd (none-divides p pp h x))
    (T-or (scan_prime p (2 ^ (p - 1)) s) (some_divides p odd_primes) (passed (2 ^ (p - 1) % p) (scan_prime p (2 ^ (p - 1)) s || some_divides p odd_primes) e t))

-- the candidate k = p + step + j step
candidate : (p m k step : ℕ) → 0 < step → 0 < p → p < k → p * k < 4294967296 → (k - p) % step ≡ 0 → T (run_all p m step) → m % k ≡ 1 → T (excused p k)
unfolding run_all
candidate p m k step sp pp l top z t e =
    let f : k - p ≡ step * ((k - p) / step) = factor (k - p) step z in
    let some : 0 < (k - p) / step = factor-pos (k - p) step (omega arith) z in
    let high : k ≤ 4294967295 / p = (le-div_iff_mul-le pp).1 (omega arith) in
    let fits : (k - p) / step ≤ (4294967295 / p - p) / step = (le-div_iff_mul-le sp).1 (omega arith) in
    let y : p + step + ((k - p) / step - 1) * step ≡ k = omega (arith, less step ((k - p) / step) some) in
    subst (λ (w : ℕ). T (excused p w)) y
    (run_at ((4294967295 / p - p) / step) p m step (p + step) t ((k - p) / step - 1) (omega arith) (ap (λ (w : ℕ). m % w) y ∙ e))
  where
    less : (a b : ℕ) → 0 < b → (b - 1) * a + a ≡ a * b
    less a zero h = absurd (omega arith)
    less a (suc b) h = ap (λ (w : ℕ). w * a + a) {x = suc b - 1} {y = b} (omega arith) ∙ omega arith

-- ---- what the test of p says

differ : (p k s : ℕ) → p ≤ k → 0 < p → (k - 1) % s ≡ 0 → (p - 1) % s ≡ 0 → (k - p) % s ≡ 0
differ p k s h pos x y =
    let b : p - 1 ≡ s * ((p - 1) / s) = factor (p - 1) s y in
    sym (add-mul-mod_self_left (k - p) s ((p - 1) / s)) ∙ ap (λ (w : ℕ). w % s) {x = k - p + s * ((p - 1) / s)} {y = k - 1} (omega arith) ∙ x

excused-listed : (p k : ℕ) → Prime k → 1627 ≤ k → T (excused p k) → T (member (p * k) listed_numbers)
unfolding excused
excused-listed p k pk h t =
    ⊎_elim
    (λ x. has_listed (p * k) x)
    (λ x. absurd (none-divides k pk h x))
    (T-or (has (p * k) listed_tree) (some_divides k odd_primes) t)

module _ (p : ℕ) (t : T (scan_one p)) (pp : Prime p) (low : 1627 ≤ p) (cp : Cong p (2 ^ (p - 1)) 1) where
  scanned : (s : ℕ) × Scanned p (2 ^ (p - 1)) s
  scanned = scan-one p t pp low (to-mod cp ∙ mod-eq_of_lt pp.two)

  pub scanned-product : (k : ℕ) → Prime k → p % 2 ≡ 1 → k % 2 ≡ 1 → p < k → p * k < 4294967296 → Cong p (2 ^ (k - 1)) 1 → 2 ^ (p - 1) % k ≡ 1
      → T (member (p * k) listed_numbers)
  scanned-product k pk op ok l top ck e =
      let (s, r) = scanned in
      let div : (m : ℕ) → Cong p (2 ^ m) 1 → m % s ≡ 0
      = firm-divides p s pp.two r.pos (cong-one p pp.two (2 ^ s) r.one) r.firm in
      let z : (k - p) % step_of s ≡ 0 = step-divides s (k - p) (differ p k s (omega arith) (omega arith) (div (k - 1) ck) (div (p - 1) cp)) (omega arith) in
      excused-listed p k pk (omega arith)
      (candidate p (2 ^ (p - 1)) k (step_of s) (step-pos s r.pos) (omega arith) l top z r.ran e)

  pub scanned-square : 2 ^ (p - 1) % (p * p) ≡ 1 → T (member (p * p) listed_numbers)
  unfolding square
  scanned-square e =
      let (s, r) = scanned in
      has_listed (p * p) (passed (2 ^ (p - 1) % (p * p)) (has (p * p) listed_tree) e r.squared)
