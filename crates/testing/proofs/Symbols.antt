-- A product of numbers of 32 bits by the halves of one: it is the product modulo q, and each step of it fits. And one turn more of a trial division.
use Prim.Native.Nat.{ℕ, ◌+◌, ◌*◌, ◌/◌, ◌%◌, ◌^◌, ◌≤◌, ◌<◌}
use mathlib.Core.Path.{◌≡◌, refl, sym, ap, ◌∙◌}
use mathlib.Core.Logic.{◌≢◌}
use native.Mathlib.Nat.{mul-le-mul, mod-le, div-add-mod, le-div_iff_mul-le, div-lt_iff_lt-mul}
use native.Mathlib.Decide.{ℕ_discrete, dec_lt}
use native.Mathlib.Omega.{arith}
use lib.Dec.{ltb}
use borrow.Author.Tests.{lt-ltb, le-ltb}
use Rattle.residues.proofs.Congruence.{c-trans, c-add, c-mul-right, c-refl, of_eq, of-residue, residue-mod, to-residue}
use Rattle.residues.proofs.PrimeLaws.{Undivided, prime-true, not-prime-false, undivided-prime}
use Rattle.residues.specs.Primes.{is_prime}
use Rattle.testing.specs.Numbers.{residue_of}

-- of a symbol and a number with a bound
pub symbol-product : (m n b : ℕ) → m < 2 ^ 32 → n ≤ b → m * n ≤ 4294967295 * b
symbol-product m n b p h = mul-le-mul {n₁ = m} {m₁ = n} {n₂ = 4294967295} {m₂ = b} (omega arith) h

module _ (q : ℕ) where
  pub residue-le : (n : ℕ) → residue_of q n ≤ n
  unfolding residue_of
  residue-le n = go (ℕ_discrete q 0)
    where
      go : Dec (q ≡ 0) → residue_of q n ≤ n
      go (yes e) = rw e (omega arith)
      go (no k) = rw (residue-mod q n (omega arith)) (mod-le n q)

  pub by-halves : (m n : ℕ) → residue_of q (residue_of q (m * (n / 65536)) * 65536 + m * (n % 65536)) ≡ residue_of q (m * n)
  unfolding residue_of
  by-halves m n = go (ℕ_discrete q 0)
    where
      go : Dec (q ≡ 0) → residue_of q (residue_of q (m * (n / 65536)) * 65536 + m * (n % 65536)) ≡ residue_of q (m * n)
      go (yes e) = rw e refl
      go (no k) =
          to-residue
          (c-trans (c-add (c-mul-right 65536 (of-residue q (m * (n / 65536)) (omega arith))) c-refl)
          (of_eq (omega (arith, ap (λ (z : ℕ). m * z) (div-add-mod n 65536)))))

-- what is not above the root of a number is below it
pub below_root : (n d : ℕ) → 2 ≤ d → d ≤ n / d → d < n
below_root n d two h =
    omega (arith, (le-div_iff_mul-le {k = d} {x = d} {y = n} (omega arith)).0 h, mul-le-mul {n₁ = d} {m₁ = 2} {n₂ = d} {m₂ = d} (omega arith) two)

-- d was tried, and up to the root that is enough: then 1 < n decides
pub undivided-next : (n d : ℕ) → Undivided n d → n % d ≢ 0 → Undivided n (d + 1)
undivided-next n d u no-d = record { none = λ e h l. go e h l (ℕ_discrete e d) }
  where
    go : (e : ℕ) → 2 ≤ e → e < d + 1 → Dec (e ≡ d) → n % e ≢ 0
    go e h l (yes y) z = no-d (ap (λ (x : ℕ). n % x) (sym y) ∙ z)
    go e h l (no y) z = u.none e h (omega arith) z

pub undivided-test : (n d : ℕ) → 2 ≤ d → n / d < d → Undivided n d → ltb 1 n ≡ is_prime n
undivided-test n d two above u = go (dec_lt 1 n)
  where
    below : n < d * d
    below = (div-lt_iff_lt-mul {k = d} {x = n} {y = d} (omega arith)).0 above

    go : Dec (1 < n) → ltb 1 n ≡ is_prime n
    go (yes y) = lt-ltb 1 n y ∙ sym (prime-true n (undivided-prime n d y below u))
    go (no k) = le-ltb 1 n (omega arith) ∙ sym (not-prime-false n (λ p. omega (arith, p.two)))
