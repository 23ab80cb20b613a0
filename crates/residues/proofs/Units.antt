-- Numbers that have an inverse modulo q: modulo a prime each that is not 0. A multiple by one is 0 just where the number itself is.
use mathlib.Core.Logic.{◌≢◌, ◌↔◌}
use mathlib.Core.Path.{sym, ◌∙◌}
use Prim.Native.Nat.{ℕ, ◌*◌, ◌<◌}
use native.Mathlib.Nat.{mod-eq_of_lt}
use native.Mathlib.Omega.{arith}
use Rattle.residues.specs.Primes.{Prime}
use Rattle.residues.proofs.Congruence.{Cong, of_eq, c_sym, c-trans, c-mul, c-mul-left, c-mul-right}
use Rattle.residues.proofs.InverseLaws.{invert}

pub record IsUnit (q a : ℕ) : Type 0 where
  pub inverse : ℕ
  pub one : Cong q (a * inverse) 1

pub unit-one : {q : ℕ} → IsUnit q 1
unit-one = record { inverse = 1; one = of_eq (omega arith) }

pub unit-product : {q a b : ℕ} → IsUnit q a → IsUnit q b → IsUnit q (a * b)
unit-product u v =
    record { inverse = u.inverse * v.inverse; one = c-trans (of_eq (omega arith)) (c-trans (c-mul u.one v.one) (of_eq (omega arith))) }

pub unit-number : {q a : ℕ} → Prime q → a < q → a ≢ 0 → IsUnit q a
unit-number {q} {a} p h n = let (x, c) = invert q p a (λ z. n (sym (mod-eq_of_lt h) ∙ z)) in record { inverse = x; one = c }

pub unit-zero : {q a : ℕ} → IsUnit q a → (d : ℕ) → Cong q (a * d) 0 ↔ Cong q d 0
unit-zero {q} {a} u d = (
  (λ z.
      c-trans
      (c-trans (of_eq (omega arith)) (c-mul-right d (c_sym u.one)))
      (c-trans (of_eq (omega arith)) (c-trans (c-mul-left u.inverse z) (of_eq (omega arith))))),
  (λ z. c-trans (c-mul-left a z) (of_eq (omega arith))),
)
