-- Sums of congruent numbers.
use Prim.Native.Nat.{ℕ, zero, suc, ◌+◌, ◌<◌}
use mathlib.Core.Path.{sym, subst}
use mathlib.Core.Logic.{◌≢◌, ⊎_elim}
use native.Mathlib.Nat.{lt-suc_self, eq-or-lt_of_le, le_of_suc-le-suc, not-suc-le-zero}
use native.Mathlib.Omega.{arith}
use Rattle.lists.specs.Sums.{sum_to}
use Rattle.residues.proofs.Congruence.{Cong, c-refl, c-add}

module _ {q : ℕ} where
  -- congruent summands have congruent sums
  pub sum-c : (n : ℕ) (f g : ℕ → ℕ) → ((i : ℕ) → i < n → Cong q (f i) (g i)) → Cong q (sum_to n f) (sum_to n g)
  unfolding sum_to
  sum-c zero f g h = c-refl
  sum-c (suc n) f g h = c-add (sum-c n f g (λ i l. h i (omega arith))) (h n (lt-suc_self n))

  c-cancel : {a b x y : ℕ} → Cong q a b → Cong q (a + x) (b + y) → Cong q x y
  c-cancel c e = record { up = e.up + c.dn; dn = e.dn + c.up; eq = omega arith }

  c-cancel-right : {a b x y : ℕ} → Cong q x y → Cong q (a + x) (b + y) → Cong q a b
  c-cancel-right c e = record { up = e.up + c.dn; dn = e.dn + c.up; eq = omega arith }

  -- where the sums are congruent, and all summands but one, that one is too
  pub sum_left : (n : ℕ) (f g : ℕ → ℕ) (k : ℕ) → k < n → ((i : ℕ) → i < n → i ≢ k → Cong q (f i) (g i)) → Cong q (sum_to n f) (sum_to n g) → Cong q (f k) (g k)
  unfolding sum_to
  sum_left zero f g k h others all = absurd (not-suc-le-zero h)
  sum_left (suc n) f g k h others all =
      ⊎_elim
      (λ e. subst (λ (j : ℕ). Cong q (f j) (g j)) (sym e) (c-cancel (sum-c n f g (λ i l. others i (omega arith) (omega arith))) all))
      (λ c. sum_left n f g k c (λ i l. others i (omega arith)) (c-cancel-right (others n (lt-suc_self n) (omega arith)) all))
      (eq-or-lt_of_le (le_of_suc-le-suc h))
