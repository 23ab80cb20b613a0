-- A sum that is kept modulo q while its summands are added.
use Prim.Native.Nat.{ℕ, ◌+◌, ◌%◌, ◌<◌}
use mathlib.Core.Path.{◌≡◌, sym, ap, ap₂, ◌∙◌}
use native.Mathlib.Nat.{zero-mod}
use native.Mathlib.Numerals.{add-one}
use Rattle.residues.specs.Field.{residue}
use Rattle.residues.proofs.Congruence.{c-refl, c-add, of-rem, to-mod, residue-mod}
use Rattle.lists.specs.Sums.{sum_to}

module _ (q : ℕ) (f : ℕ → ℕ) where
  pub kept-none : 0 ≡ sum_to 0 f % q
  unfolding sum_to
  kept-none = sym (zero-mod q)

  -- what is kept, with the next summand added
  pub kept-added : (k : ℕ) → (sum_to k f % q + f k) % q ≡ sum_to (k + 1) f % q
  unfolding sum_to
  kept-added k = to-mod (c-add (of-rem q (sum_to k f)) c-refl) ∙ ap (λ (n : ℕ). sum_to n f % q) (sym (add-one k))

  -- s is what is kept of the first k, and x the next
  pub kept_next : (k s x : ℕ) → 0 < q → s ≡ sum_to k f % q → x ≡ f k → residue q (s + x) ≡ sum_to (k + 1) f % q
  kept_next k s x h e p = residue-mod q (s + x) h ∙ ap₂ (λ (a b : ℕ). (a + b) % q) e p ∙ kept-added k
