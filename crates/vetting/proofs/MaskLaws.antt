-- The masks of clusters, step by step, and the users and clusters that they name.
use mathlib.Core.Path.{◌≡◌, refl, sym, ap, ◌∙◌}
use mathlib.Core.Bool.{Bool, true, false, cond}
use Prim.Native.Nat.{ℕ, zero, suc, ◌+◌, ◌^◌, ◌<◌}
use native.Mathlib.Nat.{lt_of_lt_of_le}
use native.Mathlib.Numerals.{add-one}
use native.Mathlib.Omega.{arith}
use lib.Dec.{lit<}
use lib.Pow.{pow_mono}
use Rattle.lists.specs.Sums.{sum_to}
use Rattle.vetting.specs.Walking.{outsider_in, outsider_mask, tested_mask}
use Rattle.lists.proofs.BitLaws.{mask_below}

module _ (size g : ℕ) where
  pub outsiders-none : 0 ≡ outsider_mask size g 0
  unfolding outsider_mask sum_to
  outsiders-none = refl

  pub tested-none : 0 ≡ tested_mask size g 0
  unfolding tested_mask
  tested-none = refl

  pub outsiders-next : (k : ℕ) (t : Bool) → t ≡ outsider_in size g k → outsider_mask size g (k + 1) ≡ outsider_mask size g k + cond t (2 ^ k) 0
  unfolding outsider_mask sum_to
  outsiders-next k t e =
      ap (λ (n : ℕ). sum_to n (λ u. cond (outsider_in size g u) (2 ^ u) 0)) (add-one k)
      ∙ ap (λ (b : Bool). outsider_mask size g k + cond b (2 ^ k) 0) (sym e)

  pub tested-next : (k : ℕ) (t : Bool) → t ≡ outsider_in size g k → tested_mask size g (k + 1) ≡ cond t (outsider_mask size g k) (tested_mask size g k)
  unfolding tested_mask
  tested-next k t e =
      ap (tested_mask size g) (add-one k) ∙ ap (λ (b : Bool). cond b (outsider_mask size g k) (tested_mask size g k)) (sym e)

  pub outsiders-below : (k : ℕ) → outsider_mask size g k < 2 ^ k
  unfolding outsider_mask
  outsiders-below k = mask_below (outsider_in size g) k

  pub tested-below : (k : ℕ) → tested_mask size g k < 2 ^ k
  unfolding tested_mask
  tested-below zero = lit< tt
  tested-below (suc k) = go (outsider_in size g k) (tested-below k)
    where
      more : {n : ℕ} → n < 2 ^ k → n < 2 ^ suc k
      more h = lt_of_lt_of_le h (pow_mono (omega arith))

      go : (t : Bool) → tested_mask size g k < 2 ^ k → cond t (outsider_mask size g k) (tested_mask size g k) < 2 ^ suc k
      go true h = more (outsiders-below k)
      go false h = more h
