-- A number with its sign: what the test against 0 tells of it and of its digits.
use Prim.Native.Nat.{ℕ, suc}
use mathlib.Core.Path.{◌≡◌, refl, ap}
use mathlib.Core.Bool.{Bool, true, false, cond}
use mathlib.Core.List.{◌∷◌}
use native.Mathlib.Nat.{zero-add}
use native.Mathlib.Omega.{arith}
use lib.IntN.{ℤ, pos, negsuc, ◌-ℤ◌, nat_abs}
use lib.Signed.{lt_z}
use borrow.Author.Tests.{ltb-true}
use Rattle.texts.specs.Texts.{decimal, signed_decimal}

pub record Negative (z : ℤ) : Type 0 where
  pub opposite : pos 0 -ℤ z ≡ pos (nat_abs z)
  pub digits : signed_decimal z ≡ 0x2d ∷ decimal (nat_abs z)

pub negative : (z : ℤ) → lt_z z (pos 0) ≡ true → Negative z
negative (pos n) e = absurd (omega (arith, ltb-true n 0 e))
negative (negsuc n) e = record { opposite = ap pos (zero-add (suc n)); digits = refl }

pub record Positive (z : ℤ) : Type 0 where
  pub same : z ≡ pos (nat_abs z)
  pub digits : signed_decimal z ≡ decimal (nat_abs z)

pub positive : (z : ℤ) → lt_z z (pos 0) ≡ false → Positive z
positive (pos n) e = record { same = refl; digits = refl }
positive (negsuc n) e = let z : ◌≡◌ {A = ℕ} 1 0 = ap (λ (t : Bool). cond t 1 0) e in absurd (omega arith)
