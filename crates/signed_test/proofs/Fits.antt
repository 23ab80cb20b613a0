-- Sums and differences of numbers that are not far from 0 fit 64 bits, and so does what a division leaves.
use Prim.Native.Nat.{ℕ, zero, suc, ◌-◌, ◌/◌, ◌^◌, ◌≤◌}
use mathlib.Core.Path.{◌≡◌, refl, subst}
use mathlib.Core.Bool.{Bool, true, false, cond}
use native.Mathlib.Omega.{arith}
use lib.Dec.{T, ltb}
use lib.IntN.{ℤ, pos, negsuc, ◌+ℤ◌, ◌-ℤ◌, neg_ℤ, sub_ℕ, nat_abs}
use lib.Signed.{lt_z, quot_z}
use borrow.Author.Tests.{ltb-false}
use mir.Syntax.{w64}
use mir.Val.{SFits}
use Rattle.std.proofs.Common.{div-le_self}

-- what two tests tell
pub not-far : (n : ℕ) (z : ℤ) → lt_z (pos n) z ≡ false → lt_z z (neg_ℤ (pos n)) ≡ false → nat_abs z ≤ n
not-far n (pos k) over under = omega (arith, ltb-false n k over)
not-far zero (negsuc k) over under = absurd (subst (λ (b : Bool). T b) under tt)
not-far (suc m) (negsuc k) over under = omega (arith, ltb-false m k under)

-- the difference of two numbers, and a sum of two integers by their signs
apart : (a b : ℕ) → a ≤ 2 ^ 61 → b ≤ 2 ^ 61 → SFits w64 (sub_ℕ a b)
apart a b h l = go (ltb a b)
  where
    go : (t : Bool) → SFits w64 (cond t (negsuc (b - suc a)) (pos (a - b)))
    go true = record { sfits = omega arith }
    go false = record { sfits = omega arith }

together : (a b : ℤ) → nat_abs a ≤ 2 ^ 61 → nat_abs b ≤ 2 ^ 61 → SFits w64 (a +ℤ b)
together (pos a) (pos b) h l = record { sfits = omega arith }
together (pos a) (negsuc b) h l = apart a (suc b) h l
together (negsuc a) (pos b) h l = apart b (suc a) l h
together (negsuc a) (negsuc b) h l = record { sfits = omega arith }

opposite-abs : (z : ℤ) → nat_abs (neg_ℤ z) ≡ nat_abs z
opposite-abs (pos zero) = refl
opposite-abs (pos (suc n)) = refl
opposite-abs (negsuc n) = refl

module _ (a b : ℤ) where
  pub sum_fits : nat_abs a ≤ 2 ^ 61 → nat_abs b ≤ 2 ^ 61 → SFits w64 (a +ℤ b)
  sum_fits h l = together a b h l

  pub difference-fits : nat_abs a ≤ 2 ^ 61 → nat_abs b ≤ 2 ^ 61 → SFits w64 (a -ℤ b)
  difference-fits h l = together a (neg_ℤ b) h (omega (arith, opposite-abs b))

-- a quotient is no further from 0
opposite-fits : (n : ℕ) → n ≤ 2 ^ 63 → SFits w64 (neg_ℤ (pos n))
opposite-fits zero h = record { sfits = omega arith }
opposite-fits (suc n) h = record { sfits = omega arith }

pub quotient_fits : (z : ℤ) (q : ℕ) → SFits w64 z → SFits w64 (quot_z z (pos q))
quotient_fits (pos n) q f = record { sfits = omega (arith, div-le_self n q, f.sfits) }
quotient_fits (negsuc n) q f = opposite-fits (suc n / q) (omega (arith, div-le_self (suc n) q, f.sfits))
