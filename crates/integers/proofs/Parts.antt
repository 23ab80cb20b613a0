-- An integer z is up z - dn z, and one of the two is 0. In these two numbers every linear fact of integers is one that `omega` proves: it reads no
-- integer itself.
use Prim.Native.Nat.{ℕ, zero, suc, ◌+◌, ◌-◌, ◌≤◌, ◌<◌, min}
use mathlib.Core.Path.{◌≡◌, refl, sym, ap}
use mathlib.Core.Bool.{Bool, true, false, cond}
use native.Mathlib.Omega.{arith}
use lib.Dec.{ltb, leb→le, le→leb}
use lib.IntN.{ℤ, pos, negsuc, neg_ℤ, ◌+ℤ◌, ◌-ℤ◌, sub_ℕ, nat_abs}
use lib.Signed.{lt_z, ◌≤ℤ◌, le_z_yes}
use borrow.Author.Tests.{ltb-true, ltb-false}
use Rattle.lists.proofs.Searches.{true→T}

abbrev pub up : ℤ → ℕ
up (pos n) = n
up (negsuc n) = 0

abbrev pub dn : ℤ → ℕ
dn (pos n) = 0
dn (negsuc n) = suc n

pub one-part : (z : ℤ) → min (up z) (dn z) ≡ 0
one-part (pos n) = omega arith
one-part (negsuc n) = omega arith

-- integers with the same difference of parts are equal
pub same_parts : (a b : ℤ) → up a + dn b ≡ up b + dn a → a ≡ b
same_parts (pos a) (pos b) e = ap pos (omega arith)
same_parts (pos a) (negsuc b) e = absurd (omega arith)
same_parts (negsuc a) (pos b) e = absurd (omega arith)
same_parts (negsuc a) (negsuc b) e = ap negsuc (omega arith)

pub abs-parts : (z : ℤ) → nat_abs z ≡ up z + dn z
abs-parts (pos n) = omega arith
abs-parts (negsuc n) = omega arith

-- ---- sums

split : (a b : ℕ) → up (sub_ℕ a b) + b ≡ a + dn (sub_ℕ a b)
split a b = go (ltb a b) refl
  where
    go : (t : Bool) → ltb a b ≡ t → up (cond t (negsuc (b - suc a)) (pos (a - b))) + b ≡ a + dn (cond t (negsuc (b - suc a)) (pos (a - b)))
    go true e = let h : a < b = ltb-true a b e in omega arith
    go false e = let h : b ≤ a = ltb-false a b e in omega arith

pub sum-parts : (a b : ℤ) → up (a +ℤ b) + (dn a + dn b) ≡ up a + up b + dn (a +ℤ b)
sum-parts (pos a) (pos b) = omega arith
sum-parts (pos a) (negsuc b) = omega (arith, split a (suc b))
sum-parts (negsuc a) (pos b) = omega (arith, split b (suc a))
sum-parts (negsuc a) (negsuc b) = omega arith

pub neg-up : (z : ℤ) → up (neg_ℤ z) ≡ dn z
neg-up (pos n) = go n
  where
    go : (n : ℕ) → up (neg_ℤ (pos n)) ≡ 0
    go zero = refl
    go (suc n) = refl
neg-up (negsuc n) = refl

pub neg-dn : (z : ℤ) → dn (neg_ℤ z) ≡ up z
neg-dn (pos n) = go n
  where
    go : (n : ℕ) → dn (neg_ℤ (pos n)) ≡ n
    go zero = refl
    go (suc n) = refl
neg-dn (negsuc n) = refl

pub difference-parts : (a b : ℤ) → up (a -ℤ b) + (dn a + up b) ≡ up a + dn b + dn (a -ℤ b)
difference-parts a b = omega (arith, sum-parts a (neg_ℤ b), neg-up b, neg-dn b)

-- ---- order

pub less-true : (a b : ℤ) → lt_z a b ≡ true → up a + dn b < up b + dn a
less-true (pos a) (pos b) e = omega (arith, ltb-true a b e)
less-true (pos a) (negsuc b) e = absurd (true→T false e)
less-true (negsuc a) (pos b) e = omega arith
less-true (negsuc a) (negsuc b) e = omega (arith, ltb-true b a e)

pub less-false : (a b : ℤ) → lt_z a b ≡ false → up b + dn a ≤ up a + dn b
less-false (pos a) (pos b) e = omega (arith, ltb-false a b e)
less-false (pos a) (negsuc b) e = omega arith
less-false (negsuc a) (pos b) e = absurd (true→T false (sym e))
less-false (negsuc a) (negsuc b) e = omega (arith, ltb-false b a e)

-- and in the library's order
pub order-parts : (a b : ℤ) → a ≤ℤ b → up a + dn b ≤ up b + dn a
order-parts (pos a) (pos b) h = omega (arith, leb→le a b h.le)
order-parts (pos a) (negsuc b) h = absurd h.le
order-parts (negsuc a) (pos b) h = omega arith
order-parts (negsuc a) (negsuc b) h = omega (arith, leb→le b a h.le)

pub parts-order : (a b : ℤ) → up a + dn b ≤ up b + dn a → a ≤ℤ b
parts-order (pos a) (pos b) h = le_z_yes (le→leb a b (omega arith))
parts-order (pos a) (negsuc b) h = absurd (omega arith)
parts-order (negsuc a) (pos b) h = le_z_yes tt
parts-order (negsuc a) (negsuc b) h = le_z_yes (le→leb b a (omega arith))
