-- The entry of one pool, numbered from 1, and those of the others.
use Prim.Native.Nat.{ℕ, ◌+◌, ◌-◌, ◌≤◌, ◌<◌}
use mathlib.Core.Path.{◌≡◌, sym, ap}
use mathlib.Core.Logic.{◌≢◌}
use mathlib.Core.Bool.{Bool, cond}
use native.Mathlib.Omega.{arith}
use borrow.Author.Tests.{eq-eqb, ne_eqb}
use lib.Dec.{eqb}
use Rattle.lists.specs.Sums.{sum_to}
use Rattle.lists.proofs.Sums.{sum-but-one}

-- at the pool's own index, and at another
pub mine : {A : Type 0} (p i : ℕ) (x y : A) → i + 1 ≡ p → cond (eqb (i + 1) p) x y ≡ x
mine p i x y e = ap (λ (t : Bool). cond t x y) (eq-eqb (i + 1) p e)

pub another : {A : Type 0} (p i : ℕ) (x y : A) → i + 1 ≢ p → cond (eqb (i + 1) p) x y ≡ y
another p i x y d = ap (λ (t : Bool). cond t x y) (ne_eqb (i + 1) p d)

-- what f is of the others
abbrev pub others : ℕ → (ℕ → ℕ) → ℕ → ℕ
others p f i = cond (eqb (i + 1) p) 0 (f i)

pub sum-apart : (n : ℕ) (f : ℕ → ℕ) (p : ℕ) → 1 ≤ p → p ≤ n → sum_to n f ≡ f (p - 1) + sum_to n (others p f)
sum-apart n f p h l =
    let own : others p f (p - 1) ≡ 0 = mine p (p - 1) 0 (f (p - 1)) (omega arith) in
    omega (arith, own, sum-but-one n f (others p f) (p - 1) (omega arith) (λ i s d. sym (another p i 0 (f i) (λ e. d (omega (arith, e))))))

-- two functions that differ at one pool alone
pub sum-differs : (n : ℕ) (f g : ℕ → ℕ) (p : ℕ) → 1 ≤ p → p ≤ n → ((i : ℕ) → i < n → i + 1 ≢ p → f i ≡ g i)
    → sum_to n f + g (p - 1) ≡ sum_to n g + f (p - 1)
sum-differs n f g p h l same = sum-but-one n f g (p - 1) (omega arith) (λ i s d. same i s (λ e. d (omega (arith, e))))
