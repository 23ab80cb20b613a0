-- Sums, and how many numbers have a property.
use Rattle.std.specs.Prelude.{ℕ, zero, suc, ◌+◌, Bool, cond}

-- f 0 + f 1 + .. + f (n - 1)
unfoldable pub sum_to : ℕ → (ℕ → ℕ) → ℕ
sum_to zero f = zero
sum_to (suc n) f = sum_to n f + f n

-- how many numbers below n have the property
unfoldable pub how_many : ℕ → (ℕ → Bool) → ℕ
unfolding sum_to
how_many n b = sum_to n (λ i. cond (b i) 1 0)

-- how many sets of k there are out of n
unfoldable pub binomial : ℕ → ℕ → ℕ
binomial n zero = 1
binomial zero (suc k) = 0
binomial (suc n) (suc k) = binomial n k + binomial n (suc k)
