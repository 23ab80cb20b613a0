-- Runs of numbers, read and written.
use Rattle.std.specs.Prelude.{ℕ, zero, suc, ◌+◌, ◌*◌, ◌%◌, Bool, List, eqb, leb, length, get_or, set}
use Rattle.lists.specs.Search.{all_to}
use Rattle.testing.specs.Numbers.{residue_of, symbol_of, mul_add_of, how_many, state_of, drawn_of}

-- the number at index i, 0 past the end
unfoldable pub at : List ℕ → ℕ → ℕ
at l i = get_or l i 0

-- two bytes, low first
unfoldable pub word_at : List ℕ → ℕ → ℕ
word_at b i = at b i + at b (i + 1) * 256

-- the run with the number a at index i; past its end the run itself
unfoldable pub replaced : List ℕ → ℕ → ℕ → List ℕ
replaced l i a = set l i a

-- the run with f 0, f 1, .., f (n - 1) written over its front
unfoldable pub overwritten : ℕ → (ℕ → ℕ) → List ℕ → List ℕ
overwritten zero f l = l
overwritten (suc n) f l = replaced (overwritten n f l) n (f n)

-- the numbers of the seed x, below q
unfoldable pub filled : ℕ → ℕ → List ℕ → List ℕ
filled q x l = overwritten (length l) (λ i. symbol_of (residue_of q (state_of x i))) l

unfoldable pub filled_bytes : ℕ → List ℕ → List ℕ
filled_bytes x l = overwritten (length l) (λ i. drawn_of x i % 256) l

-- does the second run, with zeros past it, begin as the first?
unfoldable pub same_front : List ℕ → List ℕ → Bool
same_front s t = all_to (length s) (λ i. eqb (at s i) (at t i))

-- how many are not below q
unfoldable pub large_of : ℕ → List ℕ → ℕ
large_of q l = how_many (length l) (λ i. leb q (at l i))

-- the sum of column k of the first rows
unfoldable pub column_of : List ℕ → ℕ → ℕ → ℕ → ℕ
column_of l zero cols k = 0
column_of l (suc i) cols k = column_of l i cols k + at l (mul_add_of k i cols)
