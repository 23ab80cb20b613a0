-- Numbers as bytes, low byte first.
use Rattle.std.specs.Prelude.{ℕ, zero, suc, ◌+◌, ◌*◌, ◌/◌, ◌%◌, ◌^◌, Bool, ◌&&◌, List, [], ◌∷◌, ◌++◌, leb}
use Rattle.lists.specs.Lists.{at}

-- a number in so many bytes; the last is what the others leave of it, a byte where the number fits
unfoldable pub bytes_of : ℕ → ℕ → List ℕ
bytes_of zero n = []
bytes_of (suc zero) n = n ∷ []
bytes_of (suc (suc width)) n = n % 256 ∷ bytes_of (suc width) (n / 256)

unfoldable pub bytes_of_all : ℕ → List ℕ → List ℕ
bytes_of_all width [] = []
bytes_of_all width (x ∷ l) = bytes_of width x ++ bytes_of_all width l

-- the number of so many bytes from a place on, and one number after the other
unfoldable pub number_at : ℕ → List ℕ → ℕ → ℕ
number_at zero bytes i = 0
number_at (suc width) bytes i = at bytes i + 256 * number_at width bytes (i + 1)

unfoldable pub numbers_at : ℕ → ℕ → List ℕ → ℕ → List ℕ
numbers_at width zero bytes i = []
numbers_at width (suc n) bytes i = number_at width bytes i ∷ numbers_at width n bytes (i + width)

-- ---- what the functions take: numbers of four bytes at most

-- do so many numbers of so many bytes, from a place on, lie in a buffer of so many bytes?
abbrev pub row_in_range : ℕ → ℕ → ℕ → ℕ → Bool
row_in_range width count from room = leb width 4 && leb (from + width * count) room

-- what so many bytes hold of a number
abbrev pub cut : ℕ → ℕ → ℕ
cut width n = n % 256 ^ width
