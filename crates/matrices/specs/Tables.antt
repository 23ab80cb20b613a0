-- Tables, that is, matrices row after row in one list; and what elimination by one row makes of a table.
-- It is defined for every table of at most 48 rows and columns, whatever q and the numbers; other shapes stay as they are.
use Rattle.std.specs.Prelude.{ℕ, zero, suc, ◌+◌, ◌-◌, ◌*◌, Bool, cond, ◌&&◌, List, [], ◌∷◌, ◌++◌, eqb, ltb, leb, length, take, drop}
use Rattle.residues.specs.Field.{cross_of}
use Rattle.lists.specs.Lists.{at}

-- row j, and all rows
abbrev pub row_of : ℕ → List ℕ → ℕ → List ℕ
row_of cols T j = take cols (drop (j * cols) T)

unfoldable pub rows_of : ℕ → ℕ → List ℕ → List (List ℕ)
rows_of zero cols T = []
rows_of (suc rows) cols T = take cols T ∷ rows_of rows cols (drop cols T)

-- at most 48 rows and columns, and as many numbers as that makes
abbrev pub shaped : ℕ → ℕ → List ℕ → Bool
shaped rows cols T = leb rows 48 && leb cols 48 && eqb (rows * cols) (length T)

-- the first column in which a row is not 0; the row's length where there is none
unfoldable pub pivot_of : List ℕ → ℕ
pivot_of [] = 0
pivot_of (x ∷ r) = cond (eqb x 0) (suc (pivot_of r)) 0

-- y r less x s
unfoldable pub crossed : ℕ → ℕ → ℕ → List ℕ → List ℕ → List ℕ
crossed q y x [] s = []
crossed q y x (a ∷ r) [] = a ∷ r
crossed q y x (a ∷ r) (b ∷ s) = cross_of q y a x b ∷ crossed q y x r s

-- r times the number of s in column p less s times that of r: column p becomes 0. A row that has 0 there stays as it is
unfoldable pub cleared : ℕ → ℕ → List ℕ → List ℕ → List ℕ
cleared q p s r = cond (eqb (at r p) 0) r (crossed q (at s p) (at r p) r s)

-- f of each row
unfoldable pub each_row : (List ℕ → List ℕ) → ℕ → ℕ → List ℕ → List ℕ
each_row f zero cols T = T
each_row f (suc rows) cols T = f (take cols T) ++ each_row f rows cols (drop cols T)

-- is row i a row that is not 0?
abbrev pub has_pivot : ℕ → ℕ → ℕ → List ℕ → Bool
has_pivot rows cols i T = shaped rows cols T && ltb i rows && ltb (pivot_of (row_of cols T i)) cols

-- the rows from number `from` on, each cleared by the row r in r's pivot column
abbrev pub cleared_by : ℕ → ℕ → ℕ → ℕ → List ℕ → List ℕ → List ℕ
cleared_by q rows cols from r T =
    take (from * cols) T ++ each_row (cleared q (pivot_of r) r) (rows - from) cols (drop (from * cols) T)

-- the same by row i, where that is not 0
unfoldable pub eliminated_from : ℕ → ℕ → ℕ → ℕ → ℕ → List ℕ → List ℕ
eliminated_from q rows cols from i T = cond (has_pivot rows cols i T) (cleared_by q rows cols from (row_of cols T i) T) T

-- elimination by row i: every row is cleared, row i itself becomes 0
abbrev pub eliminated : ℕ → ℕ → ℕ → ℕ → List ℕ → List ℕ
eliminated q rows cols i T = eliminated_from q rows cols 0 i T

-- the k rows from number i on, one after the other, clear the rows after them
unfoldable pub reduced_from : ℕ → ℕ → ℕ → ℕ → ℕ → List ℕ → List ℕ
reduced_from q rows cols zero i T = T
reduced_from q rows cols (suc k) i T = reduced_from q rows cols k (i + 1) (eliminated_from q rows cols (i + 1) i T)

-- and how many of them are not 0 when their turn comes
unfoldable pub pivots_from : ℕ → ℕ → ℕ → ℕ → ℕ → List ℕ → ℕ
pivots_from q rows cols zero i T = 0
pivots_from q rows cols (suc k) i T =
    cond (has_pivot rows cols i T) 1 0 + pivots_from q rows cols k (i + 1) (eliminated_from q rows cols (i + 1) i T)
