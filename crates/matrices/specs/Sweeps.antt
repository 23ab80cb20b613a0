-- Values beside the rows of a table, one each: what elimination by a row does to the others it does to their values too, so that a row that ends as 0 has its
-- combination of the values beside it, times what the row was multiplied by. And a sweep: elimination by some of the rows, one after the other.
use Rattle.std.specs.Prelude.{ℕ, zero, suc, ◌+◌, ◌*◌, Bool, cond, ◌&&◌, List, eqb, length}
use Rattle.residues.specs.Field.{cross_of}
use Rattle.lists.specs.Lists.{at, tab}
use Rattle.matrices.specs.Tables.{row_of, pivot_of, has_pivot, eliminated}

-- the values after elimination by row i, which has its first number that is not 0 in column p
unfoldable pub carried_by : ℕ → ℕ → ℕ → ℕ → List ℕ → List ℕ → List ℕ
carried_by q cols i p T vs =
    tab (length vs)
    (λ r. cond (eqb (at T (r * cols + p)) 0) (at vs r) (cross_of q (at T (i * cols + p)) (at vs r) (at T (r * cols + p)) (at vs i)))

-- a row that is 0 changes nothing; neither are values changed that are not as many as the rows
unfoldable pub carried : ℕ → ℕ → ℕ → ℕ → List ℕ → List ℕ → List ℕ
carried q rows cols i T vs = cond (has_pivot rows cols i T && eqb (length vs) rows) (carried_by q cols i (pivot_of (row_of cols T i)) T vs) vs

-- table and values after elimination by those of the k rows from number `first` on that b picks
module _ (q rows cols first : ℕ) (b : ℕ → Bool) (T : List ℕ) where
  unfoldable pub swept_table : ℕ → List ℕ
  swept_table zero = T
  swept_table (suc k) = cond (b k) (eliminated q rows cols (first + k) (swept_table k)) (swept_table k)

  unfoldable pub swept_values : List ℕ → ℕ → List ℕ
  swept_values vs zero = vs
  swept_values vs (suc k) = cond (b k) (carried q rows cols (first + k) (swept_table k) (swept_values vs k)) (swept_values vs k)
