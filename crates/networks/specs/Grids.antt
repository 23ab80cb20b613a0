-- The rows that the vet and the decoder eliminate, number by number: those of an observer's view. A relay sees its uploads; the server the totals, and then
-- all relay sums.
use Rattle.std.specs.Prelude.{ℕ, zero, suc, ◌+◌, ◌-◌, ◌*◌, ◌/◌, ◌%◌, cond, List, eqb, ltb}
use Rattle.lists.specs.Lists.{at, tab}
use Rattle.matrices.specs.Rank.{rank_of}
use Rattle.matrices.specs.Tables.{rows_of}
use Rattle.cyclic.specs.Network.{Network, symbols, heard, weight}
use Rattle.cyclic.specs.Decoding.{columns, on_reading, on_source}
use Rattle.networks.specs.Rings.{network_of}
use Rattle.networks.specs.Machine.{rows_seen}
use Rattle.networks.specs.declared.Ring.{Ring}

module _ (C : Network) where
  -- column c of the row of link l of user k, of relay j's sum, and of total symbol s
  unfoldable pub upload_entry : ℕ → ℕ → ℕ → ℕ
  upload_entry k l c =
      cond (ltb c (symbols C)) (cond (eqb (c / C.parts) k) (weight C k l (c % C.parts)) 0)
      (weight C k l C.parts * at C.table (k * C.rate + (c - symbols C)) % C.q)

  unfoldable pub relay_entry : ℕ → ℕ → ℕ
  relay_entry j c = cond (ltb c (symbols C)) (on_reading C j (c / C.parts) (c % C.parts)) (on_source C j (c - symbols C))

  unfoldable pub total_entry : ℕ → ℕ → ℕ
  total_entry s c = cond (ltb c (symbols C)) (cond (eqb (c % C.parts) s) 1 0) 0

  -- row i of an observer
  abbrev pub entry_of : ℕ → ℕ → ℕ → ℕ
  entry_of zero i c = cond (ltb i C.parts) (total_entry i c) (relay_entry (i - C.parts) c)
  entry_of (suc j) i c = upload_entry (heard C j i) i c

  -- the rows from `first` on and in them the columns from `from` on, so many numbers in all
  unfoldable pub grid_of : ℕ → ℕ → ℕ → ℕ → List ℕ
  grid_of w first from n = tab n (λ t. entry_of w (first + t / (columns C - from)) (from + t % (columns C - from)))

-- their rank
unfoldable pub grid_rank : Ring → List ℕ → List ℕ → ℕ → ℕ → ℕ → ℕ
grid_rank R K A w first from =
    let width : ℕ = R.size * R.parts + R.rate - from in
    let rows : ℕ = rows_seen R w - first in
    rank_of R.q width (rows_of rows width (grid_of (network_of R K A) w first from (rows * width)))
