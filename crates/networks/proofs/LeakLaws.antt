-- The ranks of the grids decide whether an observer leaks.
use Prim.Native.Nat.{ℕ, zero, suc, ◌+◌, ◌-◌, ◌*◌, ◌≤◌, ◌<◌}
use mathlib.Core.Path.{◌≡◌, refl, sym, ap, ap₂, ◌∙◌}
use mathlib.Core.Bool.{not}
use mathlib.Core.Logic.{◌↔◌}
use mathlib.Core.List.{List, [], ◌++◌}
use native.Mathlib.Nat.{zero-add}
use native.Mathlib.Decide.{ℕ_discrete}
use native.Mathlib.Omega.{arith}
use lib.Dec.{T, eqb}
use lib.ListN.{length, drop}
use Rattle.matrices.proofs.RankLaws.{rank-at-most}
use Rattle.residues.proofs.PrimeLaws.{prime-pos}
use Rattle.lists.proofs.Searches.{T-decide, T→true, not-T→false}
use Rattle.matrices.specs.Rank.{rank_of}
use Rattle.matrices.specs.Tables.{rows_of, pivots_from}
use Rattle.matrices.proofs.Elimination.{pivots-are-rank}
use Rattle.lists.specs.Lists.{tab}
use Rattle.lists.proofs.ListLaws.{tab-cong, tab-append}
use Rattle.cyclic.specs.Network.{Network, symbols, heard}
use Rattle.cyclic.specs.NetworkLeaks.{ObserverLeak, leaks}
use Rattle.cyclic.specs.Decoding.{columns, relay_row, total_row}
use Rattle.cyclic.proofs.NetworkVerdicts.{upload_row, upload_source, relay_source, leaks-iff, relay-rank, server-rank}
use Rattle.networks.specs.Rings.{network_of}
use Rattle.networks.specs.Machine.{rows_seen, totals_seen, Ready}
use Rattle.networks.specs.Grids.{upload_entry, relay_entry, total_entry, entry_of, grid_of, grid_rank}
use Rattle.networks.proofs.RingLaws.{sound, few-columns, few-rows}
use Rattle.networks.proofs.GridLaws.{entry-total, entry-relay}
use Rattle.networks.proofs.GridRows.{grid-table, grid-rows, upload-row, upload-source, relay-row, relay-source, total-row}
use borrow.Author.Tests.{eq-eqb, ne_eqb}
use Rattle.networks.specs.declared.Ring.{Ring}

length-rows : (rows cols : ℕ) (T : List ℕ) → length (rows_of rows cols T) ≡ rows
unfolding rows_of
length-rows zero cols T = refl
length-rows (suc rows) cols T = ap suc (length-rows rows cols (drop cols T))

module _ (R : Ring) (K A : List ℕ) (ready : Ready R K A) where
  -- elimination counts the rank of the grid
  pub grid-rank : (w first from : ℕ) → from < columns (network_of R K A) → (rows width : ℕ) → rows ≡ rows_seen R w - first
      → width ≡ R.size * R.parts + R.rate - from
      → pivots_from R.q rows width rows 0 (grid_of (network_of R K A) w first from (rows * width)) ≡ grid_rank R K A w first from
  unfolding grid_rank
  grid-rank w first from b rows width e f =
      ap₂ (λ (r c : ℕ). pivots_from R.q r c r 0 (grid_of (network_of R K A) w first from (r * c))) e f
      ∙ pivots-are-rank R.q ready.prime (rows_seen R w - first) (R.size * R.parts + R.rate - from) _
      (grid-table (network_of R K A) (sound R K A ready) w first from (rows_seen R w - first) (omega (arith, few-rows R ready.counted w))
      (few-columns R ready.counted) b)

  -- it is at most the number of rows
  pub rank-few : (w first from : ℕ) → grid_rank R K A w first from ≤ 12
  unfolding grid_rank
  rank-few w first from =
      let rows : ℕ = rows_seen R w - first in
      let width : ℕ = R.size * R.parts + R.rate - from in
      let G : List ℕ = grid_of (network_of R K A) w first from (rows * width) in
      omega (arith, rank-at-most R.q width [] (rows_of rows width G), length-rows rows width G, few-rows R ready.counted w)

  -- ---- the grids are the rows of the theorems

  ranked : (w first from : ℕ) → from < columns (network_of R K A) → (rows width : ℕ) → rows_seen R w - first ≡ rows → columns (network_of R K A) - from ≡ width
      → grid_rank R K A w first from ≡ rank_of R.q width (tab rows (λ i. tab width (λ c. entry_of (network_of R K A) w (first + i) (from + c))))
  unfolding grid_rank
  ranked w first from b rows width e f =
      ap (rank_of R.q (columns (network_of R K A) - from)) (grid-rows (network_of R K A) (sound R K A ready) w first from (rows_seen R w - first) b)
      ∙ ap₂ (λ (r c : ℕ). rank_of R.q c (tab r (λ i. tab c (λ k. entry_of (network_of R K A) w (first + i) (from + k))))) e f

  some-columns : symbols (network_of R K A) < columns (network_of R K A)
  some-columns = omega (arith, ready.counted.rate-low)

  relay-whole : (j : ℕ) → grid_rank R K A (suc j) 0 0 ≡ rank_of R.q (columns (network_of R K A)) (tab R.links (λ l. upload_row (network_of R K A) (heard
      (network_of R K A) j l) l))
  relay-whole j =
      let N : Network = network_of R K A in
      ranked (suc j) 0 0 (omega (arith, some-columns)) R.links (columns N) (omega arith) (omega arith)
      ∙ ap (rank_of R.q (columns N))
      (tab-cong R.links (λ i. tab (columns N) (λ c. upload_entry N (heard N j (0 + i)) (0 + i) (0 + c))) (λ l. upload_row N (heard N j l) l)
      (λ i l.
      ap (λ (z : ℕ). tab (columns N) (λ c. upload_entry N (heard N j z) z (0 + c))) (zero-add i)
      ∙ tab-cong (columns N) (λ c. upload_entry N (heard N j i) i (0 + c)) (upload_entry N (heard N j i) i)
      (λ c b. ap (upload_entry N (heard N j i) i) (zero-add c))
      ∙ upload-row N (heard N j i) i))

  relay-part : (j : ℕ) → grid_rank R K A (suc j) 0 (R.size * R.parts) ≡ rank_of R.q R.rate (tab R.links (λ l. upload_source (network_of R K A) (heard
      (network_of R K A) j l) l))
  relay-part j =
      let N : Network = network_of R K A in
      ranked (suc j) 0 (symbols N) some-columns R.links R.rate (omega arith) (omega arith)
      ∙ ap (rank_of R.q R.rate)
      (tab-cong R.links (λ i. tab R.rate (λ c. upload_entry N (heard N j (0 + i)) (0 + i) (symbols N + c))) (λ l. upload_source N (heard N j l) l)
      (λ i l.
      ap (λ (z : ℕ). tab R.rate (λ c. upload_entry N (heard N j z) z (symbols N + c))) (zero-add i)
      ∙ upload-source N (heard N j i) i))

  server-whole : grid_rank R K A 0 0 0
      ≡ rank_of R.q (columns (network_of R K A)) (tab R.parts (total_row (network_of R K A)) ++ tab R.size (relay_row (network_of R K A)))
  server-whole =
      let N : Network = network_of R K A in
      ranked 0 0 0 (omega (arith, some-columns)) (R.parts + R.size) (columns N) (omega arith) (omega arith)
      ∙ ap (rank_of R.q (columns N))
      (tab-append R.parts R.size (λ i. tab (columns N) (λ c. entry_of N 0 (0 + i) (0 + c)))
      ∙ ap₂ ◌++◌
      (tab-cong R.parts (λ i. tab (columns N) (λ c. entry_of N 0 (0 + i) (0 + c))) (total_row N)
      (λ i l.
      tab-cong (columns N) (λ c. entry_of N 0 (0 + i) (0 + c)) (total_entry N i)
      (λ c b. ap₂ (λ (x y : ℕ). entry_of N 0 x y) (zero-add i) (zero-add c) ∙ sym (entry-total N 0 i c refl l))
      ∙ total-row N i))
      (tab-cong R.size (λ j. tab (columns N) (λ c. entry_of N 0 (0 + (R.parts + j)) (0 + c))) (relay_row N)
      (λ j l.
      tab-cong (columns N) (λ c. entry_of N 0 (0 + (R.parts + j)) (0 + c)) (relay_entry N j)
      (λ c b.
      let z : R.parts + j - R.parts ≡ j = omega arith in
      ap₂ (λ (x y : ℕ). entry_of N 0 x y) (zero-add (R.parts + j)) (zero-add c)
      ∙ sym (entry-relay N 0 (R.parts + j) c refl (omega arith))
      ∙ ap (λ (x : ℕ). relay_entry N x c) z)
      ∙ relay-row N j)))

  server-part : grid_rank R K A 0 R.parts (R.size * R.parts) ≡ rank_of R.q R.rate (tab R.size (relay_source (network_of R K A)))
  server-part =
      let N : Network = network_of R K A in
      ranked 0 R.parts (symbols N) some-columns R.size R.rate (omega arith) (omega arith)
      ∙ ap (rank_of R.q R.rate)
      (tab-cong R.size (λ j. tab R.rate (λ c. entry_of N 0 (R.parts + j) (symbols N + c))) (relay_source N)
      (λ j l.
      tab-cong R.rate (λ c. entry_of N 0 (R.parts + j) (symbols N + c)) (λ c. relay_entry N j (symbols N + c))
      (λ c b.
      let z : R.parts + j - R.parts ≡ j = omega arith in
      sym (entry-relay N 0 (R.parts + j) (symbols N + c) refl (omega arith)) ∙ ap (λ (x : ℕ). relay_entry N x (symbols N + c)) z)
      ∙ relay-source N j))

  -- ---- the test

  decided : (w a b : ℕ) → (¬ (ObserverLeak (network_of R K A) w)) ↔ (a ≡ b) → not (eqb a b) ≡ leaks (network_of R K A) w
  decided w a b iff = go (ℕ_discrete a b)
    where
      pos : 0 < R.q
      pos = prime-pos ready.prime

      go : Dec (a ≡ b) → not (eqb a b) ≡ leaks (network_of R K A) w
      go (yes e) =
          ap not (eq-eqb a b e)
          ∙ sym (not-T→false (leaks (network_of R K A) w) (λ t. iff.1 e ((leaks-iff (network_of R K A) pos w).0 t)))
      go (no n) =
          ap not (ne_eqb a b n)
          ∙ sym (T→true (leaks (network_of R K A) w) (found (T-decide (leaks (network_of R K A) w))))
        where
          found : Dec (T (leaks (network_of R K A) w)) → T (leaks (network_of R K A) w)
          found (yes t) = t
          found (no f) = absurd (n (iff.0 (λ k. f ((leaks-iff (network_of R K A) pos w).1 k))))

  pub ranks-decide : (w : ℕ) → not (eqb (grid_rank R K A w 0 0) (totals_seen R w + grid_rank R K A w (totals_seen R w) (R.size * R.parts))) ≡ leaks (network_of R K
      A) w
  ranks-decide zero =
      ap₂ (λ (a b : ℕ). not (eqb a (R.parts + b))) server-whole server-part
      ∙ decided 0 _ _ (server-rank (network_of R K A) (sound R K A ready))
  ranks-decide (suc j) =
      ap₂ (λ (a b : ℕ). not (eqb a b)) (relay-whole j) (zero-add (grid_rank R K A (suc j) 0 (R.size * R.parts)) ∙ relay-part j)
      ∙ decided (suc j) _ _ (relay-rank (network_of R K A) (sound R K A ready) j)
