-- The rows of the table that the walk starts from: the rows of the key table, and the sums of its clusters below them.
use mathlib.Core.Path.{◌≡◌, sym, ap, ◌∙◌, subst}
use mathlib.Core.List.{List, ◌++◌}
use Prim.Native.Nat.{ℕ, ◌+◌, ◌-◌, ◌*◌, ◌%◌, ◌≤◌, ◌<◌}
use native.Mathlib.Decide.{dec_lt}
use native.Mathlib.Omega.{arith}
use lib.ListN.{length, take, drop, length-append, length-drop}
use lib.Seq.{drop-append-le, drop-append-add, take-append-le, get_or-take, get_or-drop}
use Rattle.residues.specs.Primes.{Prime}
use Rattle.lists.specs.Lists.{at, tab, join_to}
use Rattle.matrices.specs.Linear.{Vector}
use Rattle.matrices.specs.Tables.{row_of}
use Rattle.matrices.proofs.Vectors.{el-reduce, length-reduce}
use Rattle.matrices.proofs.Elimination.{Table}
use Rattle.lists.proofs.Sums.{sum-cong}
use Rattle.lists.proofs.ListLaws.{at-tab, length-tab, tab-at}
use Rattle.secrecy.proofs.Units.{add_to, el-add_to, length-add_to}
use Rattle.secrecy.proofs.RankCondition.{row, summed_row, row-vector, sum-row-vector}
use Rattle.plans.specs.declared.Plan.{Plan}
use Rattle.plans.specs.Plans.{users_of}
use Rattle.vetting.specs.Pools.{pool_of}
use Rattle.vetting.specs.Walking.{cluster_sum, base_table, rows_in}
use Rattle.plans.proofs.PlanBounds.{Bounds}
use Rattle.lists.proofs.Joins.{length-join, join-part}
use Rattle.vetting.proofs.GatherLaws.{row-length, room}

-- ---- rows joined

-- a row of the front is one of the whole
row-front : (cols : ℕ) (A B : List ℕ) (j : ℕ) → j * cols + cols ≤ length A → row_of cols (A ++ B) j ≡ row_of cols A j
row-front cols A B j h =
    ap (take cols) (drop-append-le (j * cols) A B (omega arith)) ∙ take-append-le cols (drop (j * cols) A) B (omega (arith, length-drop (j * cols) A))

-- ---- the rows of the base table

module _ (P : Plan) (K : List ℕ) (symbols : length K ≡ users_of P * P.rate) where
  abbrev sums : List ℕ
  sums = join_to P.clusters (λ u. tab P.rate (cluster_sum P.q P.size P.rate K u))

  each-sum : (u : ℕ) → length (tab P.rate (cluster_sum P.q P.size P.rate K u)) ≡ P.rate
  each-sum u = length-tab P.rate (cluster_sum P.q P.size P.rate K u)

  -- a user's
  pub base-row : (i : ℕ) → i < users_of P → row_of P.rate (base_table P K) i ≡ row (pool_of P K) i
  unfolding base_table
  base-row i h =
      let fits : i * P.rate + P.rate ≤ length K = room (users_of P) P.rate i (length K) h (omega (arith, symbols)) in
      row-front P.rate K sums i fits
      ∙ sym (tab-at P.rate (λ k. at K (i * P.rate + k)) (row_of P.rate K i) (row-length P.rate i K fits)
      (λ k l. sym (get_or-take P.rate (drop (i * P.rate) K) k 0 l ∙ get_or-drop (i * P.rate) K k 0)))

  sum_is : (u : ℕ) → tab P.rate (cluster_sum P.q P.size P.rate K u) ≡ summed_row (pool_of P K) u
  unfolding cluster_sum
  sum_is u =
      let rows : ℕ → List ℕ = λ v. row (pool_of P K) (u * P.size + v) in
      let each : (v : ℕ) → length (rows v) ≡ P.rate = λ v. length-tab P.rate (λ k. at K ((u * P.size + v) * P.rate + k)) in
      tab-at P.rate (cluster_sum P.q P.size P.rate K u) (summed_row (pool_of P K) u)
      (length-reduce P.q (add_to P.rate P.size rows) ∙ length-add_to P.rate P.size rows each)
      (λ k l.
      sym (el-reduce P.q (add_to P.rate P.size rows) k
      ∙ ap (λ (z : ℕ). z % P.q)
      (el-add_to P.rate P.size rows k
      ∙ sum-cong P.size (λ v. at (rows v) k) (λ v. at K ((u * P.size + v) * P.rate + k))
      (λ v m. at-tab P.rate (λ k. at K ((u * P.size + v) * P.rate + k)) k l))))

  -- a cluster's
  pub base_sum : (u : ℕ) → u < P.clusters → row_of P.rate (base_table P K) (users_of P + u) ≡ summed_row (pool_of P K) u
  unfolding base_table
  base_sum u h =
      let z : (users_of P + u) * P.rate ≡ length K + u * P.rate = omega (arith, symbols) in
      ap (λ (x : ℕ). take P.rate (drop x (K ++ sums))) z
      ∙ ap (take P.rate) (drop-append-add K sums (u * P.rate))
      ∙ join-part P.rate (λ u. tab P.rate (cluster_sum P.q P.size P.rate K u)) each-sum P.clusters u h
      ∙ sum_is u

  pub base-table : Prime P.q → Vector P.q (users_of P * P.rate) K → Bounds P → Table P.q (rows_in P) P.rate (base_table P K)
  unfolding base_table
  base-table prime valid bounds =
      record {
        few-rows = omega (arith, bounds.counts.few-users, bounds.counts.few-clusters);
        few-cols = omega (arith, bounds.few-symbols);
        size = omega (
          arith,
          length-append K sums,
          symbols,
          length-join P.rate (λ u. tab P.rate (cluster_sum P.q P.size P.rate K u)) each-sum P.clusters,
        );
        valid = λ j l. go j l (dec_lt j (users_of P));
      }
    where
      go : (j : ℕ) → j < rows_in P → Dec (j < users_of P) → Vector P.q P.rate (row_of P.rate (base_table P K) j)
      go j l (yes h) = subst (Vector P.q P.rate) (sym (base-row j h)) (row-vector (pool_of P K) prime valid j)
      go j l (no h) =
          let e : j ≡ users_of P + (j - users_of P) = omega arith in
          subst (Vector P.q P.rate) (sym (ap (row_of P.rate (base_table P K)) e ∙ base_sum (j - users_of P) (omega arith)))
          (sum-row-vector (pool_of P K) prime valid (j - users_of P))
