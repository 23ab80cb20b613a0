-- Clusters: which of them are tested, and the products with their sum rows and with their users' units.
use Prim.Native.Nat.{ℕ, ◌+◌, ◌*◌, ◌/◌, ◌<◌}
use mathlib.Core.Path.{◌≡◌, refl, sym, ap, ◌∙◌}
use mathlib.Core.Bool.{◌&&◌}
use mathlib.Core.Logic.{◌≢◌}
use mathlib.Core.List.{List}
use native.Mathlib.Decide.{dec_lt}
use native.Mathlib.Omega.{arith}
use lib.ListN.{get_or-eq_default}
use lib.Dec.{T, T_not, not_T, ltb, ltb→lt, lt→ltb}
use lib.Arith.{digits_lt, digits_div}
use Rattle.lists.specs.Search.{any_to, all_to}
use Rattle.lists.proofs.Searches.{T_and, and_T, T-decide, any_found, any_at, all-at, not-all}
use Rattle.residues.proofs.Congruence.{Cong, of_eq, c-trans, cong-zero}
use Rattle.lists.specs.Lists.{at}
use Rattle.matrices.proofs.Notions.{dot_n}
use Rattle.matrices.proofs.Vectors.{dot-reduce}
use Rattle.lists.specs.Sums.{sum_to}
use Rattle.secrecy.specs.Model.{Pool, users, in_coalition, ZeroSum, column_sum}
use Rattle.lists.proofs.Sums.{sum-cong, sum-zero}
use Rattle.lists.proofs.ListLaws.{at-tab, length-tab}
use Rattle.secrecy.proofs.Units.{unit, add_to, dot-add_to, dot-units-one, dot-units-none, el-add_to, dot-null}
use Rattle.secrecy.proofs.RankCondition.{row, summed_row, has_outsider, tested}
use Rattle.secrecy.proofs.PoolForms.{sum_form}

module _ (P : Pool) where
  -- users of two clusters are two
  pub cluster-apart : (u w v x : ℕ) → u ≢ w → v < P.size → x < P.size → u * P.size + v ≢ w * P.size + x
  cluster-apart u w v x ne l c e = ne (sym (digits_div u l) ∙ ap (λ (z : ℕ). z / P.size) e ∙ digits_div w c)

  -- ---- products

  -- with the sum of a cluster's units
  pub sum-units : (d : List ℕ) (u : ℕ) → dot_n (sum_form P u).on_readings d ≡ sum_to P.size (λ v. dot_n (unit (users P) (u * P.size + v)) d)
  sum-units d u = dot-add_to (users P) P.size (λ v. unit (users P) (u * P.size + v)) d

  -- with its sum row
  pub sum_row : (N : List ℕ) (u : ℕ) → Cong P.q (dot_n (summed_row P u) N) (sum_to P.size (λ v. dot_n (row P (u * P.size + v)) N))
  sum_row N u =
      c-trans (dot-reduce P.q (add_to P.rate P.size (λ v. row P (u * P.size + v))) N)
      (of_eq (dot-add_to P.rate P.size (λ v. row P (u * P.size + v)) N))

  -- the rows of a table that sums to 0 have in all the product 0
  pub rows_none : ZeroSum P → (N : List ℕ) → Cong P.q (sum_to (users P) (λ i. dot_n (row P i) N)) 0
  unfolding column_sum
  rows_none zs N =
      c-trans (of_eq (sym (dot-add_to P.rate (users P) (row P) N)))
      (dot-null (add_to P.rate (users P) (row P)) N
      (λ k. c-trans (of_eq (el-add_to P.rate (users P) (row P) k)) (go k (dec_lt k P.rate))))
    where
      go : (k : ℕ) → Dec (k < P.rate) → Cong P.q (sum_to (users P) (λ i. at (row P i) k)) 0
      go k (yes h) =
          c-trans
          (of_eq (sum-cong (users P) (λ i. at (row P i) k) (λ i. at P.table (i * P.rate + k))
          (λ i l. at-tab P.rate (λ k. at P.table (i * P.rate + k)) k h)))
          (cong-zero P.q (sum_to (users P) (λ i. at P.table (i * P.rate + k))) (zs k h))
      go k (no h) =
          of_eq (sum-zero (users P) (λ i. at (row P i) k)
          (λ i l. get_or-eq_default (row P i) 0 (omega (arith, length-tab P.rate (λ k. at P.table (i * P.rate + k)), h))))

  -- the sum of a cluster's units has the product 1 with each of them
  pub in-cluster : (u v : ℕ) → u < P.clusters → v < P.size → dot_n (sum_form P u).on_readings (unit (users P) (u * P.size + v)) ≡ 1
  in-cluster u v h l =
      dot-units-one (users P) P.size (λ x. u * P.size + x) (u * P.size + v) (λ x c. digits_lt h c) v l refl (λ x c ne. omega arith)

  -- and 0 with those of another cluster
  pub other-cluster : (u w v : ℕ) → u < P.clusters → u ≢ w → v < P.size → dot_n (sum_form P u).on_readings (unit (users P) (w * P.size + v)) ≡ 0
  other-cluster u w v h ne l =
      dot-units-none (users P) P.size (λ x. u * P.size + x) (w * P.size + v) (λ x c. digits_lt h c) (λ x c. cluster-apart u w x v ne c l)

  -- ---- which clusters are tested

  module _ (g : ℕ) where
    -- a cluster that has an outsider: a user outside the coalition
    pub outsider-of : (u : ℕ) → T (has_outsider P g u) → (v : ℕ) × (v < P.size) × (¬ (T (in_coalition g (u * P.size + v))))
    unfolding has_outsider
    outsider-of u t =
        not-all P.size (λ v. in_coalition g (u * P.size + v)) (T_not (all_to P.size (λ v. in_coalition g (u * P.size + v))) t)

    -- in one that has none every user is in the coalition
    pub closed_all : (u : ℕ) → ¬ (T (has_outsider P g u)) → (v : ℕ) → v < P.size → T (in_coalition g (u * P.size + v))
    unfolding has_outsider
    closed_all u t = go (T-decide (all_to P.size (λ v. in_coalition g (u * P.size + v))))
      where
        go : Dec (T (all_to P.size (λ v. in_coalition g (u * P.size + v)))) → (v : ℕ) → v < P.size → T (in_coalition g (u * P.size + v))
        go (yes h) = all-at P.size (λ v. in_coalition g (u * P.size + v)) h
        go (no h) = absurd (t (not_T (all_to P.size (λ v. in_coalition g (u * P.size + v))) h))

    -- a tested cluster has an outsider
    pub tested-outsider : (u : ℕ) → T (tested P g u) → T (has_outsider P g u)
    unfolding tested
    tested-outsider u t = (T_and (has_outsider P g u) (any_to P.clusters (λ w. ltb u w && has_outsider P g w)) t).0

    -- and one after it is
    pub tested-later : (u : ℕ) → T (tested P g u) → (w : ℕ) × (w < P.clusters) × (u < w) × T (has_outsider P g w)
    unfolding tested
    tested-later u t =
        let (w, h, s) = any_found P.clusters (λ w. ltb u w && has_outsider P g w)
        (T_and (has_outsider P g u) (any_to P.clusters (λ w. ltb u w && has_outsider P g w)) t).1 in
        let (a, b) = T_and (ltb u w) (has_outsider P g w) s in
        (w, h, ltb→lt u w a, b)

    -- of two with outsiders the first is tested
    pub made-tested : (u w : ℕ) → w < P.clusters → u < w → T (has_outsider P g u) → T (has_outsider P g w) → T (tested P g u)
    unfolding tested
    made-tested u w h l a b =
        and_T (has_outsider P g u) (any_to P.clusters (λ w. ltb u w && has_outsider P g w)) a
        (any_at P.clusters (λ w. ltb u w && has_outsider P g w) w h (and_T (ltb u w) (has_outsider P g w) (lt→ltb u w l) b))
