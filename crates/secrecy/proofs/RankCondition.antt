-- The rows of a key table that decide whether a pair of coalition and observer leaks: those of the coalition, and those that the observer watches.
use Prim.Native.Nat.{ℕ, zero, suc, ◌+◌, ◌*◌}
use mathlib.Core.Bool.{Bool, not, ◌&&◌}
use mathlib.Core.List.{List, [], ◌∷◌}
use lib.Dec.{ltb}
use Rattle.lists.specs.Search.{any_to, all_to}
use Rattle.residues.specs.Primes.{Prime}
use Rattle.residues.proofs.PrimeLaws.{prime-pos}
use Rattle.lists.specs.Lists.{at, All, tab, picked}
use Rattle.matrices.specs.Linear.{Vector, reduce}
use Rattle.matrices.proofs.Vectors.{vector-reduce}
use Rattle.secrecy.specs.Model.{Pool, users, in_coalition, in_cluster}
use Rattle.matrices.proofs.MadeVectors.{tab-vector, entry-below}
use Rattle.lists.proofs.ListLaws.{all-picked}
use Rattle.secrecy.proofs.Units.{add_to, length-add_to}

module _ (P : Pool) where
  -- the row of user i, and the sum of the rows of cluster u
  abbrev pub row : ℕ → List ℕ
  row i = tab P.rate (λ k. at P.table (i * P.rate + k))

  abbrev pub summed_row : ℕ → List ℕ
  summed_row u = reduce P.q (add_to P.rate P.size (λ v. row (u * P.size + v)))

  -- the rows of the coalition
  abbrev pub coalition_rows : ℕ → List (List ℕ)
  coalition_rows g = picked (users P) (in_coalition g) (λ i. row i ∷ [])

  -- a user that b picks and that is not in the coalition
  unfoldable pub outside : (ℕ → Bool) → ℕ → ℕ → Bool
  outside b g i = b i && not (in_coalition g i)

  -- a cluster with a user that is not in the coalition, and such a cluster with another after it
  unfoldable pub has_outsider : ℕ → ℕ → Bool
  has_outsider g u = not (all_to P.size (λ v. in_coalition g (u * P.size + v)))

  unfoldable pub tested : ℕ → ℕ → Bool
  tested g u = has_outsider g u && any_to P.clusters (λ w. ltb u w && has_outsider g w)

  -- what the server watches: the sum rows of those clusters; a relay: the rows of its users outside the coalition
  abbrev pub watched_rows : ℕ → ℕ → List (List ℕ)
  watched_rows g zero = picked P.clusters (tested g) (λ u. summed_row u ∷ [])
  watched_rows g (suc u) = picked (users P) (outside (in_cluster P u) g) (λ i. row i ∷ [])

-- ---- they have `rate` numbers below q each

module _ (P : Pool) (prime : Prime P.q) (valid : Vector P.q (users P * P.rate) P.table) where
  -- a user's row
  pub row-vector : (i : ℕ) → Vector P.q P.rate (row P i)
  row-vector i =
      tab-vector P.q P.rate (λ k. at P.table (i * P.rate + k))
      (λ k l. entry-below P.q (users P * P.rate) P.table (prime-pos prime) valid (i * P.rate + k))

  -- a cluster's sum row
  pub sum-row-vector : (u : ℕ) → Vector P.q P.rate (summed_row P u)
  sum-row-vector u =
      vector-reduce P.q P.rate (add_to P.rate P.size (λ v. row P (u * P.size + v))) (prime-pos prime)
      (length-add_to P.rate P.size (λ v. row P (u * P.size + v)) (λ v. (row-vector (u * P.size + v)).size))

  -- the coalition's rows
  pub coalition-vectors : (g : ℕ) → All (Vector P.q P.rate) (coalition_rows P g)
  coalition-vectors g = all-picked (Vector P.q P.rate) (users P) (in_coalition g) (row P) (λ i l t. row-vector i)

  -- the rows that an observer watches
  pub watched-vectors : (g w : ℕ) → All (Vector P.q P.rate) (watched_rows P g w)
  watched-vectors g zero = all-picked (Vector P.q P.rate) P.clusters (tested P g) (summed_row P) (λ u l t. sum-row-vector u)
  watched-vectors g (suc u) =
      all-picked (Vector P.q P.rate) (users P) (outside P (in_cluster P u) g) (row P) (λ i l t. row-vector i)
