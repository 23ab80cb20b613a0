-- The verdict from its parts: what is known of a plan and a table that passed, and the columns.
use mathlib.Core.Path.{◌≡◌, refl, sym, ap, ◌∙◌}
use mathlib.Core.List.{List, [], ◌∷◌, map}
use mathlib.Core.Logic.{◌≢◌, ◌↔◌}
use Prim.Native.Nat.{ℕ, zero, suc, ◌+◌, ◌-◌, ◌^◌, ◌≤◌, ◌<◌, suc-le-suc}
use native.Mathlib.Nat.{not-suc-le-zero, le_of_suc-le-suc, zero-lt-suc}
use native.Mathlib.Decide.{dec_lt}
use native.Mathlib.Omega.{arith}
use lib.Dec.{T, eqb}
use borrow.Author.Tests.{not-false, eqb-true, eq-eqb, ne_eqb}
use Rattle.secrecy.specs.Model.{column_sum, ZeroSum}
use Rattle.refusals.specs.Codes.{accepted, first_of}
use Rattle.refusals.proofs.CodeLaws.{numbered, NoneHolds, none-holds, accepted-takes}
use Rattle.lists.specs.Lists.{tab}
use Rattle.matrices.specs.Tables.{has_pivot}
use Rattle.matrices.proofs.Notions.{InSpan}
use Rattle.secrecy.specs.Leaks.{leaks}
use Rattle.secrecy.proofs.RankCondition.{row, coalition_rows}
use Rattle.plans.specs.declared.Plan.{Plan}
use Rattle.plans.specs.Plans.{users_of}
use Rattle.vetting.specs.Pools.{pool_of}
use Rattle.plans.proofs.TableLaws.{Passed, table-passed}
use Rattle.vetting.specs.Walk.{observers, pairs}
use Rattle.vetting.specs.Vet.{column_check, leak_check, other_checks, vet_code, column_checks}
use Rattle.vetting.specs.Length.{looked_at}
use Rattle.vetting.specs.Joint.{coalitions, joint_check}
use Rattle.vetting.specs.Walking.{base_table, rows_in, table_of, joint_mask, hit, walked, joint_found, found_code}
use Rattle.refusals.proofs.Orders.{rest-decides}
use Rattle.vetting.proofs.Deciding.{pair-verdict, pivot-verdict, found-verdict, found-place, joint-first}

-- ---- columns

module _ (P : Plan) (K : List ℕ) where
  pub columns-numbered : (n : ℕ) (f : ℕ → ℕ) → T (numbered (map (column_check P K) (tab n f)))
  unfolding tab
  columns-numbered zero f = tt
  columns-numbered (suc n) f = columns-numbered n (λ k. f (suc k))

  pub columns-zero : (n : ℕ) (f : ℕ → ℕ) → ((k : ℕ) → k < n → column_sum (pool_of P K) (f k) ≡ 0) → accepted ≡ first_of (map (column_check P K) (tab n f))
  unfolding tab
  columns-zero zero f z = refl
  columns-zero (suc n) f z =
      rw (eq-eqb (column_sum (pool_of P K) (f 0)) 0 (z 0 (zero-lt-suc n))) (columns-zero n (λ k. f (suc k)) (λ k l. z (suc k) (suc-le-suc l)))

  zero-columns : (n : ℕ) (f : ℕ → ℕ) → NoneHolds (map (column_check P K) (tab n f)) → (k : ℕ) → k < n → column_sum (pool_of P K) (f k) ≡ 0
  unfolding tab
  zero-columns zero f w k h = absurd (not-suc-le-zero h)
  zero-columns (suc n) f w zero h = eqb-true (column_sum (pool_of P K) (f 0)) 0 (not-false (eqb (column_sum (pool_of P K) (f 0)) 0) w.0)
  zero-columns (suc n) f w (suc k) h = zero-columns n (λ i. f (suc i)) w.1 k (le_of_suc-le-suc h)

  pub columns-passed : accepted ≡ first_of (other_checks P K) → ZeroSum (pool_of P K)
  columns-passed e = zero-columns P.rate (λ k. k) (none-holds (other_checks P K) (columns-numbered P.rate (λ k. k)) e).1.1.1.1

  pub column-first : (n : ℕ) (f : ℕ → ℕ) (k : ℕ) → k < n → ((j : ℕ) → j < k → column_sum (pool_of P K) (f j) ≡ 0) → column_sum (pool_of P K) (f k) ≢ 0
      → record { number = 6; first = f k + 1; second = 0 } ≡ first_of (map (column_check P K) (tab n f))
  unfolding tab
  column-first zero f k h z x = absurd (not-suc-le-zero h)
  column-first (suc n) f zero h z x = rw (ne_eqb (column_sum (pool_of P K) (f 0)) 0 x)
  column-first (suc n) f (suc k) h z x =
      rw (eq-eqb (column_sum (pool_of P K) (f 0)) 0 (z 0 (zero-lt-suc k)))
      (column-first n (λ i. f (suc i)) k (le_of_suc-le-suc h) (λ j l. z (suc j) (suc-le-suc l)) x)

  -- one column more sums to zero
  pub zeros-next : (k : ℕ) → ((j : ℕ) → j < k → column_sum (pool_of P K) j ≡ 0) → column_sum (pool_of P K) k ≡ 0 → (j : ℕ) → j < k + 1 → column_sum (pool_of P K) j
      ≡ 0
  zeros-next k z e j h = go (dec_lt j k)
    where
      go : Dec (j < k) → column_sum (pool_of P K) j ≡ 0
      go (yes l) = z j l
      go (no n) = let same : j ≡ k = omega arith in ap (column_sum (pool_of P K)) same ∙ e

  -- a table that passed every other check
  module _ (e : accepted ≡ first_of (other_checks P K)) where
    all-numbered : T (numbered (other_checks P K))
    all-numbered = columns-numbered P.rate (λ k. k)

    pub passed : Passed P K
    passed = table-passed P K (column_checks P K) all-numbered e

    -- what the test on one pair says
    pub walk_pair : (both g w : ℕ) → g < 2 ^ users_of P → w ≤ P.clusters → hit P both (base_table P K) g w ≡ leaks (pool_of P K) g w
    walk_pair = pair-verdict P K passed.bounds passed.size passed.prime passed.below (columns-passed e)

    -- what the table of a coalition says of a user's row
    pub walk-pivot : (g j : ℕ) → g < 2 ^ users_of P → j < users_of P
        → T (has_pivot (rows_in P) P.rate j (table_of P.q (rows_in P) P.rate (base_table P K) g))
        ↔ (¬ (InSpan P.q P.rate (coalition_rows (pool_of P K) g) (row (pool_of P K) j)))
    walk-pivot = pivot-verdict P K passed.bounds passed.size passed.prime passed.below (columns-passed e)

    -- what the walk finds
    pub walk_code : found_code (walked P 0 (observers P.clusters) (base_table P K)).found ≡ vet_code P K
    walk_code =
        found-verdict P K passed.bounds passed.size passed.prime passed.below (columns-passed e)
        ∙ rest-decides (other_checks P K) (map (leak_check P K) (pairs P.clusters P.size P.limit)) all-numbered e

    -- and how many pairs it looks at
    pub walk-looked : (walked P 0 (observers P.clusters) (base_table P K)).looked ≡ looked_at P K
    walk-looked =
        found-place P K passed.bounds passed.size passed.prime passed.below (columns-passed e)
        ∙ sym (accepted-takes (first_of (other_checks P K)) _ 0 e)

    -- what the walk with the joint observer of two relays finds
    pub joint-found : (a b : ℕ) → joint_found (walked P (joint_mask P.size (a - 1) (b - 1) (users_of P)) ((P.clusters + 1) ∷ []) (base_table P K)).found
        ≡ first_of (map (joint_check P K a b) (coalitions (users_of P) P.limit))
    joint-found = joint-first P K passed.bounds passed.size passed.prime passed.below (columns-passed e)
