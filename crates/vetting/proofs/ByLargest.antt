-- The largest coalitions decide: a plan that passes the other checks is accepted exactly when, for every coalition of exactly T users, its rows are
-- independent and it leaks to no observer.
use Prim.Native.Nat.{ℕ, suc, ◌/◌, ◌≤◌}
use mathlib.Core.Path.{◌≡◌, sym, ◌∙◌}
use mathlib.Core.Logic.{◌↔◌}
use mathlib.Core.List.{List}
use native.Mathlib.Nat.{div-lt_iff_lt-mul}
use native.Mathlib.Omega.{arith}
use Rattle.refusals.specs.Codes.{accepted, first_of}
use Rattle.lists.proofs.Members.{all_map}
use Rattle.lists.proofs.Sets.{Filled, filled, lower, lower-below, lower-few}
use Rattle.matrices.proofs.Notions.{LinearlyIndependent}
use Rattle.matrices.proofs.LargestRank.{independent-iff}
use Rattle.secrecy.specs.Leaks.{PairLeak}
use Rattle.secrecy.proofs.RankCondition.{coalition_rows, coalition-vectors}
use Rattle.secrecy.proofs.PairLeaks.{leaks-iff}
use Rattle.secrecy.proofs.Largest.{RowsIndependent, part-quiet, rows-independent}
use Rattle.plans.specs.declared.Plan.{Plan}
use Rattle.plans.specs.Plans.{users_of}
use Rattle.plans.proofs.PlanBounds.{Bounds, bounds-known}
use Rattle.vetting.specs.Pools.{pool_of}
use Rattle.vetting.specs.Walk.{pairs, InWalk}
use Rattle.vetting.specs.Vet.{other_checks, vet_code}
use Rattle.vetting.specs.Largest.{Largest}
use Rattle.vetting.proofs.VetLaws.{passed}
use Rattle.vetting.proofs.ExactSecrecy.{Checked, checked, TestLeaks, quiet-code, walk-decides, accepted-quiet, pairs-in}

-- what is asked of a coalition of exactly T users
pub record Passes (P : Plan) (K : List ℕ) (g : ℕ) : Type 0 where
  pub rows : RowsIndependent (pool_of P K) g
  pub quiet : (w : ℕ) → w ≤ P.clusters → ¬ (PairLeak (pool_of P K) g w)

module _ (P : Plan) (K : List ℕ) (others : accepted ≡ first_of (other_checks P K)) where
  c : Checked P K
  c = checked P K others

  b : Bounds P
  b = bounds-known P (passed P K others).bounds

  -- where no pair of the walk leaks the plan is accepted
  quiet-accepted : ((g w : ℕ) → InWalk P g w → ¬ (PairLeak (pool_of P K) g w)) → accepted ≡ vet_code P K
  quiet-accepted h =
      sym (quiet-code P K (pairs P.clusters P.size P.limit)
      (all_map (λ p. InWalk P p.coalition p.observer) (λ p. ¬ (TestLeaks P K p))
      (λ p i t. h p.coalition p.observer i ((leaks-iff (pool_of P K) c.prime c.valid p.coalition p.observer).0 t))
      (pairs P.clusters P.size P.limit) (pairs-in P)))
      ∙ walk-decides P K others

  -- the largest coalitions of an accepted plan pass
  accepted-passes : accepted ≡ vet_code P K → (g : ℕ) → Largest P g → Passes P K g
  accepted-passes e g m =
      record {
        rows =
            rows-independent (pool_of P K) c.prime c.valid g
            (λ i l. accepted-quiet P K e (lower g i) (suc (i / P.size))
            (record {
              users = lower-below g i (users_of P) (omega arith);
              few = omega (arith, lower-few g i (users_of P), m.full);
              observer = (div-lt_iff_lt-mul {k = P.size} {x = i} {y = P.clusters} b.counts.some_size).1 l;
            }));
        quiet = λ w h. accepted-quiet P K e g w (record { users = m.users; few = omega (arith, m.full); observer = h });
      }

  -- and where they pass each pair of the walk is quiet: its coalition is part of one of them
  passes-quiet : ((g : ℕ) → Largest P g → Passes P K g) → (g w : ℕ) → InWalk P g w → ¬ (PairLeak (pool_of P K) g w)
  passes-quiet h g w i =
      let x : Filled (users_of P) P.limit g = filled (users_of P) P.limit g i.few b.counts.within in
      let p : Passes P K x.whole = h x.whole (record { users = x.below; full = x.many }) in
      part-quiet (pool_of P K) c.prime c.valid c.zero-sum g x.whole x.part p.rows w (p.quiet w i.observer)

  pub accepted-iff-pass : (accepted ≡ vet_code P K) ↔ ((g : ℕ) → Largest P g → Passes P K g)
  accepted-iff-pass = (accepted-passes, λ h. quiet-accepted (passes-quiet h))

  -- the same with independence in its plainest words: only coefficients that are 0 combine the rows to 0
  plain_rows : (g : ℕ) → RowsIndependent (pool_of P K) g ↔ LinearlyIndependent P.q P.rate (coalition_rows (pool_of P K) g)
  plain_rows g =
      independent-iff P.q c.prime P.rate (coalition_rows (pool_of P K) g) (coalition-vectors (pool_of P K) c.prime c.valid g)

  pub accepted-by-largest : (accepted ≡ vet_code P K)
      ↔ ((g : ℕ) → Largest P g
      → LinearlyIndependent P.q P.rate (coalition_rows (pool_of P K) g) × ((w : ℕ) → w ≤ P.clusters → ¬ (PairLeak (pool_of P K) g w)))
  accepted-by-largest = (
    (λ e g m. let p : Passes P K g = accepted-passes e g m in ((plain_rows g).0 p.rows, p.quiet)),
    (λ h. accepted-iff-pass.1 (λ g m. record { rows = (plain_rows g).1 (h g m).0; quiet = (h g m).1 })),
  )
