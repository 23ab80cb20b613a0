-- How long the vet is (document 02, Q-5). The promise of `count_pairs` (vetting) is `pair_count`, refused with 1 where the counts are outside their bounds; that
-- of `vet_counted` is `vet_code` and `looked_at`. `pairs` is the list that the vet's own definition walks.
use Rattle.std.specs.Prelude.{ℕ, ◌+◌, ◌≡◌, ◌≢◌, List, length}
use Rattle.refusals.specs.Codes.{accepted}
use Rattle.secrecy.specs.Leaks.{PairLeak}
use Rattle.plans.specs.declared.Plan.{Plan}
use Rattle.vetting.specs.declared.Pair.{Pair}
use Rattle.vetting.specs.Pools.{pool_of}
use Rattle.vetting.specs.Walk.{pairs, First}
use Rattle.vetting.specs.Vet.{vet_code}
use Rattle.vetting.specs.Length.{pair_count, looked_at}

-- "The figure equals the length of the vet's list in its own definition.": for all counts, within their bounds or not
abbrev pub FigureIsLength : Type 0
FigureIsLength = (clusters size limit : ℕ) → length (pairs clusters size limit) ≡ pair_count clusters size limit

module _ (P : Plan) (K : List ℕ) where
  -- "An accepted plan reports having looked at that many,"
  abbrev pub AcceptedLooksAtAll : Type 0
  AcceptedLooksAtAll = accepted ≡ vet_code P K → looked_at P K ≡ pair_count P.clusters P.size P.limit

  -- "and a leaking one at the place of its first leak, from 1;": the pair that 7 names is the first of the list that leaks, and before it there are as many as
  -- were looked at, but one
  abbrev pub LeakingLooksToFirst : Type 0
  LeakingLooksToFirst =
      (p : Pair) → vet_code P K ≡ record { number = 7; first = p.coalition; second = p.observer }
      → (f : First (λ x. PairLeak (pool_of P K) x.coalition x.observer) (pairs P.clusters P.size P.limit) p)
      × (looked_at P K ≡ length f.before + 1)

  -- "other refusals report 0."
  abbrev pub OthersLookAtNone : Type 0
  OthersLookAtNone = (vet_code P K).number ≢ 0 → (vet_code P K).number ≢ 7 → looked_at P K ≡ 0
