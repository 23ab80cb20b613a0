-- The walk's invariant: the tables of the coalitions above the one in hand stand on their levels, and the first hit of the pairs that are left is the
-- first of all; the inner loop's: the same of the observers that are left.
use mathlib.Core.Path.{◌≡◌}
use mathlib.Core.List.{List, ◌++◌, map}
use Prim.Native.Nat.{ℕ, ◌+◌, ◌-◌, ◌*◌, ◌^◌, ◌≤◌, ◌<◌}
use lib.ListN.{take, drop}
use Rattle.vetting.specs.declared.Pair.{Pair}
use Rattle.plans.specs.Plans.{plan}
use Rattle.vetting.specs.Walking.{hit, first_hit, walked}
use Rattle.vetting.proofs.WalkLaws.{Holds, pair_of}
use Rattle.vetting.proofs.WalkLaws.{pairs_from}
use Rattle.vetting.proofs.walk.walk_levels.Given as goal

-- the table of level 0, and the pairs of the coalitions after g
abbrev pub base : ℕ → ℕ → ℕ → List ℕ → List ℕ
base clusters size cols L = take ((clusters * size + clusters) * cols) L

abbrev pub rest : ℕ → ℕ → ℕ → List ℕ → ℕ → List Pair
rest clusters size limit watching g = pairs_from (clusters * size) limit watching (2 ^ (clusters * size) - (g + 1)) (g + 1)

-- no coalition has more observers
abbrev pub most_observers : ℕ
most_observers = 9

abbrev pub invariant-loop-observer : goal.invariant-loop-observer
invariant-loop-observer l =
    let T : List ℕ = base l.clusters l.size l.cols l.levels in
    (l.looked ≤ l.g * most_observers + l.observer-index)
    × (first_hit (hit (plan l.clusters l.size l.limit l.cols l.q) l.both T) l.looked (map (pair_of l.g) (drop l.observer-index l.watching) ++ rest l.clusters l.size l.limit l.watching l.g)
    ≡ walked (plan l.clusters l.size l.limit l.cols l.q) l.both l.watching T)

abbrev pub invariant-walk : goal.invariant-walk
invariant-walk l =
    let T : List ℕ = base l.clusters l.size l.cols l.initial.levels in
    (l.g < 2 ^ (l.clusters * l.size))
    × Holds l.q (l.clusters * l.size + l.clusters) l.cols l.limit T l.levels l.g
    × (l.looked ≤ l.g * most_observers)
    × (first_hit (hit (plan l.clusters l.size l.limit l.cols l.q) l.both T) l.looked (pairs_from (l.clusters * l.size) l.limit l.watching (2 ^ (l.clusters * l.size) - l.g) l.g)
    ≡ walked (plan l.clusters l.size l.limit l.cols l.q) l.both l.watching T)

abbrev pub decreases-walk : goal.decreases-walk
decreases-walk l = 2 ^ (l.clusters * l.size) - l.g
