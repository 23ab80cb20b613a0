use mathlib.Core.Path.{◌≡◌, sym, ap, ◌∙◌, subst}
use mathlib.Core.List.{List, ◌++◌}
use Prim.Native.Nat.{ℕ, ◌+◌, ◌-◌, ◌*◌, ◌≤◌}
use lib.Dec.{lit≤}
use native.Mathlib.Nat.{add-mul, le_trans, sub-zero, add-sub_cancel_left}
use lib.ListN.{length}
use Rattle.lists.specs.Lists.{tab, join_to}
use Rattle.lists.proofs.ListLaws.{length-tab}
use Rattle.plans.specs.Plans.{users_of}
use Rattle.vetting.specs.Walking.{cluster_sum, base_table, level_size}
use Rattle.plans.proofs.PlanBounds.{Bounds, bounds-known}
use Rattle.lists.proofs.Joins.{length-join}
use Rattle.vetting.proofs.BaseLaws.{base-room, both-length, both-front}
use Rattle.vetting.proofs.walk.set_base.Goals as goal
use Rattle.vetting.proofs.walk.set_base.Goals.{Start}

within : (s : Start) → Bounds s.args.plan
within s = bounds-known s.args.plan s.requires.0

-- the first level has room
room : (s : Start) → (let P = s.args.plan in users_of P * P.rate + P.clusters * P.rate ≤ length s.args.levels.now)
room s = le_trans (base-room s.args.plan (within s)) (subst (λ (n : ℕ). level_size ≤ n) (sym s.requires.3) (lit≤ tt))

pub returns : goal.returns
unfolding base_table
returns c =
    let s = (goal.at.returns c).Start in
    let P = s.args.plan in
    let K : List ℕ = s.args.table.now in
    let n : ℕ = users_of P * P.rate in
    let m : ℕ = P.clusters * P.rate in
    let y : List ℕ = c.sum_rows.new.out in
    let told : y ≡ join_to P.clusters (λ u. tab P.rate (cluster_sum P.q P.size P.rate K u)) = c.sum_rows.ensures in
    let l : length y ≡ m = ap length told ∙ length-join P.rate (λ u. tab P.rate (cluster_sum P.q P.size P.rate K u))
    (λ u. length-tab P.rate (cluster_sum P.q P.size P.rate K u)) P.clusters in (
      both-length n m (n - 0) (n + m - n) s.args.levels.now K _ (sub-zero _) (add-sub_cancel_left _ _) s.requires.1 (room s)
          c.copy.ensures y l ∙ s.requires.3,
      both-front n m (n - 0) (n + m - n) s.args.levels.now K _ (sub-zero _) (add-sub_cancel_left _ _) s.requires.1 (room s)
          c.copy.ensures y ((users_of P + P.clusters) * P.rate) l (add-mul _ _ _)
          ∙ ap (λ (x : List ℕ). K ++ x) told,
    )
