use Prim.Native.Nat.{ℕ, ◌+◌, ◌-◌, ◌*◌, ◌≤◌}
use mathlib.Core.Path.{◌≡◌, sym, ap, ◌∙◌, subst}
use Rattle.networks.specs.Machine.{rows_seen}
use Rattle.networks.proofs.Fronts.{front-size}
use Rattle.networks.proofs.RingLaws.{few-cells}
use Rattle.networks.proofs.grids.grid_rank.Goals as goal
use Rattle.networks.proofs.grids.grid_rank.Goals.{After-rows_seen}

cells : (c : After-rows_seen) → (let a = c.args in (c.rows_seen.result - a.first) *
    (a.ring.size * a.ring.parts + a.ring.rate - a.from) ≡ (rows_seen a.ring a.w - a.first) *
    (a.ring.size * a.ring.parts + a.ring.rate - a.from))
cells c =
    let a = c.args in
    ap (λ (z : ℕ). (z - a.first) * (a.ring.size * a.ring.parts + a.ring.rate - a.from)) c.rows_seen.ensures

few : (c : After-rows_seen) → (let a = c.args in (c.rows_seen.result - a.first) *
    (a.ring.size * a.ring.parts + a.ring.rate - a.from) ≤ 576)
few c =
    subst (λ (m : ℕ). m ≤ 576) (sym (cells c)) (few-cells c.args.ring c.requires.0.counted c.args.w c.args.first c.args.from)

pub slice_bounds-t-end : goal.slice_bounds-t-end
slice_bounds-t-end c = few (goal.at.slice_bounds-t-end c).After-rows_seen

pub slice_bounds-rank_in-end : goal.slice_bounds-rank_in-end
slice_bounds-rank_in-end c = front-size _ _ (few (goal.at.slice_bounds-rank_in-end c).After-rows_seen)

pub rank_in-requires : goal.rank_in-requires
rank_in-requires c = (
  c.requires.0,
  c.requires.1,
  c.requires.2,
  c.requires.3,
  sym (front-size _ _ (few (goal.at.rank_in-requires c).After-rows_seen)) ∙ cells (goal.at.rank_in-requires c).After-rows_seen,
)
