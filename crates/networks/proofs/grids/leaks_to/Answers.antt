use Prim.Native.Nat.{ℕ, ◌+◌, ◌*◌}
use mathlib.Core.Path.{ap, ap₂, ◌∙◌}
use mathlib.Core.Bool.{not}
use native.Mathlib.Omega.{arith}
use lib.Dec.{eqb}
use Rattle.networks.specs.Grids.{grid_rank}
use Rattle.networks.proofs.RingLaws.{few-rows, totals-among}
use Rattle.networks.proofs.LeakLaws.{rank-few, ranks-decide}
use Rattle.networks.proofs.grids.leaks_to.Goals as goal

pub overflow_add-result : goal.overflow_add-result
overflow_add-result c =
    let a = c.args in
    omega (
      arith,
      c.totals_seen-totals.ensures,
      totals-among a.ring c.requires.0.counted a.w,
      few-rows a.ring c.requires.0.counted a.w,
      c.grid_rank-source.ensures,
      rank-few a.ring a.table.now a.weights.now c.requires.0 a.w c.totals_seen-totals.result (a.ring.size * a.ring.parts),
    )

pub returns : goal.returns
returns c =
    let a = c.args in
    let e = c.totals_seen-totals.ensures in
    ap₂ (λ (x y : ℕ). not (eqb x (c.totals_seen-totals.result + y))) c.grid_rank-whole.ensures c.grid_rank-source.ensures
    ∙ ap (λ (z : ℕ). not (eqb (grid_rank a.ring a.table.now a.weights.now a.w 0 0)
    (z + grid_rank a.ring a.table.now a.weights.now a.w z (a.ring.size * a.ring.parts)))) e
    ∙ ranks-decide a.ring a.table.now a.weights.now c.requires.0 a.w
