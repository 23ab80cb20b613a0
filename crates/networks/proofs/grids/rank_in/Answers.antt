use Prim.Native.Nat.{ℕ, ◌+◌, ◌-◌, ◌*◌}
use mathlib.Core.Path.{◌≡◌, refl, sym, ap, ◌∙◌}
use lib.ListN.{length}
use Rattle.matrices.specs.Tables.{pivots_from}
use Rattle.networks.specs.Rings.{network_of}
use Rattle.networks.specs.Machine.{rows_seen}
use Rattle.networks.specs.Grids.{grid_of}
use Rattle.networks.proofs.LeakLaws.{grid-rank}
use Rattle.networks.proofs.grids.rank_in.Goals as goal

pub returns : goal.returns
returns c =
    let a = c.args in
    let rows : ℕ = c.rows_seen.result - a.first in
    let width : ℕ = a.ring.size * a.ring.parts + a.ring.rate - a.from in
    let e : rows ≡ rows_seen a.ring a.w - a.first = ap (λ (z : ℕ). z - a.first)
    c.rows_seen.ensures in
    let m : length a.t.now ≡ rows * width = c.requires.4 ∙ ap (λ (z : ℕ). z * width) (sym e) in
    c.reduce_rows.ensures.0
    ∙ ap (pivots_from a.ring.q rows width rows 0)
    (c.fill_grid.ensures ∙ ap
    (grid_of (network_of a.ring a.table.now a.weights.now) a.w a.first a.from) m)
    ∙ grid-rank a.ring a.table.now a.weights.now c.requires.0 a.w a.first a.from c.requires.3 rows width e refl
