use mathlib.Core.Path.{refl}
use native.Mathlib.Omega.{arith}
use Rattle.networks.specs.Grids.{grid_of}
use Rattle.lists.proofs.Filling.{filling-none, filling-next, filling-whole}
use Rattle.networks.proofs.grids.fill_grid.Goals as goal
use Rattle.networks.proofs.grids.fill_grid.Invariants.{cell}

pub loop-t-init : goal.loop-t-init
loop-t-init c = filling-none _ _ 0 refl

pub loop-t-preserved : goal.loop-t-preserved
unfolding cell
loop-t-preserved c =
    let l = c.loop-t in
    filling-next _ _ l.out l.t _ l.invariant (omega (arith, c.loop-t-test.true, l.auto.out)) c.entry_at.ensures

pub returns : goal.returns
unfolding grid_of cell
returns c = filling-whole _ _ _ c.loop-t.t c.loop-t.invariant (omega (arith, c.loop-t-test.false, c.loop-t.auto.out))
