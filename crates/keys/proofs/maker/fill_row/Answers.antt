use Rattle.std.proofs.Common.{refl, arith}
use Rattle.lists.proofs.Filling.{filling-none, filling-next}
use Rattle.keys.proofs.maker.fill_row.Goals as goal

pub loop-k-init : goal.loop-k-init
loop-k-init c = filling-none _ _ 0 refl

pub loop-k-preserved : goal.loop-k-preserved
loop-k-preserved c = let s = c.loop-k in filling-next _ _ s.row s.k c.power_mod.result s.invariant (omega (arith, c.loop-k-test.true, s.auto.row))
    c.power_mod.ensures
