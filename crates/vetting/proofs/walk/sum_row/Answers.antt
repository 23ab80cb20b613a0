use mathlib.Core.Path.{refl}
use native.Mathlib.Omega.{arith}
use Rattle.lists.proofs.Filling.{filling-none, filling-next}
use Rattle.vetting.proofs.walk.sum_row.Goals as goal

pub loop-k-init : goal.loop-k-init
loop-k-init c = filling-none _ _ 0 refl

pub loop-k-preserved : goal.loop-k-preserved
loop-k-preserved c =
    let s = c.loop-k in
    filling-next _ _ s.out s.k c.cluster_sum.result s.invariant (omega (arith, c.loop-k-test.true, s.invariant.whole, c.requires.2))
    c.cluster_sum.ensures
