-- The invariant: the entries written are their own indices.
use mathlib.Core.Path.{refl}
use native.Mathlib.Omega.{arith}
use Rattle.lists.proofs.Filling.{filling-none, filling-next}
use Rattle.trials.proofs.draws.fill_order.Invariants.{own}
use Rattle.trials.proofs.draws.fill_order.Goals as goal

pub loop-i-init : goal.loop-i-init
loop-i-init c = filling-none _ _ 0 refl

pub loop-i-preserved : goal.loop-i-preserved
loop-i-preserved c = let s = c.loop-i in filling-next own _ s.order s.i s.i s.invariant (omega (arith, c.loop-i-test.true, s.auto.order)) refl
