use Rattle.std.proofs.Common.{refl, arith}
use Rattle.lists.proofs.Filling.{filling-none, filling-next}
use Rattle.keys.proofs.columns.fill_column.Invariants.{symbol}
use Rattle.keys.proofs.columns.fill_column.Goals as goal

pub loop-p-init : goal.loop-p-init
loop-p-init c = filling-none _ _ 0 refl

pub loop-p-preserved : goal.loop-p-preserved
loop-p-preserved c =
    let s = c.loop-p in
    let a = c.args in
    filling-next (symbol a.rate a.k a.source.now) _ s.column s.p _ s.invariant (omega (arith, c.loop-p-test.true, s.auto.column)) refl
