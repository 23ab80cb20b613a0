use mathlib.Core.Path.{refl, ◌∙◌}
use native.Mathlib.Omega.{arith}
use Rattle.residues.proofs.PrimeLaws.{below_at}
use Rattle.residues.proofs.SymbolLaws.{symbol-sum}
use Rattle.lists.proofs.Filling.{filling-none, filling-next}
use Rattle.masking.proofs.write_upload.Goals as goal

pub loop-p-init : goal.loop-p-init
loop-p-init c = filling-none _ _ 0 refl

pub loop-p-preserved : goal.loop-p-preserved
loop-p-preserved c =
    let s = c.loop-p in
    let a = c.args in
    filling-next _ _ s.out s.p c.add_symbols.result s.invariant (omega (arith, c.loop-p-test.true, s.auto.out))
    (c.add_symbols.ensures
    ∙ symbol-sum a.q _ _ (below_at a.q a.readings.now c.requires.0 c.requires.3 s.p)
    (below_at a.q a.key.now c.requires.0 c.requires.4 s.p))
