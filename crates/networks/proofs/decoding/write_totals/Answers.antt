use Prim.Native.Nat.{ℕ}
use mathlib.Core.Path.{refl, ap₂, ◌∙◌}
use native.Mathlib.Omega.{arith}
use Rattle.residues.specs.Field.{product_of}
use Rattle.lists.proofs.Filling.{filling-none, filling-next}
use Rattle.networks.proofs.decoding.write_totals.Goals as goal

pub loop-s-init : goal.loop-s-init
loop-s-init c = filling-none _ _ 0 refl

pub loop-s-preserved : goal.loop-s-preserved
loop-s-preserved c =
    let l = c.loop-s in
    filling-next _ _ l.out l.s c.mul_mod.result l.invariant (omega (arith, c.loop-s-test.true, l.auto.out))
    (c.mul_mod.ensures ∙ ap₂ (λ (v u : ℕ). product_of c.args.q v u) c.opposite_mod.ensures c.inverse_mod.ensures)
