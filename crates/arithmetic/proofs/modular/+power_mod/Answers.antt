use mathlib.Core.Path.{◌≡◌, sym, ap, ◌∙◌}
use Prim.Native.Nat.{ℕ, ◌%◌}
use native.Mathlib.Omega.{arith}
use Rattle.residues.specs.Field.{power_of, product_of}
use Rattle.residues.proofs.PowerLaws.{power-even, power-odd}
use Rattle.arithmetic.proofs.modular.+power_mod.Goals as goal

pub returns-then-exponent-eq0 : goal.returns-then-exponent-eq0
unfolding power_of
returns-then-exponent-eq0 t c = c.reduce.ensures ∙ sym (ap (power_of c.args.q c.args.a) c.if-exponent-eq0.true)

pub returns-then-exponent-eq1 : goal.returns-then-exponent-eq1
returns-then-exponent-eq1 t c =
    let a = c.args in
    let half = c.power_mod-half.ensures in
    c.mul_mod.ensures
    ∙ ap (λ (x : ℕ). product_of a.q x a.a) (c.mul_mod-square.ensures ∙ ap (λ (x : ℕ). product_of a.q x x) half)
    ∙ sym (power-odd a.q a.a a.exponent c.if-exponent-eq1.true)

pub returns-else-exponent-eq1 : goal.returns-else-exponent-eq1
returns-else-exponent-eq1 t c =
    let a = c.args in
    let even : a.exponent % 2 ≡ 0 = omega (arith, c.if-exponent-eq1.false) in
    c.mul_mod-square.ensures
    ∙ ap (λ (x : ℕ). product_of a.q x x) c.power_mod-half.ensures
    ∙ sym (power-even a.q a.a a.exponent even)
