use Rattle.std.proofs.Common.{◌≤◌, ◌∙◌, mul-le-mul, arith}
use Rattle.residues.proofs.Reciprocals.{fraction-exact}
use Rattle.keys.proofs.products.product.Goals as goal

pub returns-then-q-le-SMALL : goal.returns-then-q-le-SMALL
returns-then-q-le-SMALL c =
    let a = c.args in
    let few : a.q ≤ 65536 = omega (arith, c.if-q-le-SMALL.true) in
    c.small_product.ensures
    ∙ fraction-exact a.q 4294967296 a.a a.b a.w c.requires.1 c.requires.2
    (omega (arith, mul-le-mul {n₁ = a.q} {m₁ = a.q} {n₂ = 65536} {m₂ = 65536} few few))
    c.requires.0
