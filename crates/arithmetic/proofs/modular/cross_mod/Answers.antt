-- Both numbers are 0, or by the three cases.
use mathlib.Core.Path.{◌∙◌, ap}
use Prim.Native.Nat.{◌*◌, ◌<◌}
use native.Mathlib.Omega.{arith}
use Rattle.residues.specs.Field.{residue}
use Rattle.residues.proofs.Crossings.{cross-less, cross-more, cross-rest}
use Rattle.arithmetic.proofs.modular.cross_mod.Goals as goal
use Rattle.arithmetic.proofs.modular.cross_mod.Goals.{then-more-less, else-more-less}

pub returns-then-less-most : goal.returns-then-less-most
returns-then-less-most c =
    let a = c.args in
    c.reduce.ensures ∙ cross-rest a.q (a.y * a.a) (a.x * a.b) (omega (arith, c.if-q-eq0.false))

pub returns : goal.returns
returns c =
    let a = c.args in
    let pos : 0 < a.q = omega (arith, c.if-q-eq0.false) in
    c.reduce-2.ensures
    ∙ elim c.if-more-less.branch [
      | then-more-less w ↦ ap (residue a.q) w.t-is ∙ cross-less a.q (a.y * a.a) (a.x * a.b) pos w.if-more-less.true
      | else-more-less w ↦ ap (residue a.q) w.t-is ∙ cross-more a.q (a.y * a.a) (a.x * a.b) pos w.if-more-less.false c.if-less-most.false
    ]
