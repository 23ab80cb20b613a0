use Rattle.std.proofs.Common.{ℕ, ◌+◌, ◌*◌, ◌<◌, List, length, subst, sym, ap, ◌∙◌, arith}
use borrow.Author.Tests.{eq-eqb, ne_eqb}
use Rattle.residues.specs.Field.{cross_of}
use Rattle.lists.specs.Lists.{at}
use Rattle.lists.proofs.Filling.{filling-whole}
use Rattle.matrices.specs.Sweeps.{carried_by}
use Rattle.matrices.proofs.Carrying.{Carrying, carrying-none, carrying-next, carrying-past}
use Rattle.matrices.proofs.carry_by.Invariants.{step}
use Rattle.matrices.proofs.carry_by.Goals as goal
use Rattle.matrices.proofs.carry_by.Goals.{then-x-ne0, else-x-ne0}

pub loop-r-init : goal.loop-r-init
loop-r-init c = carrying-none _ _

pub loop-r-preserved : goal.loop-r-preserved
unfolding step
loop-r-preserved c =
    let a = c.args in
    let l = c.loop-r in
    let f : ℕ → ℕ = step a.q a.cols a.i a.p a.table.now a.values.now in
    let within : l.r < length l.values = omega (arith, c.loop-r-test.true, l.invariant.front.whole) in
    let x : ℕ = at a.table.now (l.r * a.cols + a.p) in
    elim c.if-x-ne0.branch [
      | then-x-ne0 w ↦
          subst (λ (v : List ℕ). Carrying f a.values.now v (l.r + 1)) (sym w.values-is)
          (carrying-next f _ l.values l.r w.cross_mod.result l.invariant within
          (w.cross_mod.ensures ∙ ap (λ (z : ℕ). cross_of a.q (at a.table.now (a.i * a.cols + a.p)) z x (at a.values.now a.i)) (l.invariant.rest l.r (omega arith))
          ∙ rw (ne_eqb x 0 w.if-x-ne0.true)))
      | else-x-ne0 w ↦
          subst (λ (v : List ℕ). Carrying f a.values.now v (l.r + 1)) (sym w.values-is)
          (carrying-past f _ l.values l.r l.invariant within (rw (eq-eqb x 0 w.if-x-ne0.false)))
    ]

pub returns : goal.returns
unfolding step carried_by
returns c =
    let front = c.loop-r.invariant.front in
    filling-whole _ _ _ c.loop-r.r front (omega (arith, c.loop-r-test.false, front.whole))
