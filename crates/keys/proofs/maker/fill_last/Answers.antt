use Rattle.std.proofs.Common.{ℕ, ◌+◌, ◌*◌, ◌%◌, set, sym, ap, ◌∙◌, subst, arith}
use Rattle.residues.specs.Field.{opposite_of}
use Rattle.lists.proofs.Fronts.{Front, front-next}
use Rattle.keys.proofs.MakerSteps.{with_last, last-start, last-at, column-stays}
use Rattle.keys.proofs.maker.fill_last.Goals as goal

pub loop-k-init : goal.loop-k-init
loop-k-init c =
    last-start c.args.q c.args.rows c.args.cols c.args.table.now c.requires.1

pub loop-k-preserved : goal.loop-k-preserved
loop-k-preserved c =
    let s = c.loop-k in
    let a = c.args in
    let h = c.loop-k-test.true in
    let x : ℕ = a.rows * a.cols + s.k in
    subst (λ (n : ℕ). Front a.table.now (with_last a.q a.rows a.cols a.table.now) (set s.table x c.opposite_mod.result) n) {x = x + 1}
    {y = a.rows * a.cols + (s.k + 1)} (omega arith)
    (front-next _ _ s.table x c.opposite_mod.result s.invariant (omega (arith, h, s.invariant.whole, c.requires.1))
    (c.opposite_mod.ensures
    ∙ ap (opposite_of a.q) (c.column_sum-sum.ensures ∙ ap (λ (n : ℕ). n % a.q)
    (column-stays a.q a.rows a.cols a.table.now c.requires.1 s.table s.k s.k s.invariant h))
    ∙ sym (last-at a.q a.rows a.cols a.table.now c.requires.1 s.k h)))
