use Rattle.std.proofs.Common.{◌+◌, ◌*◌, refl, ◌∙◌}
use Rattle.lists.specs.Lists.{at}
use Rattle.residues.proofs.RunningSum.{kept-none, kept_next}
use Rattle.keys.proofs.maker.column_sum.Goals as goal

pub loop-i-init : goal.loop-i-init
loop-i-init c =
    let a = c.args in
    kept-none a.q (λ j. at a.table.now (j * a.cols + a.k))

pub loop-i-preserved : goal.loop-i-preserved
loop-i-preserved c =
    let s = c.loop-i in
    let a = c.args in
    c.add_mod-sum.ensures ∙ kept_next a.q (λ j. at a.table.now (j * a.cols + a.k)) s.i s.sum _ c.requires.0 s.invariant refl
