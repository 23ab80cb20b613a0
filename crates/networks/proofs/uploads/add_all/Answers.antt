use mathlib.Core.Path.{refl, ◌∙◌}
use Rattle.lists.specs.Lists.{at}
use Rattle.residues.proofs.RunningSum.{kept-none, kept_next}
use Rattle.networks.proofs.uploads.add_all.Goals as goal

pub loop-upload-init : goal.loop-upload-init
loop-upload-init c = kept-none _ _

pub loop-upload-preserved : goal.loop-upload-preserved
loop-upload-preserved c =
    let a = c.args in
    let l = c.loop-upload in
    c.add_mod-sum.ensures ∙ kept_next a.q (λ i. at a.uploads.now i) l.upload-index l.sum _
    c.requires l.invariant refl
