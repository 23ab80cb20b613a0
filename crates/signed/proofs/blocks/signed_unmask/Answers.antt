use mathlib.Core.Path.{sym, ◌∙◌}
use Rattle.signed.proofs.CheckLaws.{positive, unmaskable}
use Rattle.signed.proofs.blocks.signed_unmask.Goals as goal

pub write_shown-requires : goal.write_shown-requires
write_shown-requires c =
    let a = c.args in
    let f = unmaskable a.plan a.cap a.length a.upload.now a.key.now a.out.now c.in_ok-check_unmask.ensures in
    (positive f.shaped, f.size ∙ sym f.room, f.key-size ∙ sym f.room, f.below, f.key_below)
