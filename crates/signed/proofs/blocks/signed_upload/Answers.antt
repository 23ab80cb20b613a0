use mathlib.Core.Path.{sym, ◌∙◌}
use Prim.Native.Nat.{◌-◌}
use native.Mathlib.Omega.{arith}
use Rattle.signed.proofs.CapLaws.{cap-grows}
use Rattle.signed.proofs.CheckLaws.{positive, reading-room, uploadable}
use Rattle.signed.proofs.blocks.signed_upload.Goals as goal

pub write_upload-requires : goal.write_upload-requires
write_upload-requires c =
    let a = c.args in
    let f = uploadable a.plan a.cap a.length a.readings.now a.key.now a.out.now c.in_ok-check_upload.ensures in (
      positive f.shaped,
      f.size ∙ sym f.room,
      f.key-size ∙ sym f.room,
      cap-grows a.cap (a.plan.q - 1) a.readings.now (omega (arith, reading-room f.shaped)) f.inside,
      f.key_below,
    )
