use Rattle.masking.proofs.BlockLaws.{writable}
use Rattle.masking.proofs.upload.Goals as goal

pub write_upload-requires : goal.write_upload-requires
write_upload-requires c = let a = c.args in writable a.q a.length a.readings.now a.key.now a.out.now c.in_ok-check_blocks.ensures
