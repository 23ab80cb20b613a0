use Rattle.masking.proofs.BlockLaws.{writable}
use Rattle.masking.proofs.unmask.Goals as goal

pub write_unmasked-requires : goal.write_unmasked-requires
write_unmasked-requires c = let a = c.args in writable a.q a.length a.upload.now a.key.now a.out.now c.in_ok-check_blocks.ensures
