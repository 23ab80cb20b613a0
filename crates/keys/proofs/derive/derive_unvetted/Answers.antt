use Rattle.residues.proofs.PrimeLaws.{prime-pos}
use Rattle.keys.proofs.KeyLaws.{unvetted-derivable}
use Rattle.keys.proofs.derive.derive_unvetted.Goals as goal

pub write_keys-requires : goal.write_keys-requires
write_keys-requires c =
    let a = c.args in
    let d = unvetted-derivable a.plan a.table.now a.length a.source.now a.keys.now c.in_ok-check_unvetted.ensures in
    (prime-pos d.prime, d.few-users, d.size, d.source, d.room, d.few-symbols, d.short, d.table_below, d.source-below)
