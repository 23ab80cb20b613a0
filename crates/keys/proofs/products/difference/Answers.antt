use Rattle.std.proofs.Common.{◌∙◌, arith}
use Rattle.keys.proofs.Halves.{raised}
use Rattle.keys.proofs.products.difference.Goals as goal

pub returns : goal.returns
returns c =
    let a = c.args in
    let z = c.wrapping_sub_u64-less in
    c.wrapping_add_u32.ensures.value
    ∙ raised a.q a.over a.under z.result (omega arith) (omega arith) (omega arith) z.ensures.value c.requires.0 c.requires.1
