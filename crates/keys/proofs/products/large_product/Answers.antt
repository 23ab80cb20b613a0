use Rattle.std.proofs.Common.{◌+◌, ◌*◌, ◌/◌, ◌≤◌, ◌∙◌, arith}
use Rattle.residues.proofs.Reciprocals.{fraction-over, fraction-under, less-times}
use Rattle.keys.proofs.products.large_product.Goals as goal
use Rattle.keys.proofs.products.large_product.Goals.{Start}

under : (c : Start) → (let a = c.args in a.w * a.b / 4294967296 * a.q ≤ a.a * a.b + a.q)
under c =
    let a = c.args in
    fraction-under a.q 4294967296 a.a a.b a.w c.requires.1 c.requires.2 (omega arith)

pub difference-requires : goal.difference-requires
difference-requires c =
    let a = c.args in (
      fraction-over a.q 4294967296 a.a a.b a.w c.requires.1 c.requires.2 (omega arith) (omega arith),
      under c,
    )

pub returns : goal.returns
returns c =
    let s = (goal.at.returns c).Start in
    let a = s.args in
    c.difference.ensures ∙ less-times a.q (a.a * a.b) (a.w * a.b / 4294967296) (under s)
