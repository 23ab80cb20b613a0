use Rattle.std.proofs.Common.{◌≡◌, ℕ, false, sym, ◌∙◌}
use Rattle.matrices.specs.Tables.{has_pivot}
use Rattle.matrices.proofs.Steps.{no-shape, unshaped-count, unshaped-reduced}
use Rattle.matrices.proofs.reduce_rows.Goals as goal

pub returns-else-is_shaped : goal.returns-else-is_shaped
returns-else-is_shaped c =
    let a = c.args in
    let none : (i : ℕ) → has_pivot a.rows a.cols i a.table.now ≡ false
    = λ i. no-shape a.q a.rows a.cols i a.table.now (sym c.is_shaped.ensures ∙ c.if-is_shaped.false) in
    (unshaped-count a.q a.rows a.cols a.table.now none a.rows 0, unshaped-reduced a.q a.rows a.cols a.table.now none a.rows 0)
