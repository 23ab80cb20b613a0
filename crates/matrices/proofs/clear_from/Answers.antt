use Rattle.std.proofs.Common.{◌*◌, length, sym, ap, ◌∙◌}
use native.Mathlib.Nat.{add-sub_cancel_left}
use Rattle.matrices.proofs.Steps.{row_fits, rest-size, length-row, rest-whole, copied-front}
use Rattle.matrices.proofs.clear_from.Goals as goal

pub clear_rows-requires : goal.clear_rows-requires
clear_rows-requires c =
    let a = c.args in
    let fits = row_fits a.rows a.cols a.i (length a.table.now) c.requires.3 c.requires.0 in
    let lent = length-row a.cols a.i _ a.table.now (add-sub_cancel_left (a.i * a.cols) a.cols) fits in (
      rest-size a.rows a.cols a.from a.table.now c.requires.2 c.requires.0 ∙ sym (ap length (rest-whole (a.from * a.cols) a.table.now)),
      c.requires.4,
      ap length (copied-front _ _ _ a.cols c.copy_from_slice.ensures.after (sym lent)) ∙ lent,
    )
