use Rattle.std.proofs.Common.{◌≡◌, ℕ, ◌+◌, ◌*◌, ◌-◌, ◌≤◌, List, length, ap, ◌∙◌, arith}
use borrow.Rule.Slice.PartMut.{same_len_mid}
use Rattle.matrices.specs.Tables.{cleared}
use Rattle.matrices.proofs.Steps.{row_fits, length-cleared, rows_next, rows_end}
use Rattle.matrices.proofs.clear_rows.Goals as goal

pub loop-j-preserved : goal.loop-j-preserved
loop-j-preserved c =
    let s = c.loop-j in
    let a = c.args in
    let f = cleared a.q a.p a.s.now in
    let b : ℕ = s.j * a.cols in
    let y : List ℕ = c.clear.new.row in
    let k : ℕ = b + a.cols - b in
    let size : a.rows * a.cols ≡ length s.table = omega (arith, c.requires.0, s.invariant.0) in
    let fits : b + a.cols ≤ length s.table = row_fits a.rows a.cols s.j (length s.table) c.loop-j-test.true size in (
      same_len_mid b k s.table y (ap length c.clear.ensures ∙ length-cleared a.q a.p a.s.now _) ∙ s.invariant.0,
      rows_next f (length-cleared a.q a.p a.s.now) a.rows a.cols s.j k s.table _ y (omega arith) c.loop-j-test.true fits c.clear.ensures s.invariant.1,
    )

pub returns : goal.returns
returns c =
    let a = c.args in
    rows_end (cleared a.q a.p a.s.now) (length-cleared a.q a.p a.s.now) a.rows a.cols c.loop-j.j 0 c.loop-j.table _ c.loop-j-test.false
    c.loop-j.invariant.1
