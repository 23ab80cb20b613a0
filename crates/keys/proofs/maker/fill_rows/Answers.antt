use Rattle.std.proofs.Common.{ℕ, ◌+◌, ◌-◌, ◌*◌, ◌≤◌, length, sym, ◌∙◌, arith}
use Rattle.lists.proofs.ListLaws.{length-tab}
use Rattle.lists.proofs.Fronts.{front-none, front-part, row_fits}
use Rattle.keys.proofs.MakerSteps.{powers-part}
use Rattle.keys.proofs.maker.fill_rows.Goals as goal
use Rattle.keys.proofs.maker.fill_rows.Goals.{In-loop-i}

pub loop-i-init : goal.loop-i-init
loop-i-init c = front-none _ _ (0 * c.args.cols) (omega arith) (length-tab _ _ ∙ sym c.requires.3)

-- row i lies in the table
fits : (c : In-loop-i) → (let a = c.args in c.loop-i.i * a.cols + a.cols ≤ length c.loop-i.table)
fits c =
    let a = c.args in
    row_fits a.rows a.cols c.loop-i.i (length c.loop-i.table) c.loop-i-test.true
    (c.loop-i.invariant.whole ∙ c.requires.3)

pub loop-i-preserved : goal.loop-i-preserved
loop-i-preserved c =
    let s = c.loop-i in
    let a = c.args in
    let h = c.loop-i-test.true in
    let k = fits (goal.at.loop-i-preserved c).In-loop-i in
    let b : ℕ = s.i * a.cols in
    let w : ℕ = b + a.cols - b in
    front-part _ _ s.table b w ((s.i + 1) * a.cols) c.fill_row.new.row (omega arith) s.invariant (omega (arith, k))
    (c.fill_row.ensures ∙ powers-part a.q a.generator a.rows a.cols s.table s.i w
    c.row_base-base.result (omega arith) c.requires.0 h k (omega (arith, k, s.invariant.whole, c.requires.3))
    c.row_base-base.ensures)
