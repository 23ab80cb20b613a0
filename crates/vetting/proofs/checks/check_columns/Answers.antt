use mathlib.Core.Path.{sym, ◌∙◌}
use native.Mathlib.Omega.{arith}
use Rattle.secrecy.specs.Model.{column_sum}
use Rattle.vetting.proofs.VetLaws.{columns-zero, column-first, zeros-next}
use Rattle.vetting.proofs.checks.check_columns.Goals as goal

pub returns-then-column_sum-ne0 : goal.returns-then-column_sum-ne0
unfolding column_sum
returns-then-column_sum-ne0 c =
    let s = c.loop-k in
    let a = c.args in
    column-first a.plan a.table.now a.plan.rate (λ k. k) s.k c.loop-k-test.true s.invariant
    (λ e. c.if-column_sum-ne0.true (c.column_sum.ensures ∙ e))

pub loop-k-preserved : goal.loop-k-preserved
unfolding column_sum
loop-k-preserved c =
    let s = c.loop-k in
    let a = c.args in
    zeros-next a.plan a.table.now s.k s.invariant (sym c.column_sum.ensures ∙ c.if-column_sum-ne0.false)

pub returns : goal.returns
returns c =
    let s = c.loop-k in
    let a = c.args in
    columns-zero a.plan a.table.now a.plan.rate (λ k. k) (λ k h. s.invariant k (omega (arith, c.loop-k-test.false)))
