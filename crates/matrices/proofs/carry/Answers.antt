use Rattle.std.proofs.Common.{ℕ, ◌*◌, ◌≤◌, ◌<◌, take, drop, subst, sym, ap, ◌∙◌}
use borrow.Author.Tests.{lt-ltb, le-ltb, eq-eqb, ne_eqb}
use native.Mathlib.Nat.{add-sub_cancel_left}
use Rattle.matrices.specs.Tables.{pivot_of}
use Rattle.matrices.proofs.Steps.{pivot-shaped, no-shape, no-row}
use Rattle.matrices.proofs.Carrying.{not_carried, not-as-many, is_carried}
use Rattle.matrices.proofs.carry.Goals as goal
use Rattle.matrices.proofs.carry.Goals.{else-is_shaped-via-then-is_shaped+then-values-rows+else-i-rows, else-is_shaped-via-then-is_shaped+else-values-rows, else-is_shaped-via-else-is_shaped}

pub returns-else-is_shaped : goal.returns-else-is_shaped
returns-else-is_shaped c =
    let a = c.args in
    elim c.else-is_shaped.branch [
      | else-is_shaped-via-then-is_shaped+then-values-rows+else-i-rows w ↦
          not_carried a.q a.rows a.cols a.i a.table.now a.values.now
          (no-row a.q a.rows a.cols a.i a.table.now (sym c.is_shaped.ensures ∙ w.if-is_shaped.true) w.if-i-rows.false)
      | else-is_shaped-via-then-is_shaped+else-values-rows w ↦
          not-as-many a.q a.rows a.cols a.i a.table.now a.values.now (ne_eqb _ _ w.if-values-rows.false)
      | else-is_shaped-via-else-is_shaped w ↦
          not_carried a.q a.rows a.cols a.i a.table.now a.values.now
          (no-shape a.q a.rows a.cols a.i a.table.now (sym c.is_shaped.ensures ∙ w.if-is_shaped.false))
    ]

pub returns-else-p-cols : goal.returns-else-p-cols
returns-else-p-cols c =
    let a = c.args in
    let e = c.pivot-p.ensures ∙ ap (λ (n : ℕ). pivot_of (take n (drop (a.i * a.cols) a.table.now))) (add-sub_cancel_left (a.i * a.cols) a.cols) in
    not_carried a.q a.rows a.cols a.i a.table.now a.values.now
    (pivot-shaped a.q a.rows a.cols a.i a.table.now (sym c.is_shaped.ensures ∙ c.if-is_shaped.true) c.if-i-rows.true
    ∙ le-ltb _ _ (subst (λ (n : ℕ). a.cols ≤ n) e c.if-p-cols.false))

pub returns-then-p-cols : goal.returns-then-p-cols
returns-then-p-cols c =
    let a = c.args in
    let e = c.pivot-p.ensures ∙ ap (λ (n : ℕ). pivot_of (take n (drop (a.i * a.cols) a.table.now))) (add-sub_cancel_left (a.i * a.cols) a.cols) in
    c.carry_by.ensures
    ∙ is_carried a.q a.rows a.cols a.i a.table.now a.values.now
    (pivot-shaped a.q a.rows a.cols a.i a.table.now (sym c.is_shaped.ensures ∙ c.if-is_shaped.true) c.if-i-rows.true
    ∙ lt-ltb _ _ (subst (λ (n : ℕ). n < a.cols) e c.if-p-cols.true))
    (eq-eqb _ _ c.if-values-rows.true) c.pivot-p.result e
