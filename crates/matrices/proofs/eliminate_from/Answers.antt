use Rattle.std.proofs.Common.{◌≡◌, ℕ, ◌*◌, take, drop, sym, ap, ◌∙◌, arith}
use borrow.Author.Tests.{lt-ltb, le-ltb}
use native.Mathlib.Nat.{add-sub_cancel_left}
use lib.Dec.{ltb}
use Rattle.matrices.specs.Tables.{pivot_of, has_pivot}
use Rattle.matrices.proofs.Steps.{pivot-is, no-pivot, some-pivot, none_left}
use Rattle.matrices.proofs.eliminate_from.Goals as goal
use Rattle.matrices.proofs.eliminate_from.Goals.{then-p-cols+then-from-rows, else-p-cols, else-p-cols-via-then-p-cols+else-from-rows, else-p-cols-via-else-p-cols}

pub returns : goal.returns
returns c =
    let a = c.args in
    let e = c.pivot-p.ensures ∙ ap (λ (n : ℕ). pivot_of (take n (drop (a.i * a.cols) a.table.now))) (add-sub_cancel_left (a.i * a.cols) a.cols) in
    let told : ltb c.pivot-p.result a.cols ≡ has_pivot a.rows a.cols a.i a.table.now =
    ap (λ (n : ℕ). ltb n a.cols) e ∙ sym (pivot-is 0 a.rows a.cols a.i a.table.now c.requires.0 c.requires.1 c.requires.2 c.requires.4) in (
      told,
      elim c.if-p-cols.branch [
        | then-p-cols+then-from-rows w ↦
            w.table-is
            ∙ w.clear_from.ensures
            ∙ sym (some-pivot a.q a.rows a.cols a.i a.table.now a.from (sym told ∙ lt-ltb _ _ w.if-p-cols.true))
        | else-p-cols w ↦
            w.table-is
            ∙ elim w.else-p-cols.branch [
              | else-p-cols-via-then-p-cols+else-from-rows v ↦
                  sym (none_left a.q a.rows a.cols a.i a.table.now a.from (omega (arith, v.if-from-rows.false, c.requires.3)) (sym told ∙ lt-ltb _ _ v.if-p-cols.true))
              | else-p-cols-via-else-p-cols v ↦ (no-pivot a.q a.rows a.cols a.i a.table.now a.from (sym told ∙ le-ltb _ _ v.if-p-cols.false)).1
            ]
      ],
    )
