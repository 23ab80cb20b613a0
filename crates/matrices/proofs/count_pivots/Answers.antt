use Rattle.std.proofs.Common.{◌≡◌, ℕ, ◌+◌, ◌-◌, ◌*◌, ◌≤◌, Bool, true, false, cond, List, length, sym, ap, ap₂, ◌∙◌, arith}
use native.Mathlib.Nat.{add-zero}
use Rattle.matrices.specs.Tables.{has_pivot, eliminated_from, reduced_from, pivots_from}
use Rattle.matrices.proofs.Steps.{length-eliminated, reduce-next, reduce-end, count_next, count-end}
use Rattle.matrices.proofs.count_pivots.Goals as goal
use Rattle.matrices.proofs.count_pivots.Goals.{then-eliminate_from, else-eliminate_from}

at_most : (t : Bool) → cond t 1 0 ≤ 1
at_most true = omega arith
at_most false = omega arith

-- one more where row i was not 0
counted : (c : goal.Joined-eliminate_from)
    → c.if-eliminate_from.n ≡ c.loop-i.n + cond (has_pivot c.args.rows c.args.cols c.loop-i.i c.loop-i.table) 1 0
counted c =
    let n = c.loop-i.n in
    let told = c.eliminate_from.ensures.0 in
    elim c.if-eliminate_from.branch [
      | then-eliminate_from w ↦ w.n-is ∙ ap (λ (t : Bool). n + cond t 1 0) (sym w.if-eliminate_from.true ∙ told)
      | else-eliminate_from w ↦ w.n-is ∙ sym (add-zero n) ∙ ap (λ (t : Bool). n + cond t 1 0) (sym w.if-eliminate_from.false ∙ told)
    ]

pub loop-i-preserved : goal.loop-i-preserved
loop-i-preserved c =
    let s = c.loop-i in
    let a = c.args in
    let h = c.loop-i-test.true in
    let e : c.eliminate_from.new.table ≡ eliminated_from a.q a.rows a.cols (s.i + 1) s.i s.table = c.eliminate_from.ensures.1 in
    let size : a.rows * a.cols ≡ length s.table = c.requires.2 ∙ sym s.invariant.1 in (
      omega (arith, s.invariant.0, counted c, at_most (has_pivot a.rows a.cols s.i s.table)),
      ap length e ∙ length-eliminated a.q a.rows a.cols s.i s.table (s.i + 1) size (omega (arith, h)) ∙ s.invariant.1,
      ap₂ (λ (m : ℕ) (X : List ℕ). m + pivots_from a.q a.rows a.cols (a.rows - (s.i + 1)) (s.i + 1) X) (counted c) e
          ∙ count_next a.q a.rows a.cols s.i s.n _ s.table h s.invariant.2,
      ap (reduced_from a.q a.rows a.cols (a.rows - (s.i + 1)) (s.i + 1)) e ∙ reduce-next a.q a.rows a.cols s.i s.table _ h s.invariant.3,
    )

pub returns : goal.returns
returns c =
    let s = c.loop-i in
    let a = c.args in (
      count-end a.q a.rows a.cols s.i s.n _ s.table c.loop-i-test.false s.invariant.2,
      reduce-end a.q a.rows a.cols s.i s.table _ c.loop-i-test.false s.invariant.3,
    )
