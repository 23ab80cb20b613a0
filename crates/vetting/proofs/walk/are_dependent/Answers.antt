use mathlib.Core.Path.{refl, sym, ap₂, ◌∙◌}
use mathlib.Core.Bool.{not}
use mathlib.Core.List.{List}
use Prim.Native.Nat.{ℕ, ◌*◌, ◌≤◌}
use native.Mathlib.Omega.{arith}
use lib.Dec.{eqb}
use lib.Seq.{length-take-le}
use Rattle.matrices.specs.Tables.{pivots_from}
use Rattle.vetting.specs.Walking.{chosen, dependent, level_size}
use Rattle.lists.proofs.ListLaws.{many-most}
use Rattle.vetting.proofs.GatherLaws.{few-numbers}
use Rattle.vetting.proofs.walk.are_dependent.Goals as goal
use Rattle.vetting.proofs.walk.are_dependent.Goals.{After-gather-n}

-- the rows gathered have room
room : (c : After-gather-n) → c.gather-n.result * c.args.cols ≤ level_size
room c =
    few-numbers c.gather-n.result c.args.cols
    (omega (arith, c.gather-n.ensures.0, many-most (chosen c.args.watch c.args.skip) c.args.rows, c.requires.0)) c.requires.1

pub overflow_mul-s : goal.overflow_mul-s
overflow_mul-s c = omega (arith, room (goal.at.overflow_mul-s c).After-gather-n)

pub slice_bounds-s-end : goal.slice_bounds-s-end
slice_bounds-s-end c = omega (arith, room (goal.at.slice_bounds-s-end c).After-gather-n)

pub slice_bounds-reduce_rows-end : goal.slice_bounds-reduce_rows-end
slice_bounds-reduce_rows-end c =
    sym (length-take-le (c.gather-n.result * c.args.cols) _
    (omega (arith, room (goal.at.slice_bounds-reduce_rows-end c).After-gather-n)))

pub returns : goal.returns
unfolding dependent
returns c =
    let a = c.args in
    let g = c.gather-n in
    ap₂ (λ (k n : ℕ). not (eqb k n)) c.reduce_rows.ensures.0 refl
    ∙ ap₂ (λ (n : ℕ) (X : List ℕ). not (eqb (pivots_from a.q n a.cols n 0 X) n)) g.ensures.0 g.ensures.1
