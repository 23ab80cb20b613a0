use mathlib.Core.Path.{◌≡◌, sym, ap, ◌∙◌}
use mathlib.Core.Bool.{Bool}
use mathlib.Core.List.{List}
use Prim.Native.Nat.{ℕ, ◌+◌, ◌*◌, ◌≤◌, ◌<◌}
use native.Mathlib.Omega.{arith}
use lib.ListN.{length, take}
use Rattle.matrices.specs.Tables.{row_of}
use Rattle.lists.proofs.ListLaws.{many-most}
use Rattle.vetting.specs.Walking.{chosen}
use Rattle.vetting.proofs.GatherLaws.{many-none, picked_none, gather-taken, gather-passed, row-length, room}
use Rattle.vetting.proofs.walk.gather.Goals as goal
use Rattle.vetting.proofs.walk.gather.Goals.{then-is_chosen, else-is_chosen}

pub loop-i-init : goal.loop-i-init
loop-i-init c =
    let a = c.args in
    let z : 0 * a.cols ≡ 0 = omega arith in (
      many-none (chosen a.watch a.skip),
      ap (λ (k : ℕ). take k a.out.now) z ∙ picked_none (chosen a.watch a.skip) (row_of a.cols a.table.now),
    )

pub copy_row-requires : goal.copy_row-requires
copy_row-requires c =
    let s = c.loop-i in
    let a = c.args in
    let h : s.i < a.rows = c.loop-i-test.true in (
      room a.rows a.cols s.i (length a.table.now) h (omega (arith, c.requires.2)),
      room a.rows a.cols s.n (length s.out) (omega (arith, s.invariant.0, many-most (chosen a.watch a.skip) s.i))
          (omega (arith, c.requires.3, s.auto.out)),
    )

pub overflow_add-n : goal.overflow_add-n
overflow_add-n c =
    omega (arith, c.loop-i.invariant.0, many-most (chosen c.args.watch c.args.skip) c.loop-i.i, c.loop-i-test.true, c.requires.0)

pub loop-i-preserved : goal.loop-i-preserved
loop-i-preserved c =
    let s = c.loop-i in
    let a = c.args in
    let h : s.i < a.rows = c.loop-i-test.true in
    let b : ℕ → Bool = chosen a.watch a.skip in
    let f : ℕ → List ℕ = row_of a.cols a.table.now in
    let few : s.n < a.rows = omega (arith, s.invariant.0, many-most b s.i) in
    let fits : s.n * a.cols + a.cols ≤ length s.out = room a.rows a.cols s.n (length s.out) few (omega (arith, c.requires.3, s.auto.out)) in
    let width : length (f s.i) ≡ a.cols = row-length a.cols s.i a.table.now
    (room a.rows a.cols s.i (length a.table.now) h (omega (arith, c.requires.2))) in
    let told = c.is_chosen.ensures in
    elim c.if-is_chosen.branch [
      | then-is_chosen w ↦
          gather-taken b f a.cols s.i s.n c.if-is_chosen.n s.out c.if-is_chosen.out s.invariant.0 s.invariant.1 (sym w.if-is_chosen.true ∙ told) w.n-is _
          (w.out-is ∙ w.copy_row.ensures) (omega arith) width
      | else-is_chosen w ↦
          gather-passed b f a.cols s.i s.n c.if-is_chosen.n s.out c.if-is_chosen.out s.invariant.0 s.invariant.1 (sym w.if-is_chosen.false ∙ told) w.n-is w.out-is
    ]
