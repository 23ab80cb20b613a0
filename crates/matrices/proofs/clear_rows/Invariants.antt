-- The invariant: the rows passed and the cleared rest are the cleared table.
use mathlib.Core.Path.{◌≡◌}
use mathlib.Core.List.{◌++◌}
use Prim.Native.Nat.{◌-◌, ◌*◌}
use lib.ListN.{length, take, drop}
use Rattle.matrices.specs.Tables.{cleared, each_row}
use Rattle.matrices.proofs.clear_rows.Given as goal

abbrev pub invariant-loop-j : goal.invariant-loop-j
invariant-loop-j l =
    (length l.table ≡ length l.initial.table)
    × (take (l.j * l.cols) l.table ++ each_row (cleared l.q l.p l.s) (l.rows - l.j) l.cols (drop (l.j * l.cols) l.table) ≡ each_row (cleared l.q l.p l.s) l.rows l.cols l.initial.table)
