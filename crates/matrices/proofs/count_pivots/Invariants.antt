-- The invariant: what is counted and what is left to count make the count, and the table reduced from here on is the reduced table.
use mathlib.Core.Path.{◌≡◌}
use Prim.Native.Nat.{◌+◌, ◌-◌, ◌≤◌}
use lib.ListN.{length}
use Rattle.matrices.specs.Tables.{reduced_from, pivots_from}
use Rattle.matrices.proofs.count_pivots.Given as goal

abbrev pub invariant-loop-i : goal.invariant-loop-i
invariant-loop-i l =
    (l.n ≤ l.i)
    × (length l.table ≡ length l.initial.table)
    × (l.n + pivots_from l.q l.rows l.cols (l.rows - l.i) l.i l.table ≡ pivots_from l.q l.rows l.cols l.rows 0 l.initial.table)
    × (reduced_from l.q l.rows l.cols (l.rows - l.i) l.i l.table ≡ reduced_from l.q l.rows l.cols l.rows 0 l.initial.table)
