-- The invariant: the sum of the first i rows, at most 4,294,967,295 for each.
use mathlib.Core.Path.{◌≡◌}
use Prim.Native.Nat.{◌*◌, ◌≤◌, ◌<◌}
use Rattle.testing.specs.Slices.{column_of}
use Rattle.testing.proofs.slices.column_sum.Given as goal

abbrev pub invariant-loop-i : goal.invariant-loop-i
invariant-loop-i l = (l.n < 65536) × (l.sum ≤ 4294967295 * l.i) × (l.sum ≡ column_of l.t l.i l.cols l.k)
