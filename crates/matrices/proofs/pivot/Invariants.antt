-- The invariant: what is left of the row has its pivot where the row has it.
use mathlib.Core.Path.{◌≡◌}
use Prim.Native.Nat.{◌+◌}
use lib.ListN.{drop}
use Rattle.matrices.specs.Tables.{pivot_of}
use Rattle.matrices.proofs.pivot.Given as goal

abbrev pub invariant-loop-k : goal.invariant-loop-k
invariant-loop-k l = l.k + pivot_of (drop l.k l.row) ≡ pivot_of l.row
