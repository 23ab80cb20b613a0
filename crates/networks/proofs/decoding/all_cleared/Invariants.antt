use Prim.Native.Nat.{ℕ}
use mathlib.Core.Path.{◌≡◌}
use mathlib.Core.Bool.{Bool, true, not}
use mathlib.Core.List.{List}
use lib.Dec.{ltb}
use Rattle.matrices.specs.Tables.{row_of, pivot_of}
use Rattle.lists.specs.Search.{all_to}
use Rattle.networks.proofs.decoding.all_cleared.Given as goal

unfoldable pub test : ℕ → List ℕ → ℕ → Bool
test cols T s = not (ltb (pivot_of (row_of cols T s)) cols)

abbrev pub invariant-loop-s : goal.invariant-loop-s
invariant-loop-s l = all_to l.s (test l.cols l.table) ≡ true
