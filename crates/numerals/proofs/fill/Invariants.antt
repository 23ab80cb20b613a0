-- The invariant: up to k the table is what it is to be.
use mathlib.Core.List.{List, ◌++◌}
use Prim.Native.Nat.{ℕ, ◌-◌}
use lib.ListN.{length}
use Rattle.lists.specs.Lists.{zeros}
use Rattle.lists.proofs.Fronts.{Front}
use Rattle.numerals.specs.Bytes.{numbers_at}
use Rattle.numerals.proofs.fill.Given as goal

-- the numbers, and zeros past them
abbrev pub meant : ℕ → ℕ → List ℕ → ℕ → List ℕ → List ℕ
meant width count B from table₀ = numbers_at width count B from ++ zeros (length table₀ - count)

abbrev pub invariant-loop-k : goal.invariant-loop-k
invariant-loop-k l = Front l.initial.table (meant l.width l.count l.bytes l.from l.initial.table) l.table l.k
