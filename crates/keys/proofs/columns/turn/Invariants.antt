-- The invariant: the columns written are those of the products passed.
use Rattle.std.proofs.Common.{ℕ, ◌+◌, ◌*◌, List}
use Rattle.lists.specs.Lists.{at, tab, join_to}
use Rattle.lists.proofs.Fronts.{Front}
use Rattle.keys.proofs.columns.turn.Given as goal

-- the symbols of product k
abbrev pub column : ℕ → ℕ → List ℕ → ℕ → List ℕ
column rate positions source k = tab positions (λ p. at source (p * rate + k))

abbrev pub invariant-loop-k : goal.invariant-loop-k
invariant-loop-k l =
    Front l.initial.turned (join_to l.rate (column l.rate l.positions l.source)) l.turned (l.k * l.positions)
