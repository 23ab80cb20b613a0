-- The invariant: the symbols written are those of the positions passed.
use Rattle.std.proofs.Common.{ℕ, ◌+◌, ◌*◌, List}
use Rattle.lists.specs.Lists.{at}
use Rattle.lists.proofs.Filling.{Filling}
use Rattle.keys.proofs.columns.fill_column.Given as goal

-- the symbol of a position
abbrev pub symbol : ℕ → ℕ → List ℕ → ℕ → ℕ
symbol rate k source p = at source (p * rate + k)

abbrev pub invariant-loop-p : goal.invariant-loop-p
invariant-loop-p l = Filling (symbol l.rate l.k l.source) l.initial.column l.column l.p
