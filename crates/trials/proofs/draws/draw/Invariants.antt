-- The invariant: the values written are those of the states passed.
use mathlib.Core.Path.{◌≡◌}
use Prim.Native.Nat.{ℕ, ◌%◌}
use Rattle.lists.proofs.Filling.{Filling}
use Rattle.trials.specs.Generator.{stepped_by, value_at}
use Rattle.trials.proofs.draws.draw.Given as goal

abbrev pub values : ℕ → ℕ → ℕ → ℕ
values modulus state k = value_at state k % modulus

abbrev pub invariant-loop-value : goal.invariant-loop-value
invariant-loop-value l = Filling (values l.modulus l.state) l.initial.out l.out l.value-index × (l.s ≡ stepped_by l.value-index l.state)
