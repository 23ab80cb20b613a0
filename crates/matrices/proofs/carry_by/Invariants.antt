use Prim.Native.Nat.{ℕ, ◌+◌, ◌*◌}
use mathlib.Core.Bool.{cond}
use mathlib.Core.List.{List}
use lib.Dec.{eqb}
use Rattle.residues.specs.Field.{cross_of}
use Rattle.lists.specs.Lists.{at}
use Rattle.matrices.proofs.Carrying.{Carrying}
use Rattle.matrices.proofs.carry_by.Given as goal

unfoldable pub step : ℕ → ℕ → ℕ → ℕ → List ℕ → List ℕ → ℕ → ℕ
step q cols i p T vs r = cond (eqb (at T (r * cols + p)) 0) (at vs r) (cross_of q (at T (i * cols + p)) (at vs r) (at T (r * cols + p)) (at vs i))

abbrev pub invariant-loop-r : goal.invariant-loop-r
invariant-loop-r l = Carrying (step l.q l.cols l.i l.p l.table l.initial.values) l.initial.values l.values l.r
