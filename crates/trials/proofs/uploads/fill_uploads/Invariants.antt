-- The invariant: the uploads written are those of the users passed.
use mathlib.Core.List.{List}
use Prim.Native.Nat.{ℕ, ◌+◌, ◌%◌}
use Rattle.lists.specs.Lists.{at}
use Rattle.lists.proofs.Filling.{Filling}
use Rattle.plans.specs.declared.Plan.{Plan}
use Rattle.trials.proofs.uploads.fill_uploads.Given as goal

abbrev pub sent : Plan → List ℕ → List ℕ → ℕ → ℕ
sent P readings keys i = (at readings i + at keys i) % P.q

abbrev pub invariant-loop-i : goal.invariant-loop-i
invariant-loop-i l = Filling (sent l.plan l.readings l.keys) l.initial.uploads l.uploads l.i
