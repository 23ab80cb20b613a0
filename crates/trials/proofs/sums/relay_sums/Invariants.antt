-- The invariant: the sums written are those of the relays passed.
use mathlib.Core.List.{List}
use Prim.Native.Nat.{ℕ, ◌+◌, ◌*◌, ◌%◌}
use Rattle.lists.specs.Lists.{at}
use Rattle.lists.specs.Sums.{sum_to}
use Rattle.lists.proofs.Filling.{Filling}
use Rattle.plans.specs.declared.Plan.{Plan}
use Rattle.trials.proofs.sums.relay_sums.Given as goal

abbrev pub sum_of : Plan → List ℕ → ℕ → ℕ
sum_of P uploads u = sum_to P.size (λ v. at uploads (u * P.size + v)) % P.q

abbrev pub invariant-loop-u : goal.invariant-loop-u
invariant-loop-u l = Filling (sum_of l.plan l.uploads) l.initial.sums l.sums l.u
