-- The invariant: the sum of the symbols passed, modulo q.
use mathlib.Core.Path.{◌≡◌}
use Prim.Native.Nat.{◌+◌, ◌*◌, ◌%◌}
use Rattle.lists.specs.Lists.{at}
use Rattle.lists.specs.Sums.{sum_to}
use Rattle.vetting.proofs.walk.cluster_sum.Given as goal

abbrev pub invariant-loop-v : goal.invariant-loop-v
invariant-loop-v l = l.sum ≡ sum_to l.v (λ v. at l.table ((l.u * l.size + v) * l.rate + l.k)) % l.q
