-- The invariant: the sums of the clusters passed stand at the front.
use mathlib.Core.Path.{◌≡◌}
use Prim.Native.Nat.{◌*◌}
use lib.ListN.{take}
use Rattle.lists.specs.Lists.{tab, join_to}
use Rattle.vetting.specs.Walking.{cluster_sum}
use Rattle.vetting.proofs.walk.sum_rows.Given as goal

abbrev pub invariant-loop-u : goal.invariant-loop-u
invariant-loop-u l = take (l.u * l.rate) l.out ≡ join_to l.u (λ u. tab l.rate (cluster_sum l.q l.size l.rate l.table u))
