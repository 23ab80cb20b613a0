-- The invariant: the symbols passed are those of the sum.
use Rattle.lists.proofs.Filling.{Filling}
use Rattle.vetting.specs.Walking.{cluster_sum}
use Rattle.vetting.proofs.walk.sum_row.Given as goal

abbrev pub invariant-loop-k : goal.invariant-loop-k
invariant-loop-k l = Filling (cluster_sum l.q l.size l.rate l.table l.u) l.initial.out l.out l.k
