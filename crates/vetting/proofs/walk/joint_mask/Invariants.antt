-- The invariant: the users below i that are in one of the two clusters.
use mathlib.Core.Path.{◌≡◌}
use Rattle.vetting.specs.Walking.{joint_mask}
use Rattle.vetting.proofs.walk.joint_mask.Given as goal

abbrev pub invariant-loop-i : goal.invariant-loop-i
invariant-loop-i l = l.mask ≡ joint_mask l.size l.first l.second l.i
