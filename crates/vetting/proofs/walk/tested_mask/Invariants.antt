-- The invariant: the clusters with outsiders that were passed, and those of them before the last.
use mathlib.Core.Path.{◌≡◌}
use Rattle.vetting.specs.Walking.{outsider_mask, tested_mask}
use Rattle.vetting.proofs.walk.tested_mask.Given as goal

abbrev pub invariant-loop-u : goal.invariant-loop-u
invariant-loop-u l =
    (l.seen ≡ outsider_mask l.size l.g l.u) × (l.tested ≡ tested_mask l.size l.g l.u)
