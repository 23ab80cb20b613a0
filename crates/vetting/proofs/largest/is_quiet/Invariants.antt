-- The invariant: the observers before w see nothing.
use mathlib.Core.Path.{◌≡◌}
use mathlib.Core.Bool.{Bool, true}
use mathlib.Core.List.{List}
use Prim.Native.Nat.{ℕ, ◌+◌, ◌*◌}
use Rattle.lists.specs.Search.{all_to}
use Rattle.plans.specs.Plans.{plan}
use Rattle.vetting.specs.Walking.{level_at}
use Rattle.vetting.specs.Growing.{quiet_to}
use Rattle.vetting.proofs.largest.is_quiet.Given as goal

abbrev pub test : ℕ → ℕ → ℕ → ℕ → ℕ → ℕ → List ℕ → ℕ → Bool
test q clusters size cols k g L = quiet_to (plan clusters size 0 cols q) g (level_at ((clusters * size + clusters) * cols) L k)

abbrev pub invariant-loop-w : goal.invariant-loop-w
invariant-loop-w l = all_to l.w (test l.q l.clusters l.size l.cols l.k l.g l.levels) ≡ true
