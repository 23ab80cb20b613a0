-- The invariant: the sum so far, which is below 32,768 for each reading passed.
use mathlib.Core.Path.{◌≡◌}
use Prim.Native.Nat.{◌*◌, ◌≤◌}
use Rattle.lists.specs.Lists.{at}
use Rattle.lists.specs.Sums.{sum_to}
use Rattle.trials.proofs.uploads.true_sum.Given as goal

abbrev pub invariant-loop-reading : goal.invariant-loop-reading
invariant-loop-reading l = (l.sum ≡ sum_to l.reading-index (at l.readings)) × (l.sum ≤ 32767 * l.reading-index)
