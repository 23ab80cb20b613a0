-- The invariant: the sets of k, and those of at most k.
use mathlib.Core.Path.{◌≡◌}
use Prim.Native.Nat.{◌+◌}
use Rattle.lists.specs.Sums.{sum_to, binomial}
use Rattle.vetting.proofs.length.sets_up_to.Given as goal

abbrev pub invariant-loop-k : goal.invariant-loop-k
invariant-loop-k l = (l.sets ≡ binomial l.n l.k) × (l.sum ≡ sum_to (l.k + 1) (binomial l.n))
