-- The invariant: n counts the large numbers before i.
use mathlib.Core.Path.{◌≡◌}
use Prim.Native.Nat.{◌≤◌}
use lib.Dec.{leb}
use Rattle.testing.specs.Numbers.{how_many}
use Rattle.testing.specs.Slices.{at}
use Rattle.testing.proofs.slices.count_large.Given as goal

abbrev pub invariant-loop-i : goal.invariant-loop-i
invariant-loop-i l = (l.n ≤ l.i) × (l.n ≡ how_many l.i (λ k. leb l.q (at l.t k)))
