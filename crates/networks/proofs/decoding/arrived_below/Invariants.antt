use Prim.Native.Nat.{ℕ}
use mathlib.Core.Path.{◌≡◌}
use mathlib.Core.Bool.{Bool, true, not}
use mathlib.Core.List.{List}
use mathlib.Core.Bool.{◌||◌}
use lib.Dec.{ltb}
use Rattle.lists.specs.Bits.{has_bit}
use Rattle.lists.specs.Search.{all_to}
use Rattle.lists.specs.Lists.{at}
use Rattle.networks.proofs.decoding.arrived_below.Given as goal

unfoldable pub test : ℕ → ℕ → List ℕ → ℕ → Bool
test q reported Y j = not (has_bit reported j) || ltb (at Y j) q

abbrev pub invariant-loop-j : goal.invariant-loop-j
invariant-loop-j l = all_to l.j (test l.q l.reported l.sums) ≡ true
