-- The invariant: nothing differs up to i.
use mathlib.Core.Path.{◌≡◌}
use mathlib.Core.Bool.{true}
use lib.Dec.{eqb}
use Rattle.lists.specs.Search.{all_to}
use Rattle.testing.specs.Slices.{at}
use Rattle.testing.proofs.slices.same.Given as goal

abbrev pub invariant-loop-i : goal.invariant-loop-i
invariant-loop-i l = all_to l.i (λ k. eqb (at l.s k) (at l.t k)) ≡ true
