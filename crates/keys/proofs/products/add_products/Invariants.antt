-- The invariant: the sums passed have one product more, and the others are as they were.
use Rattle.std.proofs.Common.{ℕ, ◌+◌, ◌*◌, ◌%◌, List}
use Rattle.lists.specs.Lists.{at}
use Rattle.lists.proofs.InPlace.{InPlace}
use Rattle.keys.proofs.products.add_products.Given as goal

-- the sum of a position with the product
abbrev pub more : ℕ → ℕ → List ℕ → List ℕ → ℕ → ℕ
more q a symbols sums p = (at sums p + a * at symbols p) % q

abbrev pub invariant-loop-p : goal.invariant-loop-p
invariant-loop-p l = InPlace (more l.q l.a l.symbols l.initial.sums) l.initial.sums l.sums l.p
