-- The invariant: the entries written are their own indices.
use Prim.Native.Nat.{ℕ}
use Rattle.lists.proofs.Filling.{Filling}
use Rattle.trials.proofs.draws.fill_order.Given as goal

abbrev pub own : ℕ → ℕ
own i = i

abbrev pub invariant-loop-i : goal.invariant-loop-i
invariant-loop-i l = Filling own l.initial.order l.order l.i
