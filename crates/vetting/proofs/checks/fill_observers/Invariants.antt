-- The invariant: the observers written are those of the places passed; the last is 0.
use Prim.Native.Nat.{ℕ, ◌+◌, ◌%◌}
use Rattle.lists.proofs.Filling.{Filling}
use Rattle.vetting.proofs.checks.fill_observers.Given as goal

-- the observer in place i of n
abbrev pub placed : ℕ → ℕ → ℕ
placed n i = (i + 1) % n

abbrev pub invariant-loop-i : goal.invariant-loop-i
invariant-loop-i l = Filling (placed l.n) l.initial.watching l.watching l.i
