-- The invariant: nothing from 2 below d divides q. A divisor that is not above the root is below q.
use Prim.Native.Nat.{◌+◌, ◌-◌, ◌≤◌}
use Rattle.residues.proofs.PrimeLaws.{Undivided}
use Rattle.testing.proofs.numbers.is_prime.Given as goal

abbrev pub invariant-loop-d : goal.invariant-loop-d
invariant-loop-d l = (2 ≤ l.d) × Undivided l.q l.d

abbrev pub decreases-loop-d : goal.decreases-loop-d
decreases-loop-d l = l.q + 1 - l.d
