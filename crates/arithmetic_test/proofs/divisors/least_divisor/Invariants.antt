-- The odd numbers of 16 bits are counted.
use Rattle.std.proofs.Common.{◌-◌, ◌≤◌}
use Rattle.arithmetic_test.proofs.divisors.least_divisor.Given as goal

abbrev pub invariant-loop-d : goal.invariant-loop-d
invariant-loop-d l = 2 ≤ l.d

abbrev pub decreases-loop-d : goal.decreases-loop-d
decreases-loop-d l = 65536 - l.d
