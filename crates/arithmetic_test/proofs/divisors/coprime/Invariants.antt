-- Without a divisor of it a number is less.
use Rattle.arithmetic_test.proofs.divisors.coprime.Given as goal

abbrev pub decreases-loop-left : goal.decreases-loop-left
decreases-loop-left l = l.left
