-- A half of what is left is less, as long as something is left.
use Rattle.arithmetic_test.proofs.counting.by_doubling.Given as goal

abbrev pub decreases-loop-left : goal.decreases-loop-left
decreases-loop-left l = l.left
