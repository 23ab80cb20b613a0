use Rattle.matrices_test.proofs.numbers.power.Given as goal

abbrev pub decreases-loop-left : goal.decreases-loop-left
decreases-loop-left l = l.left
