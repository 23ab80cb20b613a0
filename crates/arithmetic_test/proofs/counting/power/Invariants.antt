-- Each digit's place is lower than the one before.
use Rattle.arithmetic_test.proofs.counting.power.Given as goal

abbrev pub decreases-loop-place : goal.decreases-loop-place
decreases-loop-place l = l.place
