-- The next multiple is nearer to the end of the table.
use Rattle.std.proofs.Common.{◌-◌}
use Rattle.arithmetic_test.proofs.divisors.count_multiples.Given as goal

abbrev pub decreases-loop-multiple : goal.decreases-loop-multiple
decreases-loop-multiple l = 65536 - l.multiple
