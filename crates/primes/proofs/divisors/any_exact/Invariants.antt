use mathlib.Core.Bool.{◌||◌}
use Rattle.std.proofs.Common.{◌≡◌, drop}
use Rattle.primes.specs.Trying.{some_exact}
use Rattle.primes.proofs.divisors.any_exact.Given as goal

-- what was found, or is found from i on, is the answer
abbrev pub invariant-loop-i : goal.invariant-loop-i
invariant-loop-i l = (l.found || some_exact l.q (drop l.i l.inverses) (drop l.i l.limits)) ≡ some_exact l.q l.inverses l.limits
