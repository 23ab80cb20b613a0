use Rattle.std.proofs.Common.{◌≡◌, ◌/◌, ◌%◌, ◌^◌, ◌<◌}
use Rattle.primes.proofs.power_of_two.Given as goal

-- x is 2 to the power of the bits passed, modulo q
abbrev pub invariant-loop-s : goal.invariant-loop-s
invariant-loop-s l = (l.x < l.q) × (l.x ≡ 2 ^ (l.e / 2 ^ l.s) % l.q)
