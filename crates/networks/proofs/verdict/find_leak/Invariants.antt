use Prim.Native.Nat.{◌-◌}
use mathlib.Core.Path.{◌≡◌}
use Rattle.refusals.specs.Codes.{first_of}
use Rattle.networks.specs.Rings.{network_of, leak_checks}
use Rattle.networks.proofs.verdict.find_leak.Given as goal

abbrev pub invariant-loop-j : goal.invariant-loop-j
invariant-loop-j l =
    first_of (leak_checks (network_of l.ring l.table l.weights) (l.ring.size - l.j) l.j)
    ≡ first_of (leak_checks (network_of l.ring l.table l.weights) l.ring.size 0)
