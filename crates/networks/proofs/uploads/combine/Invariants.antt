use Prim.Native.Nat.{ℕ, ◌*◌, ◌%◌}
use mathlib.Core.Path.{◌≡◌}
use mathlib.Core.List.{List, []}
use Rattle.lists.specs.Lists.{at}
use Rattle.lists.specs.Sums.{sum_to}
use Rattle.cyclic.specs.Network.{weight}
use Rattle.networks.specs.Rings.{network_of}
use Rattle.networks.specs.declared.Ring.{Ring}
use Rattle.networks.proofs.uploads.combine.Given as goal

unfoldable pub term : Ring → List ℕ → ℕ → ℕ → List ℕ → ℕ → ℕ
term R A k l w s = weight (network_of R [] A) k l s * at w s

abbrev pub invariant-loop-s : goal.invariant-loop-s
invariant-loop-s l = l.sum ≡ sum_to l.s (term l.ring l.weights l.k l.l l.reading) % l.ring.q
