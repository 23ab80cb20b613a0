use Prim.Native.Nat.{ℕ, ◌+◌, ◌*◌, ◌%◌}
use mathlib.Core.Path.{◌≡◌}
use Rattle.networks.specs.Rings.{network_of}
use Rattle.cyclic.specs.Network.{Network, heard, weight}
use Rattle.lists.specs.Lists.{at}
use Rattle.lists.specs.Sums.{sum_to}
use Rattle.networks.proofs.grids.source_at.Given as goal

unfoldable pub term : Network → ℕ → ℕ → ℕ → ℕ
term C j s l = weight C (heard C j l) l C.parts * at C.table (heard C j l * C.rate + s)

abbrev pub invariant-loop-l : goal.invariant-loop-l
invariant-loop-l l = l.sum ≡ sum_to l.l (term (network_of l.ring l.table l.weights) l.j l.s) % l.ring.q
