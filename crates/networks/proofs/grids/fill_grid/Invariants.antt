use Prim.Native.Nat.{ℕ, ◌+◌, ◌/◌, ◌%◌}
use Rattle.cyclic.specs.Network.{Network}
use Rattle.networks.specs.Rings.{network_of}
use Rattle.networks.specs.Grids.{entry_of}
use Rattle.lists.proofs.Filling.{Filling}
use Rattle.networks.proofs.grids.fill_grid.Given as goal

unfoldable pub cell : Network → ℕ → ℕ → ℕ → ℕ → ℕ → ℕ
cell C w first from width t = entry_of C w (first + t / width) (from + t % width)

abbrev pub invariant-loop-t : goal.invariant-loop-t
invariant-loop-t l =
    Filling (cell (network_of l.ring l.table l.weights) l.w l.first l.from l.width) l.initial.out l.out l.t
