-- The invariant: the rows chosen among those passed stand at the front.
use mathlib.Core.Path.{◌≡◌}
use Prim.Native.Nat.{◌*◌}
use lib.ListN.{take}
use Rattle.matrices.specs.Tables.{row_of}
use Rattle.lists.specs.Lists.{picked}
use Rattle.lists.specs.Sums.{how_many}
use Rattle.vetting.specs.Walking.{chosen}
use Rattle.vetting.proofs.walk.gather.Given as goal

abbrev pub invariant-loop-i : goal.invariant-loop-i
invariant-loop-i l =
    (l.n ≡ how_many l.i (chosen l.watch l.skip))
    × (take (l.n * l.cols) l.out ≡ picked l.i (chosen l.watch l.skip) (row_of l.cols l.table))
