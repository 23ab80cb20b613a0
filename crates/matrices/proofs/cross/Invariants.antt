-- The invariant: what is written and the crossing of the rests are the crossing of the rows.
use mathlib.Core.Path.{◌≡◌}
use mathlib.Core.List.{◌++◌}
use lib.ListN.{length, take, drop}
use Rattle.matrices.specs.Tables.{crossed}
use Rattle.matrices.proofs.cross.Given as goal

abbrev pub invariant-loop-k : goal.invariant-loop-k
invariant-loop-k l = (length l.row ≡ length l.initial.row) × (take l.k l.row ++ crossed l.q l.y l.x (drop l.k l.row) (drop l.k l.s) ≡ crossed l.q l.y l.x l.initial.row l.s)
