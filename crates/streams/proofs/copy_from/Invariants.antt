-- The invariant: the symbols written are the first of those drawn.
use lib.ListN.{length}
use Rattle.lists.proofs.Fronts.{Front}
use Rattle.streams.specs.Streams.{drawn}
use Rattle.streams.proofs.copy_from.Given as goal

abbrev pub invariant-loop-i : goal.invariant-loop-i
invariant-loop-i l = Front l.initial.out (drawn l.stream l.at (length l.initial.out)) l.out l.i
