-- The invariant: the sums written are those of the positions passed.
use mathlib.Core.List.{map}
use Rattle.lists.specs.Lists.{at}
use Rattle.lists.proofs.Filling.{Filling}
use Rattle.residues.specs.Field.{sum_of}
use Rattle.signed.specs.Numbers.{symbol_of}
use Rattle.signed.proofs.blocks.write_upload.Given as goal

abbrev pub invariant-loop-p : goal.invariant-loop-p
invariant-loop-p l = Filling (λ k. sum_of l.q (at (map (symbol_of l.q) l.readings) k) (at l.key k)) l.initial.out l.out l.p
