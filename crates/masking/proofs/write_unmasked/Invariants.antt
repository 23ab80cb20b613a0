-- The invariant: the differences written are those of the positions passed.
use Rattle.residues.specs.Field.{difference_of}
use Rattle.lists.specs.Lists.{at}
use Rattle.lists.proofs.Filling.{Filling}
use Rattle.masking.proofs.write_unmasked.Given as goal

abbrev pub invariant-loop-p : goal.invariant-loop-p
invariant-loop-p l = Filling (λ k. difference_of l.q (at l.upload k) (at l.key k)) l.initial.out l.out l.p
