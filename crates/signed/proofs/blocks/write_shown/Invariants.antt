-- The invariant: the numbers written are those of the positions passed.
use Rattle.lists.specs.Lists.{at}
use Rattle.lists.proofs.Filling.{Filling}
use Rattle.residues.specs.Field.{difference_of}
use Rattle.signed.specs.Numbers.{shown_of}
use Rattle.signed.proofs.blocks.write_shown.Given as goal

abbrev pub invariant-loop-p : goal.invariant-loop-p
invariant-loop-p l = Filling (λ k. shown_of l.q (difference_of l.q (at l.upload k) (at l.key k))) l.initial.out l.out l.p
