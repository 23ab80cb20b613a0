-- The invariant: the powers written are those of the exponents passed.
use Rattle.residues.specs.Field.{power_of}
use Rattle.lists.proofs.Filling.{Filling}
use Rattle.keys.proofs.maker.fill_row.Given as goal

abbrev pub invariant-loop-k : goal.invariant-loop-k
invariant-loop-k l = Filling (power_of l.q l.base) l.initial.row l.row l.k
