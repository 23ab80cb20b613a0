use Rattle.residues.specs.Field.{opposite_of, product_of, inverse_of}
use Rattle.lists.specs.Lists.{at}
use Rattle.lists.proofs.Filling.{Filling}
use Rattle.networks.proofs.decoding.write_totals.Given as goal

abbrev pub invariant-loop-s : goal.invariant-loop-s
invariant-loop-s l = Filling (λ s. product_of l.q (opposite_of l.q (at l.values s)) (inverse_of l.q (at l.units s))) l.initial.out l.out l.s
