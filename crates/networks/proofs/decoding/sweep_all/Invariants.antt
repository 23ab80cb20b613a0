use Rattle.networks.proofs.ValueLaws.{Swept}
use Rattle.networks.proofs.decoding.sweep_all.Given as goal

abbrev pub invariant-loop-j : goal.invariant-loop-j
invariant-loop-j l = Swept l.q l.rows l.cols l.first l.reported l.initial.table l.initial.values l.initial.units l.table l.values l.units l.j
