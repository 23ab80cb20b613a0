use Rattle.residues.proofs.InverseLaws.{Euclid}
use Rattle.arithmetic.proofs.modular.inverse_mod.Given as goal

-- Euclid's: modulo q, a times t0 and t1 are r0 and r1
abbrev pub invariant-loop-r1 : goal.invariant-loop-r1
invariant-loop-r1 l = Euclid l.q l.a l.r0 l.r1 l.t0 l.t1

abbrev pub decreases-loop-r1 : goal.decreases-loop-r1
decreases-loop-r1 l = l.r1
