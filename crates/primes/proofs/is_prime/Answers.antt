use mathlib.Core.Path.{sym, ◌∙◌}
use native.Mathlib.Omega.{arith}
use borrow.Author.Tests.{ne_eqb}
use Rattle.residues.proofs.PrimeLaws.{not-prime-false, divided}
use Rattle.primes.proofs.is_prime.Goals as goal

pub returns-else-q-eq1 : goal.returns-else-q-eq1
returns-else-q-eq1 c =
    ne_eqb _ _ c.if-q-eq1.false
    ∙ sym (not-prime-false _ (divided _ 2 (omega arith) (omega (arith, c.if-q-lt-SMALL.false)) (omega (arith, c.if-q-eq1.false))))
