use native.Mathlib.Nat.{mod-eq_of_lt}
use borrow.Author.Tests.{ne_eqb}
use Rattle.arithmetic.proofs.modular.reduce.Goals as goal

-- a number below q is its own remainder
pub returns-then-n-q : goal.returns-then-n-q
returns-then-n-q c = simp (ne_eqb _ _ c.if-q-eq0.false, mod-eq_of_lt c.if-n-q.true)
