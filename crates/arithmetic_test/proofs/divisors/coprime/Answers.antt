use Rattle.std.proofs.Common.{div-le_self, arith}
use native.Mathlib.Nat.{div-lt_self}
use Rattle.arithmetic_test.proofs.divisors.coprime.Goals as goal

pub overflow_sub-count : goal.overflow_sub-count
overflow_sub-count c = div-le_self _ _

pub loop-left-smaller-then-left-p-ne0 : goal.loop-left-smaller-then-left-p-ne0
loop-left-smaller-then-left-p-ne0 c = div-lt_self (omega arith) (omega arith)

pub loop-left-smaller : goal.loop-left-smaller
loop-left-smaller c = div-lt_self (omega arith) (omega arith)
