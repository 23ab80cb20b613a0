use mathlib.Core.Path.{sym}
use Prim.Native.Nat.{ℕ}
use native.Mathlib.Omega.{arith}
use Rattle.residues.proofs.PrimeLaws.{not-prime-false, divided}
use Rattle.testing.proofs.Symbols.{below_root, undivided-next, undivided-test}
use Rattle.testing.proofs.numbers.is_prime.Goals as goal

-- The invariant: nothing from 2 below d divides q. A divisor that is not above the root is below q.

pub loop-d-init : goal.loop-d-init
loop-d-init c = (omega arith, record { none = λ e h l z. omega arith })

pub nonzero_div-q : goal.nonzero_div-q
nonzero_div-q c = omega (arith, c.loop-d.invariant.0)

pub nonzero_rem-q : goal.nonzero_rem-q
nonzero_rem-q c = omega (arith, c.loop-d.invariant.0)

pub returns-then-q-d-eq0 : goal.returns-then-q-d-eq0
returns-then-q-d-eq0 c =
    let s = c.loop-d in
    let q : ℕ = c.args.q in
    sym (not-prime-false q (divided q s.d s.invariant.0 (below_root q s.d s.invariant.0 c.loop-d-test.true) c.if-q-d-eq0.true))

pub overflow_add-d : goal.overflow_add-d
overflow_add-d c = omega (arith, below_root _ c.loop-d.d c.loop-d.invariant.0 c.loop-d-test.true)

pub loop-d-smaller : goal.loop-d-smaller
loop-d-smaller c = omega (arith, below_root _ c.loop-d.d c.loop-d.invariant.0 c.loop-d-test.true)

pub loop-d-preserved : goal.loop-d-preserved
loop-d-preserved c =
    let s = c.loop-d in
    (omega (arith, s.invariant.0), undivided-next _ s.d s.invariant.1 c.if-q-d-eq0.false)

pub returns : goal.returns
returns c =
    let s = c.loop-d in
    undivided-test _ s.d s.invariant.0 c.loop-d-test.false s.invariant.1
