use Rattle.std.proofs.Common.{◌≡◌, suc, ◌+◌, drop, ap, arith, add-one}
use Rattle.matrices.specs.Tables.{pivot_of}
use Rattle.matrices.proofs.Steps.{pivot-miss, pivot-hit, pivot-end}
use Rattle.matrices.proofs.pivot.Goals as goal

pub returns-then-row-k-ne0 : goal.returns-then-row-k-ne0
returns-then-row-k-ne0 c =
    omega (arith, c.loop-k.invariant, pivot-hit c.args.row.now c.loop-k.k c.loop-k-test.true c.if-row-k-ne0.true)

pub loop-k-preserved : goal.loop-k-preserved
loop-k-preserved c =
    let r = c.args.row.now in
    let k = c.loop-k.k in
    let e : pivot_of (drop (k + 1) r) ≡ pivot_of (drop (suc k) r) = ap (λ n. pivot_of (drop n r)) (add-one k) in
    omega (arith, c.loop-k.invariant, e, pivot-miss r k c.loop-k-test.true c.if-row-k-ne0.false)

pub returns : goal.returns
returns c = omega (arith, c.loop-k.invariant, pivot-end c.args.row.now c.loop-k.k c.loop-k-test.false)
