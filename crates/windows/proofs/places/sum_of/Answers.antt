use mathlib.Core.Path.{refl}
use native.Mathlib.Omega.{arith}
use lib.ListN.{take}
use Rattle.windows.specs.Runs.{sum_of}
use Rattle.windows.proofs.RunLaws.{added}
use Rattle.windows.proofs.places.sum_of.Goals as goal

pub loop-total-init : goal.loop-total-init
unfolding sum_of
loop-total-init c = record { is = refl; small = omega arith }

pub overflow_add-sum : goal.overflow_add-sum
overflow_add-sum c =
    let s = c.loop-total in
    (added (take c.args.held c.args.totals.now) s.total-index _ c.loop-total-test.true (omega arith) (omega arith) s.invariant.is s.invariant.small).fits

pub loop-total-preserved : goal.loop-total-preserved
loop-total-preserved c =
    let s = c.loop-total in
    let next = added (take c.args.held c.args.totals.now) s.total-index _ c.loop-total-test.true (omega arith) (omega arith) s.invariant.is s.invariant.small in
    record { is = next.is; small = next.small }
