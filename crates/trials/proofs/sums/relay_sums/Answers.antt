-- The invariant: the sums written are those of the relays passed.
use mathlib.Core.Path.{◌≡◌, refl, ap, ◌∙◌}
use Prim.Native.Nat.{◌+◌, ◌-◌}
use native.Mathlib.Omega.{arith}
use Rattle.lists.proofs.Filling.{filling-none, filling-next}
use Rattle.trials.proofs.sums.relay_sums.Invariants.{sum_of}
use Rattle.trials.proofs.RelayLaws.{handed-over}
use Rattle.trials.proofs.sums.relay_sums.Goals as goal

pub loop-u-init : goal.loop-u-init
loop-u-init c = filling-none _ _ 0 refl

pub loop-u-preserved : goal.loop-u-preserved
loop-u-preserved c =
    let s = c.loop-u in
    let a = c.args in
    let e : s.u + 1 - 1 ≡ s.u = omega arith in
    filling-next (sum_of a.plan a.uploads.now) _ s.sums s.u c.in_ok-sum.field-0 s.invariant (omega (arith, c.loop-u-test.true, s.auto.sums))
    (handed-over c.in_ok-sum.ensures ∙ ap (sum_of a.plan a.uploads.now) e)
