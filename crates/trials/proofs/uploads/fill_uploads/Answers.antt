-- The invariant: the uploads written are those of the users passed.
use mathlib.Core.Path.{◌≡◌, refl, ap, ◌∙◌}
use Prim.Native.Nat.{ℕ, suc, ◌+◌, ◌-◌, ◌%◌, ◌≤◌}
use native.Mathlib.Nat.{add-sub_cancel_left}
use native.Mathlib.Omega.{arith}
use lib.ListN.{length}
use Rattle.lists.specs.Lists.{at}
use Rattle.lists.proofs.Filling.{filling-none, filling-next}
use Rattle.lists.proofs.Fronts.{length_part, part_at}
use Rattle.trials.proofs.MaskLaws.{some-symbols}
use Rattle.trials.proofs.RelayLaws.{handed-over, part-below}
use Rattle.trials.proofs.uploads.fill_uploads.Invariants.{sent}
use Rattle.trials.proofs.uploads.fill_uploads.Goals as goal

pub loop-i-init : goal.loop-i-init
loop-i-init c = filling-none _ _ 0 refl

pub upload-requires : goal.upload-requires
upload-requires c =
    let in-keys : suc c.loop-i.i ≤ length c.args.keys.now = omega (arith, c.loop-i-test.true, c.requires.2) in
    let s = c.loop-i in
    let w : ℕ = s.i + 1 - s.i in
    let one : w ≡ 1 = add-sub_cancel_left s.i 1 in
    let part : s.i + w ≤ length c.args.keys.now = omega (arith, in-keys) in (
      c.requires.0,
      c.requires.3 s.i,
      length_part w s.i c.args.keys.now part ∙ one,
      part-below c.args.plan.q w s.i c.args.keys.now (some-symbols c.args.plan c.args.cap c.requires.0) part c.requires.4,
    )

pub loop-i-preserved : goal.loop-i-preserved
loop-i-preserved c =
    let s = c.loop-i in
    let a = c.args in
    let w : ℕ = s.i + 1 - s.i in
    let e : s.i + 0 ≡ s.i = omega arith in
    filling-next (sent a.plan a.readings.now a.keys.now) _ s.uploads s.i c.in_ok-sent.field-0 s.invariant (omega (arith, c.loop-i-test.true, s.auto.uploads))
    (handed-over c.in_ok-sent.ensures
    ∙ ap (λ (x : ℕ). (at a.readings.now s.i + x) % a.plan.q)
    (part_at w s.i a.keys.now 0 (omega arith) ∙ ap (at a.keys.now) e))
