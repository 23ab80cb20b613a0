-- The invariant: those who have sent, with what is drawn of those who are owing, are all the senders.
use mathlib.Core.Path.{◌≡◌, refl, sym, ap, ap₂, ◌∙◌}
use mathlib.Core.List.{List, ◌++◌}
use Prim.Native.Nat.{ℕ, suc, ◌-◌, ◌%◌}
use native.Mathlib.Numerals.{add-one}
use native.Mathlib.Omega.{arith}
use lib.ListN.{length, take, drop}
use Rattle.trials.specs.Generator.{stepped, stepped_by}
use Rattle.trials.specs.Drawing.{senders_from}
use Rattle.trials.proofs.DrawLaws.{stepped-last, sender-more, all-sent}
use Rattle.trials.proofs.draws.draw_senders.Goals as goal

pub loop-j-init : goal.loop-j-init
unfolding stepped_by
loop-j-init c = let L : List ℕ = c.args.order.now in (refl, ap (λ (n : ℕ). senders_from c.args.state n L) (omega arith))

pub loop-j-preserved : goal.loop-j-preserved
loop-j-preserved c =
    let s = c.loop-j in
    let a = c.args in
    let h = c.loop-j-test.true in
    let w : ℕ = length s.order - s.j in
    let y : List ℕ = c.bring_forward.new.owing in
    let U : List ℕ = take s.j s.order ++ (y ++ drop w (drop s.j s.order)) in
    let moved : length U ≡ length s.order = c.order-1.given.1 in
    let state : c.next_state-s.result ≡ stepped s.s = c.next_state-s.ensures in (
      state ∙ ap stepped s.invariant.0 ∙ sym (stepped-last s.j a.state) ∙ ap (λ (n : ℕ). stepped_by n a.state) (sym (add-one s.j)),
      ap₂ (λ (i d : ℕ). take i U ++ senders_from c.next_state-s.result d (drop i U)) (add-one s.j) (omega (arith, s.auto.order, add-one s.j))
          ∙ ap (λ (n : ℕ). take (suc s.j) U ++ senders_from c.next_state-s.result (n - suc s.j) (drop (suc s.j) U)) (sym s.auto.order)
          ∙ sender-more (length s.order) s.j w s.s c.next_state-s.result (c.value_of.result % w) s.order y refl (omega (arith, h, s.auto.order)) refl state
          (ap (λ (x : ℕ). x % w) c.value_of.ensures) c.bring_forward.ensures
          ∙ ap (λ (n : ℕ). take s.j s.order ++ senders_from s.s (n - s.j) (drop s.j s.order)) s.auto.order
          ∙ s.invariant.1,
    )

pub returns-clause-order : goal.returns-clause-order
returns-clause-order c =
    let s = c.loop-j in
    let a = c.args in
    let L : List ℕ = a.order.now in
    let e : s.j ≡ length L = omega (arith, c.loop-j-test.false, s.invariant.0, s.auto.order) in
    sym (all-sent (length L) s.j s.s s.order e s.auto.order) ∙ s.invariant.1
