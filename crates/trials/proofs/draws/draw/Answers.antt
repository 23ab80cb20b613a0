-- The invariant: the values written are those of the states passed.
use mathlib.Core.Path.{◌≡◌, refl, sym, ap, ◌∙◌}
use Prim.Native.Nat.{ℕ, suc, ◌%◌}
use native.Mathlib.Numerals.{add-one}
use native.Mathlib.Omega.{arith}
use Rattle.lists.proofs.Filling.{filling-none, filling-next}
use Rattle.trials.specs.Generator.{stepped, value_of, stepped_by}
use Rattle.trials.proofs.DrawLaws.{stepped-last}
use Rattle.trials.proofs.draws.draw.Invariants.{values}
use Rattle.trials.proofs.draws.draw.Goals as goal

pub loop-value-init : goal.loop-value-init
unfolding stepped_by
loop-value-init c = (filling-none _ _ 0 refl, refl)

pub loop-value-preserved : goal.loop-value-preserved
loop-value-preserved c =
    let next : (let s = c.loop-value in c.next_state-s.result ≡ stepped_by (suc s.value-index) c.args.state) = let s = c.loop-value in
    let a = c.args in
    c.next_state-s.ensures ∙ ap stepped s.invariant.1 ∙ sym (stepped-last s.value-index a.state) in
    let s = c.loop-value in
    let a = c.args in (
      filling-next (values a.modulus a.state) _ s.out s.value-index (c.value_of.result % a.modulus) s.invariant.0
          (omega (arith, c.loop-value-test.true, s.auto.out))
          (ap (λ (v : ℕ). v % a.modulus) (c.value_of.ensures ∙ ap value_of next)),
      next ∙ ap (λ (n : ℕ). stepped_by n a.state) (sym (add-one s.value-index)),
    )
