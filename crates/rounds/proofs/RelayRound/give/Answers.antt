use mathlib.Core.Path.{refl, sym, ap, ◌∙◌}
use mathlib.Core.List.{[], ◌++◌}
use lib.ListN.{length, take}
use Rattle.refusals.specs.declared.Code.{Code}
use Rattle.refusals.specs.Codes.{first_of, if_accepted, code_of_result}
use Rattle.refusals.proofs.CodeLaws.{refused-keeps}
use Rattle.refusals.proofs.Orders.{rest-decides, first-refuses}
use Rattle.rounds.specs.Rounds.{lent_checks}
use Rattle.rounds.specs.Relays.{relay_checks}
use Rattle.rounds.proofs.CheckLaws.{ready}
use Rattle.rounds.proofs.RelayRound.give.Goals as goal

pub returns-in-Err : goal.returns-in-Err
returns-in-Err c =
    let a = c.args in
    let R = a.self in
    let s = relay_checks R in
    let o = lent_checks R.round.size R.round [] (length a.out.now) in
    let e = first-refuses s o c.in-Err.refusal c.in-Err.ensures in (
      ap (λ s. code_of_result s.answer) c.refused.ensures ∙ e,
      sym (refused-keeps (first_of (s ++ o)) (take R.round.length R.round.sums) a.out.now c.in-Err.refusal e),
      ap (λ s. s.state) c.refused.ensures,
    )

pub hand_out-answer-requires : goal.hand_out-answer-requires
hand_out-answer-requires c = let r = ready c.args.self c.in-Ok.ensures in (r.few, r.here)

pub returns-in-Ok : goal.returns-in-Ok
returns-in-Ok c =
    let a = c.args in
    let R = a.self in
    let e = rest-decides (relay_checks R) (lent_checks R.round.size R.round [] (length a.out.now)) tt c.in-Ok.ensures in (
      c.hand_out-answer.ensures.code ∙ e,
      c.hand_out-answer.ensures.out ∙ ap (λ (d : Code). if_accepted d (take R.round.length R.round.sums) a.out.now) e,
      refl,
    )
