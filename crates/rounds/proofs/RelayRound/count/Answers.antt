use mathlib.Core.Path.{sym, ap, ◌∙◌}
use mathlib.Core.List.{[], ◌++◌}
use Rattle.refusals.specs.Codes.{first_of, code_of_result}
use Rattle.refusals.proofs.CodeLaws.{refused-keeps}
use Rattle.refusals.proofs.Orders.{first-refuses}
use Rattle.rounds.specs.Ledger.{frame}
use Rattle.rounds.specs.Rounds.{own_checks}
use Rattle.rounds.specs.Relays.{round_for, relay_checks, relay_counted}
use Rattle.rounds.proofs.RelayRound.count.Goals as goal

pub returns-in-Err-clause-code : goal.returns-in-Err-clause-code
returns-in-Err-clause-code c =
    let a = c.args in
    let R = a.self in
    let f = frame a.sender a.number a.block.now in
    ap (λ s. code_of_result s.answer) c.refused.ensures
    ∙ first-refuses (relay_checks R) (own_checks R.round.size (round_for R f) [] f) c.in-Err.refusal c.in-Err.ensures

pub returns-in-Err-clause-round : goal.returns-in-Err-clause-round
returns-in-Err-clause-round c =
    let a = c.args in
    let R = a.self in
    let f = frame a.sender a.number a.block.now in
    let s = relay_checks R in
    let o = own_checks R.round.size (round_for R f) [] f in
    ap (λ s. s.state) c.refused.ensures
    ∙ sym (refused-keeps (first_of (s ++ o)) (relay_counted R f) R c.in-Err.refusal (first-refuses s o c.in-Err.refusal c.in-Err.ensures))
