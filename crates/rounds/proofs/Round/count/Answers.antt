use mathlib.Core.Path.{sym, ap, ◌∙◌}
use mathlib.Core.List.{[], ◌∷◌, ◌++◌}
use Rattle.refusals.specs.declared.Code.{Code}
use Rattle.refusals.specs.Codes.{if_accepted, first_of, code_of_result}
use Rattle.refusals.proofs.CodeLaws.{refused-keeps}
use Rattle.refusals.proofs.Orders.{rest-decides, first-refuses}
use Rattle.rounds.specs.Ledger.{frame}
use Rattle.rounds.specs.Rounds.{state_checks, own_checks, after}
use Rattle.rounds.proofs.CheckLaws.{good-state}
use Rattle.rounds.proofs.Round.count.Goals as goal

pub hear-requires : goal.hear-requires
hear-requires c =
    let a = c.args in
    let good = good-state a.senders a.known a.self c.in-Ok.ensures in
    (c.requires good.opening.fit, good)

pub returns-in-Ok-clause-code : goal.returns-in-Ok-clause-code
returns-in-Ok-clause-code c =
    let a = c.args in
    c.hear.ensures.code
    ∙ rest-decides (state_checks a.senders a.known a.self) (own_checks a.senders a.self [] (frame a.sender a.number a.block.now)) tt c.in-Ok.ensures

pub returns-in-Ok-clause-round : goal.returns-in-Ok-clause-round
returns-in-Ok-clause-round c =
    let a = c.args in
    let f = frame a.sender a.number a.block.now in
    c.hear.ensures.round
    ∙ ap (λ (d : Code). if_accepted d (after a.self (f ∷ [])) a.self)
    (rest-decides (state_checks a.senders a.known a.self) (own_checks a.senders a.self [] f) tt c.in-Ok.ensures)

pub returns-in-Err-clause-code : goal.returns-in-Err-clause-code
returns-in-Err-clause-code c =
    let a = c.args in
    ap (λ s. code_of_result s.answer) c.refused.ensures
    ∙ first-refuses (state_checks a.senders a.known a.self) (own_checks a.senders a.self [] (frame a.sender a.number a.block.now))
    c.in-Err.refusal c.in-Err.ensures

pub returns-in-Err-clause-round : goal.returns-in-Err-clause-round
returns-in-Err-clause-round c =
    let a = c.args in
    let f = frame a.sender a.number a.block.now in
    let s = state_checks a.senders a.known a.self in
    let o = own_checks a.senders a.self [] f in
    ap (λ s. s.state) c.refused.ensures
    ∙ sym (refused-keeps (first_of (s ++ o)) (after a.self (f ∷ [])) a.self c.in-Err.refusal (first-refuses s o c.in-Err.refusal c.in-Err.ensures))
