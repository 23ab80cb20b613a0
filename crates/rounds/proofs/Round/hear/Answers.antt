use mathlib.Core.Path.{sym, ap, ◌∙◌}
use mathlib.Core.List.{[], ◌∷◌}
use Rattle.refusals.proofs.CodeLaws.{accepted-takes}
use Rattle.rounds.specs.Ledger.{frame}
use Rattle.rounds.specs.Rounds.{after}
use Rattle.rounds.specs.Machine.{hear_code}
use Rattle.rounds.proofs.CheckLaws.{own-known}
use Rattle.rounds.proofs.StepLaws.{counted_is}
use Rattle.rounds.proofs.Round.hear.Goals as goal

pub returns-in-Ok-clause-round : goal.returns-in-Ok-clause-round
returns-in-Ok-clause-round c =
    let a = c.args in
    let f = frame a.sender a.number a.block.now in
    ap (λ s. s.state) c.made.ensures
    ∙ c.counted.ensures
    ∙ counted_is a.senders a.self f (own-known a.senders a.self [] f c.requires.1 c.in-Ok.ensures)
    ∙ sym (accepted-takes (hear_code a.senders a.self f) (after a.self (f ∷ [])) a.self c.in-Ok.ensures)
