use mathlib.Core.Path.{ap, ◌∙◌}
use mathlib.Core.Bool.{Bool}
use mathlib.Core.List.{List}
use Rattle.refusals.specs.declared.Code.{Code}
use Rattle.refusals.specs.Codes.{first_of}
use Rattle.std.proofs.lemmas.Result.{err_from_is_err_and}
use Rattle.refusals.proofs.Orders.{first-refuses}
use Rattle.rounds.specs.Rounds.{open_checks}
use Rattle.rounds.specs.Relays.{relay_known, relay_contents}
use Rattle.rounds.proofs.RelayRound.check_state.Goals as goal

pub returns-in_err-check_opening : goal.returns-in_err-check_opening
returns-in_err-check_opening c =
    let R = c.args.self in
    let opening : Bool → List (Bool × Code) = open_checks R.round.clusters R.round.size R.round.q R.round.length in
    let p = err_from_is_err_and c.from_residual.result c.from_residual.ensures.1 in
    rw (p.1, p.2)
    (first-refuses (opening (relay_known R)) (relay_contents R) c.in_err-check_opening.field-0.0
    (c.in_err-check_opening.ensures ∙ ap (λ (known : Bool). first_of (opening known)) c.is_known-known.ensures))
