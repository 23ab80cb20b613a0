use mathlib.Core.List.{List, [], ◌∷◌}
use mathlib.Core.Path.{◌≡◌, sym, ap, ◌∙◌}
use mathlib.Core.Bool.{Bool, true, false, cond, not}
use Rattle.std.specs.Prelude.{Result, Ok, Err}
use Rattle.std.proofs.lemmas.Result.{err_from_is_err_and}
use Rattle.refusals.specs.declared.Code.{Code}
use Rattle.refusals.specs.declared.Refusal.{Refusal}
use Rattle.refusals.specs.declared.Refusal.TheVariants.{NotFull, OtherRound}
use Rattle.refusals.specs.Codes.{code, accepted, code_of_result, first_of}
use Rattle.refusals.proofs.CodeLaws.{held}
use Rattle.refusals.proofs.Orders.{first-refuses, rest-decides}
use Rattle.rounds.specs.declared.RelayRound.{RelayRound}
use Rattle.rounds.specs.Rounds.{is_full}
use Rattle.rounds.specs.Relays.{relay_checks, has_next}
use Rattle.rounds.proofs.RelayRound.check_advance.Goals as goal

-- what is left of the checks once the state is good
abbrev rest : RelayRound → List (Bool × Code)
rest R = (not (has_next R.round.number), code 14) ∷ (not (is_full R.round.size R.round []), code 12) ∷ []

pub returns-in_err-check_state : goal.returns-in_err-check_state
returns-in_err-check_state c =
    let R = c.args.self in
    let p = err_from_is_err_and c.from_residual.result c.from_residual.ensures.1 in
    rw (p.1, p.2) (first-refuses (relay_checks R) (rest R) c.in_err-check_state.field-0.0 c.in_err-check_state.ensures)

-- what the last check answers
told : (b : Bool) (v : Result (Unit {0}) Refusal) → v ≡ cond b (Ok tt) (Err NotFull) → code_of_result v ≡ cond (not b) (code 12) accepted
told true v e = ap code_of_result e
told false v e = ap code_of_result e

pub returns : goal.returns
returns c =
    let R = c.args.self in
    let next : has_next R.round.number ≡ true = held _ tt OtherRound c.in_ok-refuse_unless.ensures in
    let full : is_full R.round.size R.round [] ≡ c.is_full.result = sym c.is_full.ensures in
    let here : code_of_result c.refuse_unless-2.result ≡ first_of (rest R) =
    told c.is_full.result c.refuse_unless-2.result c.refuse_unless-2.ensures ∙ sym (rw (next, full)) in
    here ∙ rest-decides (relay_checks R) (rest R) tt c.in_ok-check_state.ensures
