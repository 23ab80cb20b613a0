use mathlib.Core.Path.{◌∙◌}
use mathlib.Core.Bool.{Bool, not}
use mathlib.Core.List.{List, [], ◌∷◌}
use Rattle.refusals.specs.declared.Code.{Code}
use Rattle.refusals.specs.Codes.{code}
use Rattle.refusals.proofs.Orders.{first-refuses, rest-decides}
use Rattle.plans.specs.Plans.{table_checks}
use Rattle.signed.specs.Caps.{cap_fits}
use Rattle.trials.proofs.MaskLaws.{cap-told}
use Rattle.std.proofs.lemmas.Result.{err_from_is_err_and}
use Rattle.trials.proofs.trials.check_trial.Goals as goal

pub returns : goal.returns
returns c =
    let own : List (Bool × Code) = (not (cap_fits c.args.plan c.args.cap), code 16) ∷ [] in
    c.show_totals.ensures.code
    ∙ cap-told c.args.plan c.args.table.now c.args.cap
    c.in_ok-check_plan.ensures
    ∙ rest-decides (table_checks c.args.plan c.args.table.now) own tt c.in_ok-check_plan.ensures

pub returns-in_err-check_plan : goal.returns-in_err-check_plan
returns-in_err-check_plan c =
    let own : List (Bool × Code) = (not (cap_fits c.args.plan c.args.cap), code 16) ∷ [] in
    let p = err_from_is_err_and c.from_residual.result c.from_residual.ensures.1 in
    rw (p.1, p.2) (first-refuses (table_checks c.args.plan c.args.table.now) own c.in_err-check_plan.field-0.0 c.in_err-check_plan.ensures)
