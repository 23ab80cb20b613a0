use mathlib.Core.Path.{◌∙◌}
use mathlib.Core.Bool.{Bool, not}
use mathlib.Core.List.{List, [], ◌∷◌}
use native.Mathlib.Omega.{arith}
use Prim.Native.Nat.{◌*◌}
use lib.ListN.{take}
use Rattle.std.proofs.lemmas.Result.{err_from_is_err_and}
use Rattle.refusals.specs.declared.Code.{Code}
use Rattle.refusals.specs.Codes.{code}
use Rattle.refusals.proofs.Orders.{first-refuses}
use Rattle.plans.proofs.PlanBounds.{bounds-known, few-numbers}
use Rattle.vetting.specs.Vet.{vet_checks}
use Rattle.signed.specs.Caps.{cap_fits}
use Rattle.plans.specs.Plans.{users_of}
use Rattle.trials.proofs.MaskLaws.{cap-judged}
use Rattle.simulation.proofs.input.judge.Goals as goal

pub returns-in_err-show_totals : goal.returns-in_err-show_totals
returns-in_err-show_totals c =
    let a = c.args in
    let own : List (Bool × Code) = (not (cap_fits a.plan a.cap), code 16) ∷ [] in
    let p = err_from_is_err_and c.from_residual.result c.from_residual.ensures.1 in
    rw (p.1, p.2)
    (first-refuses own (vet_checks a.plan (take (users_of a.plan * a.plan.rate) a.table.now)) c.in_err-show_totals.field-0.0
    (c.in_err-show_totals.ensures.code ∙ cap-judged a.plan a.cap c.requires.0 c.requires.1))

pub shared_ref_as_front-vet : goal.shared_ref_as_front-vet
shared_ref_as_front-vet c = omega (arith, few-numbers (bounds-known c.args.plan c.requires.0))
