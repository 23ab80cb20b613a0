use Rattle.std.proofs.Common.{sym, ◌∙◌}
use Rattle.refusals.proofs.Orders.{number-accepts}
use Rattle.vetting.specs.Vet.{vet_checks}
use Rattle.vetting.proofs.PlanLaws.{vet-numbered}
use Rattle.keys.proofs.verdict.verdict_on.Goals as goal

pub returns-then-accepts : goal.returns-then-accepts
returns-then-accepts c =
    let a = c.args in
    number-accepts (vet_checks a.plan a.table.now) (vet-numbered a.plan a.table.now) (sym c.accepts.ensures ∙ c.if-accepts.true)
