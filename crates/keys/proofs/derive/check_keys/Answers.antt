use Rattle.std.proofs.Common.{◌∙◌}
use Rattle.std.proofs.lemmas.Result.{err_from_is_err_and}
use Rattle.refusals.proofs.Orders.{first-refuses}
use Rattle.vetting.specs.Vet.{vet_checks}
use Rattle.keys.specs.Keys.{block_checks}
use Rattle.keys.proofs.KeyLaws.{blocks-decide}
use Rattle.keys.proofs.derive.check_keys.Goals as goal

pub returns-in_err-verdict_on : goal.returns-in_err-verdict_on
returns-in_err-verdict_on c =
    let a = c.args in
    let p = err_from_is_err_and c.from_residual.result c.from_residual.ensures.1 in
    rw (p.1, p.2)
    (first-refuses (vet_checks a.plan a.table.now) (block_checks a.plan a.length a.source.now a.keys.now) c.in_err-verdict_on.field-0.0
    c.in_err-verdict_on.ensures)

pub returns : goal.returns
returns c =
    let a = c.args in
    c.check_blocks.ensures ∙ blocks-decide a.plan a.table.now a.length a.source.now a.keys.now c.in_ok-verdict_on.ensures
