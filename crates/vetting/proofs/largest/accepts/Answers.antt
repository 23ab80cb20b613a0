use mathlib.Core.Path.{sym, ap, ◌∙◌}
use Rattle.refusals.specs.Codes.{is_accepted}
use Rattle.refusals.proofs.CodeLaws.{refusal-refuses}
use Rattle.residues.proofs.PrimeLaws.{prime-pos}
use Rattle.vetting.proofs.VetLaws.{passed}
use Rattle.vetting.proofs.ByGrowing.{grown-is, refused-others}
use Rattle.vetting.proofs.largest.accepts.Goals as goal

pub largest_pass-requires : goal.largest_pass-requires
largest_pass-requires c =
    let p = passed c.args.plan c.args.table.now c.in-Ok.ensures in
    (p.bounds, p.size, prime-pos p.prime)

pub returns-in-Ok : goal.returns-in-Ok
returns-in-Ok c = c.largest_pass.ensures ∙ grown-is c.args.plan c.args.table.now c.in-Ok.ensures

pub returns-in-Err : goal.returns-in-Err
returns-in-Err c =
    sym (refused-others c.args.plan c.args.table.now (ap is_accepted (sym c.in-Err.ensures) ∙ refusal-refuses c.in-Err.field-0))
