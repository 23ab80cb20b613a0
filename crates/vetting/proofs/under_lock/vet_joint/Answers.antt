use mathlib.Core.Path.{sym, ap, ◌∙◌}
use Rattle.refusals.specs.Codes.{is_accepted}
use Rattle.refusals.proofs.CodeLaws.{refusal-refuses}
use Rattle.vetting.proofs.JointLaws.{before-refuses}
use Rattle.vetting.proofs.under_lock.vet_joint.Goals as goal

pub returns-in-Err : goal.returns-in-Err
returns-in-Err c =
    let a = c.args in
    let refused = c.in-Err.ensures in
    let same = before-refuses a.plan a.table.now a.joint (ap is_accepted (sym refused) ∙ refusal-refuses c.in-Err.refusal) in record {
      code = refused ∙ same.0;
      looked = same.1;
    }
