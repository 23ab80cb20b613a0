use mathlib.Core.Path.{sym, ap, ◌∙◌}
use Rattle.refusals.specs.Codes.{code_of_result, is_accepted}
use Rattle.refusals.proofs.CodeLaws.{refusal-refuses}
use Rattle.vetting.specs.Joint.{joint_looked}
use Rattle.vetting.proofs.JointLaws.{joint-none, walk-refuses}
use Rattle.vetting.proofs.under_lock.with_joint.Goals as goal

pub returns-in_default-clause-looked : goal.returns-in_default-clause-looked
returns-in_default-clause-looked c =
    let a = c.args in
    c.requires.2 ∙ sym (joint-none a.plan a.table.now).1 ∙ ap (joint_looked a.plan a.table.now) (sym c.in_default.is)

pub returns-in-Err : goal.returns-in-Err
returns-in-Err c =
    let a = c.args in
    let same = walk-refuses a.plan a.table.now a.joint c.requires.0
    (ap is_accepted (sym c.requires.1 ∙ ap code_of_result c.in-Err.is) ∙ refusal-refuses c.in-Err.field-0) in record {
      code = c.requires.1 ∙ same.0;
      looked = c.requires.2 ∙ same.1;
    }
