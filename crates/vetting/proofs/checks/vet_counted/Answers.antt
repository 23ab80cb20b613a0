use mathlib.Core.Path.{◌∙◌}
use Rattle.vetting.proofs.JointLaws.{joint-none}
use Rattle.vetting.proofs.checks.vet_counted.Goals as goal

pub returns : goal.returns
returns c =
    let a = c.args in
    let same = joint-none a.plan a.table.now in record {
      code = c.vet_joint.ensures.code ∙ same.0;
      looked = c.vet_joint.ensures.looked ∙ same.1;
    }
