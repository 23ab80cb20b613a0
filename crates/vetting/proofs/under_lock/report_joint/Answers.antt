use mathlib.Core.Path.{sym, ap, ◌∙◌}
use Rattle.refusals.specs.Codes.{is_accepted}
use Rattle.refusals.proofs.CodeLaws.{refusal-refuses}
use Rattle.vetting.proofs.ExactSecrecy.{accepted-checked}
use Rattle.vetting.proofs.JointLaws.{joint-decides, quiet-looked, leaking-looked}
use Rattle.vetting.proofs.under_lock.report_joint.Goals as goal

pub judge_joint-verdict-requires : goal.judge_joint-verdict-requires
judge_joint-verdict-requires c = (accepted-checked c.args.plan c.args.table.now c.requires.0, c.requires.1)

pub returns-in-Ok : goal.returns-in-Ok
returns-in-Ok c =
    let a = c.args in record {
      code = c.judge_joint-verdict.ensures ∙ joint-decides a.plan a.table.now a.pair.first a.pair.second c.requires.0 c.requires.1;
      looked = c.requires.2 ∙ quiet-looked a.plan a.table.now a.pair.first a.pair.second c.requires.0 c.requires.1 c.in-Ok.ensures;
    }

pub returns-in-Err : goal.returns-in-Err
returns-in-Err c =
    let a = c.args in record {
      code = c.judge_joint-verdict.ensures ∙ joint-decides a.plan a.table.now a.pair.first a.pair.second c.requires.0 c.requires.1;
      looked = leaking-looked a.plan a.table.now a.pair.first a.pair.second c.requires.0 c.requires.1
          (ap is_accepted (sym c.in-Err.ensures) ∙ refusal-refuses c.in-Err.field-0);
    }
