use mathlib.Core.Path.{◌∙◌}
use Rattle.rounds.proofs.ReportedLaws.{full-mask}
use Rattle.rounds.proofs.StepLaws.{heard-bits}
use Rattle.rounds.proofs.Round.is_full.Goals as goal

pub returns : goal.returns
returns c =
    full-mask c.args.self.now.reported c.args.senders c.requires.0 c.requires.1 ∙ heard-bits c.args.senders c.args.self.now
