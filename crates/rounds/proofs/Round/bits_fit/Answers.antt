use Rattle.rounds.proofs.ReportedLaws.{none-above}
use Rattle.rounds.proofs.Round.bits_fit.Goals as goal

pub returns : goal.returns
returns c = none-above c.args.self.now.reported c.args.senders
