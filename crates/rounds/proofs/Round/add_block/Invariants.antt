use mathlib.Core.Path.{◌≡◌}
use lib.ListN.{length}
use Rattle.rounds.specs.Machine.{with_sums, added_to}
use Rattle.plans.specs.Plans.{max_length}
use Rattle.rounds.proofs.Round.add_block.Given as goal

abbrev pub invariant-loop-p : goal.invariant-loop-p
invariant-loop-p l = (length l.initial.self.sums ≡ max_length) × (l.self ≡ with_sums l.initial.self (added_to l.initial.self.q l.p l.initial.self.sums l.block))
