-- The invariant: those who have sent and those who are still to send, from the round as it is now, are all of them from the opening.
use mathlib.Core.Path.{◌≡◌}
use lib.ListN.{drop}
use Rattle.trials.specs.Drawing.{run_from}
use Rattle.trials.proofs.sums.hear_all.Given as goal

abbrev pub invariant-loop-user : goal.invariant-loop-user
invariant-loop-user l =
    run_from l.plan l.cluster l.number l.uploads l.round (drop l.user-index l.order) ≡ run_from l.plan l.cluster l.number l.uploads l.initial.round l.order
