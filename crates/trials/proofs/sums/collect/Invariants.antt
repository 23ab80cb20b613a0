-- The invariant: the frames counted and those still to come, from the round as it is now, are all of them from the opening.
use mathlib.Core.Path.{◌≡◌}
use lib.ListN.{drop}
use Rattle.rounds.specs.Rounds.{server_run}
use Rattle.trials.specs.Drawing.{relay_frames}
use Rattle.trials.proofs.sums.collect.Given as goal

abbrev pub invariant-loop-u : goal.invariant-loop-u
invariant-loop-u l =
    server_run l.round (drop l.u (relay_frames l.number l.sums)) ≡ server_run l.initial.round (relay_frames l.number l.sums)
