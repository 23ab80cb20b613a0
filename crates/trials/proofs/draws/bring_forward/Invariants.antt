-- The invariant: up to i the entries are those that are meant, from i on as they were, and the one that is held goes in at i.
use mathlib.Core.Path.{◌≡◌}
use mathlib.Core.List.{◌∷◌, ◌++◌}
use lib.ListN.{take, drop}
use Rattle.lists.specs.Lists.{at}
use Rattle.trials.proofs.draws.bring_forward.Given as goal

abbrev pub invariant-loop-i : goal.invariant-loop-i
invariant-loop-i l =
    (l.owing ≡ take l.i (l.initial.held ∷ l.initial.owing) ++ drop l.i l.initial.owing) × (l.held ≡ at (l.initial.held ∷ l.initial.owing) l.i)
