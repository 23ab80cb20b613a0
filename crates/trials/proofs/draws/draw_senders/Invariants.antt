-- The invariant: those who have sent, with what is drawn of those who are owing, are all the senders.
use mathlib.Core.Path.{◌≡◌}
use mathlib.Core.List.{◌++◌}
use Prim.Native.Nat.{◌-◌}
use lib.ListN.{length, take, drop}
use Rattle.trials.specs.Generator.{stepped_by}
use Rattle.trials.specs.Drawing.{senders_from}
use Rattle.trials.proofs.draws.draw_senders.Given as goal

abbrev pub invariant-loop-j : goal.invariant-loop-j
invariant-loop-j l =
    (l.s ≡ stepped_by l.j l.state)
    × (take l.j l.order ++ senders_from l.s (length l.initial.order - l.j) (drop l.j l.order) ≡ senders_from l.state (length l.initial.order) l.initial.order)
