-- The invariant: the rest of the list decides what the whole list decides.
use mathlib.Core.Path.{◌≡◌}
use lib.ListN.{drop}
use Rattle.signed.specs.Caps.{all_in_cap}
use Rattle.signed.proofs.caps.all_in_cap.Given as goal

abbrev pub invariant-loop-w : goal.invariant-loop-w
invariant-loop-w l = all_in_cap l.cap (drop l.w-index l.readings) ≡ all_in_cap l.cap l.readings
