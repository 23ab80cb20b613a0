-- The invariant: the totals passed have moved, and the others stand.
use Rattle.std.proofs.Common.{◌≡◌, ◌-◌}
use Rattle.windows.proofs.RunLaws.{moved_to}
use Rattle.windows.proofs.places.shift.Given as goal

abbrev pub invariant-loop-k : goal.invariant-loop-k
invariant-loop-k l = l.totals ≡ moved_to (l.k - 1) l.initial.totals
