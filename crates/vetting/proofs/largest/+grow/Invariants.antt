-- A call ends because i falls.
use Rattle.vetting.proofs.largest.+grow.Given as goal

abbrev pub decreases-grow : goal.decreases-grow
decreases-grow l = l.i
