-- The invariant: what is held in each position is the sum so far.
use Rattle.std.proofs.Common.{◌≡◌, length}
use Rattle.keys.proofs.SumLaws.{sums}
use Rattle.keys.proofs.derive.user_keys.Given as goal

abbrev pub invariant-loop-k : goal.invariant-loop-k
invariant-loop-k l = l.keys ≡ sums l.q l.row l.turned (length l.initial.keys) l.k
