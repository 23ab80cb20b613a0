-- The invariant: the sum so far is that of the totals passed, and no larger than they can make it.
use Rattle.std.proofs.Common.{◌≡◌, ◌*◌, ◌^◌, ◌≤◌, nat_abs, take}
use Rattle.windows.specs.Runs.{sum_of}
use Rattle.windows.proofs.places.sum_of.Given as goal

abbrev pub invariant-loop-total : goal.invariant-loop-total
invariant-loop-total l = record {
  is : l.sum ≡ sum_of (take l.total-index l.total-items);
  small : nat_abs l.sum ≤ l.total-index * 2 ^ 31;
}
