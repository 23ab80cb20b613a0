-- The invariant: what was found so far and the places to come decide what all places decide.
use mathlib.Core.Path.{◌≡◌}
use mathlib.Core.Bool.{◌&&◌}
use lib.ListN.{drop}
use Rattle.windows.specs.Runs.{all_zero}
use Rattle.windows.proofs.places.all_zero.Given as goal

abbrev pub invariant-loop-k : goal.invariant-loop-k
invariant-loop-k l = (l.zero && all_zero (drop l.k l.totals)) ≡ all_zero (drop l.held l.totals)
