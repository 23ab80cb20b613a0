use Prim.Native.Nat.{◌%◌}
use mathlib.Core.Path.{◌≡◌}
use Rattle.lists.specs.Lists.{at}
use Rattle.lists.specs.Sums.{sum_to}
use Rattle.networks.proofs.uploads.add_all.Given as goal

abbrev pub invariant-loop-upload : goal.invariant-loop-upload
invariant-loop-upload l = l.sum ≡ sum_to l.upload-index (λ i. at l.uploads i) % l.q
