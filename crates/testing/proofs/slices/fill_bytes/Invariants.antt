-- The invariant: the first i bytes are written.
use mathlib.Core.Path.{◌≡◌}
use Prim.Native.Nat.{◌%◌}
use lib.ListN.{length}
use Rattle.testing.specs.Numbers.{drawn_of}
use Rattle.testing.specs.Slices.{overwritten}
use Rattle.testing.proofs.slices.fill_bytes.Given as goal

abbrev pub invariant-loop-i : goal.invariant-loop-i
invariant-loop-i l = (l.i-end ≡ length l.initial.b) × (l.b ≡ overwritten l.i (λ k. drawn_of l.x k % 256) l.initial.b)
