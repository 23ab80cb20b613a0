-- The invariant: the first i numbers are written.
use mathlib.Core.Path.{◌≡◌}
use lib.ListN.{length}
use Rattle.testing.specs.Numbers.{residue_of, symbol_of, state_of}
use Rattle.testing.specs.Slices.{overwritten}
use Rattle.testing.proofs.slices.fill.Given as goal

abbrev pub invariant-loop-i : goal.invariant-loop-i
invariant-loop-i l = (l.i-end ≡ length l.initial.t) × (l.t ≡ overwritten l.i (λ k. symbol_of (residue_of l.q (state_of l.x k))) l.initial.t)
