-- The invariant: what is left of the way decides what the whole way does.
use mathlib.Core.Path.{◌≡◌}
use mathlib.Core.List.{List}
use Prim.Native.Nat.{ℕ, ◌-◌, ◌≤◌}
use lib.ListN.{length}
use Rattle.checkpoints.specs.Checkpoints.{end_back, bad_way}
use Rattle.checkpoints.proofs.reading.end_of.Given as goal

pub record Back (B : List ℕ) (steps end left : ℕ) : Type 0 where
  pub within : end ≤ length B
  pub way : bad_way B left end ≡ bad_way B steps (length B)
  pub place : end_back B left end ≡ end_back B steps (length B)

abbrev pub invariant-loop-step : goal.invariant-loop-step
invariant-loop-step l = Back l.bytes l.steps l.end (l.steps - l._step)
