-- What was read so far stands at the buffer's start.
use Rattle.std.proofs.Common.{length, take, ◌-◌, ◌≤◌, ℕ}
use Rattle.std.specs.Io.KnownBytes.{Consumes}
use Rattle.console.proofs.read_full.Given as goal

pub record ReadSoFar (n room : ℕ) (bytes : Type 0) : Type 0 where
  pub within : n ≤ room
  pub consumed : bytes

abbrev pub invariant-loop-filled : goal.invariant-loop-filled
invariant-loop-filled g l =
    ReadSoFar l.filled (length l.buffer) (Consumes (g.R.Read.remaining l.initial.reader) (g.R.Read.remaining l.reader) (take l.filled l.buffer))

abbrev pub decreases-loop-filled : goal.decreases-loop-filled
decreases-loop-filled g l = length l.initial.buffer - l.filled
