-- The invariant: what is read so far is the number of the bytes from k on.
use mathlib.Core.Path.{◌≡◌}
use mathlib.Core.List.{List}
use Prim.Native.Nat.{ℕ, ◌+◌, ◌-◌, ◌^◌, ◌≤◌, ◌<◌}
use Rattle.numerals.specs.Bytes.{number_at}
use Rattle.numerals.proofs.number_at.Given as goal

pub record ReadFrom (width : ℕ) (B : List ℕ) (i n k : ℕ) : Type 0 where
  pub within : k ≤ width
  pub same : n ≡ number_at (width - k) B (i + k)
  pub small : n < 256 ^ (width - k)

abbrev pub invariant-loop-k : goal.invariant-loop-k
invariant-loop-k l = ReadFrom l.width l.bytes l.i l.n l.k
