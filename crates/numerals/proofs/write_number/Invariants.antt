-- The invariant: the bytes that were passed are written, and what is left of the number has the others.
use mathlib.Core.Path.{◌≡◌}
use mathlib.Core.List.{List, ◌++◌}
use Prim.Native.Nat.{ℕ, ◌-◌}
use lib.ListN.{length, take}
use Rattle.numerals.specs.Bytes.{bytes_of, cut}
use Rattle.numerals.proofs.write_number.Given as goal

abbrev pub Written : ℕ → List ℕ → List ℕ → ℕ → ℕ → Type 0
Written n out₀ out left k =
    take k out ++ bytes_of (length out₀ - k) (cut (length out₀ - k) left) ≡ bytes_of (length out₀) (cut (length out₀) n)

abbrev pub invariant-loop-byte : goal.invariant-loop-byte
invariant-loop-byte l = Written l.n l.initial.out l.out l.left l.byte-index
