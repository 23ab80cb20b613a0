-- The invariant: the numbers that are left decide what all of them decide.
use mathlib.Core.Path.{◌≡◌}
use Prim.Native.Nat.{◌+◌, ◌-◌, ◌*◌}
use Rattle.residues.specs.Primes.{all_below}
use Rattle.numerals.specs.Bytes.{numbers_at}
use Rattle.records.proofs.numbers_below.Given as goal

abbrev pub invariant-loop-k : goal.invariant-loop-k
invariant-loop-k l =
    all_below l.q (numbers_at l.width (l.count - l.k) l.bytes (l.from + l.width * l.k)) ≡ all_below l.q (numbers_at l.width l.count l.bytes l.from)
