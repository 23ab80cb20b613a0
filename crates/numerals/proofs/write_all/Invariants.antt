-- The invariant: up to number k the buffer is what it is to be.
use mathlib.Core.List.{map}
use Prim.Native.Nat.{◌*◌}
use Rattle.lists.proofs.Fronts.{Front}
use Rattle.numerals.specs.Bytes.{bytes_of_all, cut}
use Rattle.numerals.proofs.write_all.Given as goal

abbrev pub invariant-loop-k : goal.invariant-loop-k
invariant-loop-k l = Front l.initial.out (bytes_of_all l.width (map (cut l.width) l.numbers)) l.out (l.width * l.k)
