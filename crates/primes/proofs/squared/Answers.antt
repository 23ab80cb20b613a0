-- A remainder doubled is a sum of two symbols.
use mathlib.Core.Path.{◌≡◌}
use native.Mathlib.Omega.{arith}
use Prim.Native.Nat.{◌*◌, ◌%◌, ◌^◌}
use borrow.Author.Tests.{le-leb, lt-leb}
use Rattle.residues.specs.Field.{symbol_sum}
use Rattle.primes.proofs.Powers.{square-doubled}
use Rattle.primes.proofs.squared.Goals as goal

pub returns-then-y-room : goal.returns-then-y-room
returns-then-y-room c =
    let a = c.args in
    let doubled : symbol_sum a.n (a.x * a.x % a.n) (a.x * a.x % a.n) ≡ a.x * a.x * 2 ^ a.bit % a.n =
    square-doubled _ _ _ (omega (arith, c.requires.0)) (omega (arith, c.if-bit-eq0.false, c.requires.2)) in
    rw (le-leb _ _ c.if-y-room.true) at doubled

pub returns-else-y-room : goal.returns-else-y-room
returns-else-y-room c =
    let a = c.args in
    let doubled : symbol_sum a.n (a.x * a.x % a.n) (a.x * a.x % a.n) ≡ a.x * a.x * 2 ^ a.bit % a.n =
    square-doubled _ _ _ (omega (arith, c.requires.0)) (omega (arith, c.if-bit-eq0.false, c.requires.2)) in
    rw (lt-leb _ _ c.if-y-room.false) at doubled
