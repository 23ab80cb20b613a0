use mathlib.Core.Path.{◌≡◌}
use mathlib.Core.List.{List}
use Prim.Native.Nat.{ℕ, ◌<◌}
use native.Mathlib.Omega.{arith}
use Rattle.numerals.specs.Bytes.{number_at}
use Rattle.numerals.proofs.Bytes.{AreBytes, number_small}
use Rattle.checkpoints.proofs.reading.round_at.Goals as goal

pub overflow_cast-round-3 : goal.overflow_cast-round-3
overflow_cast-round-3 c =
    let buffer : List ℕ = c.args.bytes.now in
    let are-bytes : AreBytes c.args.bytes.now = λ i. omega (arith, c.type_inv.bytes i) in
    let roll-fits : (r : ℕ) → (i : ℕ) → r ≡ number_at 2 buffer i → r < 65536 = λ r i e. omega (arith, number_small 2 buffer i are-bytes) in
    omega (arith, roll-fits _ _ c.number_at-3.ensures)

pub overflow_cast-ahead : goal.overflow_cast-ahead
overflow_cast-ahead c =
    let buffer : List ℕ = c.args.bytes.now in
    let are-bytes : AreBytes c.args.bytes.now = λ i. omega (arith, c.type_inv.bytes i) in
    let roll-fits : (r : ℕ) → (i : ℕ) → r ≡ number_at 2 buffer i → r < 65536 = λ r i e. omega (arith, number_small 2 buffer i are-bytes) in
    omega (arith, roll-fits _ _ c.number_at-4.ensures)
