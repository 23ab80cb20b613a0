-- Differences of numbers, as signed ones.
use Rattle.std.proofs.Common.{ℕ, ◌+◌, ◌^◌, ◌<◌, ◌≤◌, ℤ, pos, ◌-ℤ◌, arith, SFits}
use mir.Syntax.{Width}
use mir.Val.{hbits}
use Rattle.integers.proofs.Parts.{one-part, difference-parts}
use Rattle.integers.proofs.Bits.{fits-parts}

-- a difference fits where neither number is too far above the other
pub difference-fits : (w : Width) (a b : ℕ) → a < b + 2 ^ hbits w → b ≤ a + 2 ^ hbits w → 0 < 2 ^ hbits w → SFits w (pos a -ℤ pos b)
difference-fits w a b h l p =
    let z : ℤ = pos a -ℤ pos b in
    fits-parts w z (omega (arith, difference-parts (pos a) (pos b), one-part z)) (omega (arith, difference-parts (pos a) (pos b), one-part z))
