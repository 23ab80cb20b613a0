use mathlib.Core.Path.{◌≡◌, sym, ap, ◌∙◌}
use mathlib.Core.List.{[], ◌∷◌}
use native.Mathlib.Omega.{arith}
use Prim.Native.Nat.{ℕ, ◌≤◌}
use lib.IntN.{ℤ, pos, ◌-ℤ◌, nat_abs}
use lib.Signed.{nat_abs-le}
use mir.Syntax.{w32, w64}
use mir.Val.{SFits, to_z, of_z}
use mir.Facts.{to_z-of_z}
use Rattle.integers.proofs.Bits.{widened}
use Rattle.texts.specs.declared.Line.{Line}
use Rattle.texts.specs.Texts.{decimal, typed}
use Rattle.texts.proofs.LineLaws.{typed-append}
use Rattle.texts.proofs.SignLaws.{Negative, negative}
use Rattle.texts.proofs.Line.put_signed.Goals as goal

-- what the machine reads of the number, and of its opposite
abbrev wide : ℤ → ℤ
wide z = to_z w64 (of_z w64 (to_z w32 (of_z w32 z)))

pub returns-then-number-lt0 : goal.returns-then-number-lt0
returns-then-number-lt0 c =
    let below : Negative c.args.n = negative c.args.n (rw (widened c.ranges.n) at c.if-number-lt0.true) in
    let small : nat_abs c.args.n ≤ 2147483648 = nat_abs-le c.args.n c.ranges.n.sfits in
    let fits-64 : SFits w64 (pos (nat_abs c.args.n)) = record { sfits = omega (arith, small) } in
    let read : (let z = c.args.n in to_z w64 (of_z w64 (pos 0 -ℤ wide z)) ≡ pos (nat_abs z)) = rw (widened c.ranges.n, below.opposite) (to_z-of_z fits-64) in
    let a = c.args in
    let k : ℕ = nat_abs a.n in
    c.put_decimal.ensures
    ∙ ap (λ (z : ℤ). typed c.put.result (decimal (nat_abs z))) read
    ∙ ap (λ (l : Line). typed l (decimal k)) c.put.ensures
    ∙ sym (typed-append a.self (0x2d ∷ []) (decimal k))
    ∙ ap (typed a.self) (sym below.digits)
