-- Each field is typed after the ones before it, and three of them have room.
use Prim.Native.Nat.{ℕ, ◌≤◌}
use mathlib.Core.Path.{◌≡◌}
use mathlib.Core.List.{[], ◌++◌}
use native.Mathlib.Omega.{arith}
use lib.ListN.{length, length-append}
use Rattle.texts.specs.Texts.{field, line_with}
use Rattle.texts.proofs.LineLaws.{field-length, typed-on}
use Rattle.reports.proofs.line_of.Goals as goal

two_fields : (a b : ℕ) → length (field a 0x20 ++ field b 0x20) ≤ 22
two_fields a b = omega (arith, length-append (field a 0x20) (field b 0x20), field-length a 0x20, field-length b 0x20)

pub returns : goal.returns
returns c =
    let after_one : c.put_field.result ≡ line_with (field c.args.code.number 0x20) = let n : ℕ = c.args.code.number in
    typed-on [] (field n 0x20) _ _ (omega (arith, field-length n 0x20)) c.new.ensures c.put_field.ensures in
    let after_two : (let a = c.args.code in c.put_field-2.result ≡ line_with (field a.number 0x20 ++ field a.first 0x20)) = let a = c.args.code in
    typed-on (field a.number 0x20) (field a.first 0x20) _ _ (omega (arith, field-length a.number 0x20, field-length a.first 0x20))
    (after_one) c.put_field-2.ensures in
    let a = c.args.code in
    typed-on (field a.number 0x20 ++ field a.first 0x20) (field a.second 0x0a) _ _
    (omega (arith, two_fields a.number a.first, field-length a.second 0x0a)) (after_two) c.put_field-3.ensures
