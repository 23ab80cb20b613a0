-- The invariant: the bytes that were passed are written, and what is left of the number has the others.
use mathlib.Core.Path.{◌≡◌, sym, ap, ◌∙◌}
use mathlib.Core.List.{List, ◌++◌, append-nil}
use Prim.Native.Nat.{ℕ, suc, ◌+◌, ◌-◌, ◌/◌, ◌%◌, ◌<◌}
use native.Mathlib.Numerals.{add-one}
use native.Mathlib.Omega.{arith}
use lib.ListN.{length, take, set}
use lib.Seq.{take-suc-set, take_all, append_snoc}
use Rattle.numerals.specs.Bytes.{bytes_of, cut}
use Rattle.numerals.proofs.Rows.{low-cut}
use Rattle.numerals.proofs.write_number.Invariants.{Written}
use Rattle.numerals.proofs.write_number.Goals as goal

-- one byte more
next : (n : ℕ) (out₀ out : List ℕ) (left k : ℕ) → Written n out₀ out left k → length out ≡ length out₀ → k < length out₀
    → Written n out₀ (set out k (left % 256)) (left / 256) (k + 1)
next n out₀ out left k w whole h =
    let m : ℕ = length out₀ - (k + 1) in
    let rest : length out₀ - k ≡ suc m = omega arith in
    ap (λ (x : ℕ). take x (set out k (left % 256)) ++ bytes_of m (cut m (left / 256))) (add-one k)
    ∙ ap (λ (l : List ℕ). l ++ bytes_of m (cut m (left / 256))) (take-suc-set out k (left % 256) (omega arith))
    ∙ append_snoc (take k out) (left % 256) (bytes_of m (cut m (left / 256)))
    ∙ ap (λ (l : List ℕ). take k out ++ l) (sym (low-cut m left) ∙ ap (λ (x : ℕ). bytes_of x (cut x left)) (sym rest))
    ∙ w

pub loop-byte-preserved : goal.loop-byte-preserved
loop-byte-preserved c = let s = c.loop-byte in next _ _ s.out s.left s.byte-index s.invariant s.auto.out c.loop-byte-test.true

pub returns : goal.returns
unfolding bytes_of
returns c =
    let s = c.loop-byte in
    let none : length c.args.out.now - s.byte-index ≡ 0 = omega (arith, c.loop-byte-test.false) in
    sym (take_all s.byte-index s.out (omega (arith, s.auto.out, c.loop-byte-test.false)))
    ∙ sym (append-nil (take s.byte-index s.out))
    ∙ ap (λ (x : ℕ). take s.byte-index s.out ++ bytes_of x (cut x s.left)) (sym none)
    ∙ s.invariant
