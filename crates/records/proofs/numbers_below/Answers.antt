-- The invariant: the numbers that are left decide what all of them decide.
use mathlib.Core.Path.{◌≡◌, sym, ap₂, ◌∙◌}
use mathlib.Core.List.{List}
use Prim.Native.Nat.{ℕ, ◌+◌, ◌-◌, ◌*◌}
use native.Mathlib.Omega.{arith}
use Rattle.residues.specs.Primes.{all_below}
use Rattle.numerals.specs.Bytes.{numbers_at}
use Rattle.numerals.proofs.Bytes.{number-not-below, number-below, no-numbers-below}
use Rattle.numerals.proofs.Rows.{number_is}
use Rattle.records.proofs.numbers_below.Goals as goal

same_row : (q w : ℕ) (B : List ℕ) (n m i j : ℕ) → n ≡ m → i ≡ j → all_below q (numbers_at w n B i) ≡ all_below q (numbers_at w m B j)
same_row q w B n m i j e f = ap₂ (λ (x y : ℕ). all_below q (numbers_at w x B y)) e f

pub loop-k-init : goal.loop-k-init
loop-k-init c =
    let a = c.args in
    same_row a.q a.width a.bytes.now (a.count - 0) a.count (a.from + a.width * 0) a.from (omega arith) (omega arith)

pub returns-then-number_at-q : goal.returns-then-number_at-q
returns-then-number_at-q c =
    sym
    (number-not-below _ _ _ _ _ (omega (arith, c.loop-k-test.true)) (omega (arith, c.if-number_at-q.true, number_is _ _ _ _ c.requires.0 c.number_at.ensures)))
    ∙ c.loop-k.invariant

pub loop-k-preserved : goal.loop-k-preserved
loop-k-preserved c =
    let s = c.loop-k in
    let a = c.args in
    let k : ℕ = s.k in
    same_row a.q a.width a.bytes.now (a.count - (k + 1)) (a.count - k - 1) (a.from + a.width * (k + 1)) (a.from + a.width * k + a.width) (omega arith)
    (omega arith)
    ∙ sym
    (number-below _ _ _ _ _ (omega (arith, c.loop-k-test.true)) (omega (arith, c.if-number_at-q.false, number_is _ _ _ _ c.requires.0 c.number_at.ensures)))
    ∙ s.invariant

pub returns : goal.returns
returns c = sym (no-numbers-below _ _ _ _ _ (omega (arith, c.loop-k-test.false))) ∙ c.loop-k.invariant
