-- The invariant: what is read so far is the number of the bytes from k on.
use mathlib.Core.Path.{◌≡◌, sym, ap, ◌∙◌}
use mathlib.Core.List.{List}
use Prim.Native.Nat.{ℕ, suc, ◌+◌, ◌-◌, ◌*◌, ◌^◌, ◌≤◌, ◌<◌}
use native.Mathlib.Nat.{pow-suc, pow-le-pow_right}
use native.Mathlib.Omega.{arith}
use Rattle.lists.specs.Lists.{at}
use Rattle.numerals.specs.Bytes.{number_at}
use Rattle.numerals.proofs.number_at.Invariants.{ReadFrom}
use Rattle.numerals.proofs.number_at.Goals as goal

-- a fourth byte has room
room : (width : ℕ) (B : List ℕ) (i n k : ℕ) → ReadFrom width B i n k → 0 < k → width ≤ 4 → n < 256 ^ 3
room width B i n k r h few = omega (arith, r.small, pow-le-pow_right {n = 256} (omega arith) {i = width - k} {j = 3} (omega arith))

-- one byte more
next : (width : ℕ) (B : List ℕ) (i n k : ℕ) → ReadFrom width B i n k → 0 < k → at B (i + (k - 1)) < 256 → ReadFrom width B i (n * 256 + at B (i + (k - 1))) (k - 1)
unfolding number_at
next width B i n k r h b =
    let m : width - (k - 1) ≡ suc (width - k) = omega (arith, r.within) in
    let rest : number_at (width - k) B (i + (k - 1) + 1) ≡ n = ap (number_at (width - k) B) {x = i + (k - 1) + 1} {y = i + k} (omega arith) ∙ sym r.same in
    let whole : n * 256 + at B (i + (k - 1)) ≡ number_at (suc (width - k)) B (i + (k - 1)) = omega arith in
    record {
      within = omega (arith, r.within);
      same = whole ∙ ap (λ (v : ℕ). number_at v B (i + (k - 1))) (sym m);
      small = omega (arith, r.small, pow-suc 256 (width - k), ap (λ (v : ℕ). 256 ^ v) m);
    }

pub loop-k-init : goal.loop-k-init
unfolding number_at
loop-k-init c =
    let a = c.args in
    let none : a.width - a.width ≡ 0 = omega arith in
    record {
      within = omega arith;
      same = ap (λ (v : ℕ). number_at v a.bytes.now (a.i + a.width)) (sym none);
      small = omega (arith, ap (λ (v : ℕ). 256 ^ v) none);
    }

pub overflow_mul-n : goal.overflow_mul-n
overflow_mul-n c =
    let has_room : c.loop-k.n < 256 ^ 3 = let s = c.loop-k in
    room _ _ _ s.n s.k s.invariant c.loop-k-test.true c.if-width-gt-WIDEST.false in
    omega (arith, has_room)

pub overflow_add-n : goal.overflow_add-n
overflow_add-n c =
    let has_room : c.loop-k.n < 256 ^ 3 = let s = c.loop-k in
    room _ _ _ s.n s.k s.invariant c.loop-k-test.true c.if-width-gt-WIDEST.false in
    omega (arith, c.byte_at.ensures.1, has_room)

pub loop-k-preserved : goal.loop-k-preserved
loop-k-preserved c =
    let s = c.loop-k in
    let a = c.args in
    let (is, small) = c.byte_at.ensures in
    let byte : at a.bytes.now (a.i + (s.k - 1)) < 256 = omega (arith, is, small) in
    rw is (next _ _ _ s.n s.k s.invariant c.loop-k-test.true byte)
