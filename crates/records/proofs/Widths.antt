-- The two widths, and the marks that tell them.
use Prim.Native.Nat.{ℕ, ◌-◌, ◌^◌, ◌≤◌, ◌<◌}
use mathlib.Core.Path.{◌≡◌, refl, ap}
use mathlib.Core.Bool.{Bool, true, false, cond}
use mathlib.Core.Logic.{◌≢◌}
use mathlib.Core.List.{List}
use native.Mathlib.Decide.{dec_lt}
use native.Mathlib.Omega.{arith}
use lib.Dec.{ltb, eqb}
use lib.ListN.{length}
use borrow.Author.Tests.{ltb-true, lt-ltb, le-ltb, eq-eqb, ne_eqb}
use Rattle.lists.specs.Lists.{at}
use Rattle.records.specs.Records.{width_of, mark_of, width_in}

-- at least one byte, and at most four
some_bytes : (t : Bool) → 0 < cond t 2 4
some_bytes true = omega arith
some_bytes false = omega arith

few_bytes : (t : Bool) → cond t 2 4 ≤ 4
few_bytes true = omega arith
few_bytes false = omega arith

pub width_some : (q : ℕ) → 0 < width_of q
width_some q = some_bytes (ltb q 65536)

pub width_few : (q : ℕ) → width_of q ≤ 4
width_few q = few_bytes (ltb q 65536)

-- of the width that a mark tells
pub told-few : (B : List ℕ) → width_in B ≤ 4
told-few B = few_bytes (eqb (at B (length B - 1)) 0x50)

-- which q has which width
pub width-old : (q : ℕ) → q < 65536 → width_of q ≡ 2
width-old q h = ap (λ (t : Bool). cond t 2 4) (lt-ltb q 65536 h)

pub width-wide : (q : ℕ) → 65536 ≤ q → width_of q ≡ 4
width-wide q h = ap (λ (t : Bool). cond t 2 4) (le-ltb q 65536 h)

pub old-small : (q : ℕ) → width_of q ≡ 2 → q < 65536
old-small q e = go (dec_lt q 65536)
  where
    go : Dec (q < 65536) → q < 65536
    go (yes h) = h
    go (no n) = absurd (omega (arith, e, n, width-wide q (omega (arith, n))))

pub wide-large : (q : ℕ) → width_of q ≡ 4 → 65536 ≤ q
wide-large q e = go (dec_lt q 65536)
  where
    go : Dec (q < 65536) → 65536 ≤ q
    go (yes h) = absurd (omega (arith, e, width-old q h))
    go (no n) = omega (arith, n)

-- and which mark tells which
pub told-old : (B : List ℕ) → at B (length B - 1) ≡ 0x50 → width_in B ≡ 2
told-old B e = ap (λ (t : Bool). cond t 2 4) (eq-eqb (at B (length B - 1)) 0x50 e)

pub told-wide : (B : List ℕ) → at B (length B - 1) ≢ 0x50 → width_in B ≡ 4
told-wide B n = ap (λ (t : Bool). cond t 2 4) (ne_eqb (at B (length B - 1)) 0x50 n)

pub mark-byte : (width : ℕ) → mark_of width < 256
mark-byte width = go (eqb width 2)
  where
    go : (t : Bool) → cond t 0x50 0x51 < 256
    go true = omega arith
    go false = omega arith

-- the mark of a width tells that width
pub mark-tells : (q : ℕ) → width_of q ≡ cond (eqb (mark_of (width_of q)) 0x50) 2 4
mark-tells q = go (ltb q 65536)
  where
    go : (t : Bool) → ◌≡◌ {A = ℕ} (cond t 2 4) (cond (eqb (mark_of (cond t 2 4)) 0x50) 2 4)
    go true = refl
    go false = refl

-- a number of 32 bits fits in its width
pub width-holds : (q : ℕ) → q < 2 ^ 32 → q < 256 ^ width_of q
width-holds q h = go (ltb q 65536) refl
  where
    go : (t : Bool) → ltb q 65536 ≡ t → q < 256 ^ cond t 2 4
    go true e = ltb-true q 65536 e
    go false e = h
