-- Laws of the mapping between signed numbers and symbols, and of the sums that the code makes of them.
use Prim.Native.Nat.{ℕ, suc, ◌+◌, ◌-◌, ◌*◌, ◌^◌, ◌≤◌, ◌<◌}
use mathlib.Core.Path.{◌≡◌, refl, sym}
use mathlib.Core.Bool.{Bool, true, false, cond}
use native.Mathlib.Omega.{arith}
use lib.Dec.{ltb, ltb→lt}
use lib.IntN.{ℤ, pos, negsuc, neg_ℤ, ◌+ℤ◌, ◌-ℤ◌, nat_abs}
use lib.Signed.{lt_z, non_neg, ◌≤ℤ◌, ◌<ℤ◌}
use borrow.Author.Tests.{ltb-true, lt-ltb, le-ltb}
use mir.Syntax.{w32, w64}
use mir.Val.{SFits}
use Rattle.integers.proofs.Parts.{up, dn, one-part, sum-parts, difference-parts, neg-up, neg-dn, less-true, less-false}
use Rattle.integers.proofs.Bits.{fits-parts, parts_up, parts-dn}
use Rattle.signed.specs.Numbers.{travels, as_symbol, symbol_of}

-- ---- what the code's tests tell

pub negative : (z : ℤ) → lt_z z (pos 0) ≡ true → non_neg z ≡ false
negative (pos n) e = absurd (omega (arith, ltb-true n 0 e))
negative (negsuc n) e = refl

pub not_negative : (z : ℤ) → lt_z z (pos 0) ≡ false → non_neg z ≡ true
not_negative (pos n) e = refl
not_negative (negsuc n) e = sym e

-- ---- the sums fit 64 bits

pub moved-fits : (q : ℕ) (w : ℤ) → q < 2 ^ 32 → SFits w32 w → SFits w64 (pos q +ℤ w)
moved-fits q w h f =
    let parts = sum-parts (pos q) w in
    fits-parts w64 (pos q +ℤ w)
    (omega (arith, parts, one-part (pos q +ℤ w), parts_up w32 w (omega arith) f))
    (omega (arith, parts, one-part (pos q +ℤ w), parts-dn w32 w f))

pub opposite-fits : (m : ℕ) → m < 2 ^ 32 → SFits w64 (neg_ℤ (pos m))
opposite-fits m h = fits-parts w64 (neg_ℤ (pos m)) (omega (arith, neg-up (pos m))) (omega (arith, neg-dn (pos m)))

module _ (q t : ℕ) where
  -- t and t - q add up to a negative number just where 2 × t is below q
  abbrev pub less : ℤ
  less = pos t -ℤ pos q

  less-parts : up less + q ≡ t + dn less
  less-parts = omega (arith, difference-parts (pos t) (pos q))

  both-parts : up (pos t +ℤ less) + dn less ≡ t + up less + dn (pos t +ℤ less)
  both-parts = omega (arith, sum-parts (pos t) less)

  pub less-fits : q < 2 ^ 32 → t < 2 ^ 32 → SFits w64 less
  less-fits h l = fits-parts w64 less (omega (arith, less-parts, one-part less)) (omega (arith, less-parts, one-part less))

  pub both-fits : q < 2 ^ 32 → t < 2 ^ 32 → SFits w64 (pos t +ℤ less)
  both-fits h l =
      fits-parts w64 (pos t +ℤ less)
      (omega (arith, both-parts, less-parts, one-part less, one-part (pos t +ℤ less)))
      (omega (arith, both-parts, less-parts, one-part less, one-part (pos t +ℤ less)))

  pub below_half : lt_z (pos t +ℤ less) (pos 0) ≡ true → 2 * t < q
  below_half e = omega (arith, less-true (pos t +ℤ less) (pos 0) e, both-parts, less-parts)

  pub above_half : lt_z (pos t +ℤ less) (pos 0) ≡ false → q ≤ 2 * t
  above_half e = omega (arith, less-false (pos t +ℤ less) (pos 0) e, both-parts, less-parts)

  -- a shown total fits 32 bits
  pub half-fits : q < 2 ^ 32 → t < q → q ≤ 2 * t → SFits w32 less
  half-fits h l k = fits-parts w32 less (omega (arith, less-parts, one-part less)) (omega (arith, less-parts, one-part less))

-- ---- a number as a symbol

module _ (q : ℕ) where
  pub symbol-minus : (k : ℕ) → suc k ≤ q → symbol_of q (negsuc k) ≡ q - suc k
  symbol-minus k h = rw (le-ltb q (suc k) h, lt-ltb (q - suc k) q (omega arith))

  -- a number nearer to 0 than q travels as its symbol
  pub travels-symbol : (w : ℤ) → nat_abs w < q → travels q w ≡ pos (symbol_of q w)
  travels-symbol (pos n) h = rw (lt-ltb n q h)
  travels-symbol (negsuc k) h = rw (le-ltb q (suc k) (omega arith), lt-ltb (q - suc k) q (omega arith))

  -- "A negative reading w travels as q + w", and any other as itself
  pub symbol-is : (w : ℤ) → nat_abs w < q → (w <ℤ pos 0 → pos (symbol_of q w) ≡ pos q +ℤ w) × (pos 0 ≤ℤ w → pos (symbol_of q w) ≡ w)
  symbol-is (pos n) h = ((λ l. absurd (omega (arith, ltb→lt n 0 l.lt))), (λ l. sym (travels-symbol (pos n) h)))
  symbol-is (negsuc k) h = ((λ l. sym (travels-symbol (negsuc k) h)), (λ l. absurd l.le))

  -- the symbol of any number is one
  pub symbol-below : (w : ℤ) → 0 < q → symbol_of q w < q
  symbol-below w h = go (travels q w)
    where
      go : (z : ℤ) → as_symbol q z < q
      go (pos n) = pick (ltb n q) refl
        where
          pick : (t : Bool) → ltb n q ≡ t → cond t n 0 < q
          pick true e = ltb-true n q e
          pick false e = h
      go (negsuc n) = h
