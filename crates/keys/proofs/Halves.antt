-- Differences that may be negative, at a machine's width: what the two halves of one hold, and a sum less q.
use Rattle.std.proofs.Common.{◌≡◌, ℕ, ◌+◌, ◌-◌, ◌*◌, ◌/◌, ◌%◌, ◌^◌, ◌<◌, ◌≤◌, sym, ap, ◌∙◌, ap₂, mod-eq_of_lt, arith}
use native.Mathlib.Nat.{div-eq_of_lt, add-mul-mod_self_left}
use native.Mathlib.Decide.{dec_lt}
use Rattle.residues.proofs.SymbolLaws.{past-once}
use lib.Bits.{bit_and, and_mask, and_zero_r}

-- q and a negative number of the width that it outweighs
back : (q d : ℕ) → d ≤ q → q < 2 ^ 32 → (2 ^ 32 - d + q) % 2 ^ 32 ≡ q - d
back q d h short =
    ap (λ (n : ℕ). n % 2 ^ 32) (let s : 2 ^ 32 - d + q ≡ q - d + 2 ^ 32 * 1 = omega arith in s)
    ∙ add-mul-mod_self_left (q - d) (2 ^ 32) 1
    ∙ mod-eq_of_lt (omega arith)

-- over and under are at most q apart; z is over less under at the double width. Where it is negative its upper half is all ones.
module _ (q over under z : ℕ) (short : q < 2 ^ 32) (fits : z < 2 ^ 64) (big : under < 2 ^ 64) (wraps : (z + under) % 2 ^ 64 ≡ over) (above : over < under + q)
    (near : under ≤ over + q) where
  raised-above : under ≤ over → (z % 2 ^ 32 + bit_and q (z / 2 ^ 32)) % 2 ^ 32 ≡ (over + q - under) % q
  raised-above h =
      let e : z ≡ over - under = omega arith in
      let lo : z % 2 ^ 32 ≡ z = mod-eq_of_lt (omega arith) in
      let hi : z / 2 ^ 32 ≡ 0 = div-eq_of_lt (omega arith) in
      ap₂ (λ (x y : ℕ). (x + bit_and q y) % 2 ^ 32) lo hi
      ∙ ap (λ (y : ℕ). (z + y) % 2 ^ 32) (and_zero_r q)
      ∙ (let s : (z + 0) % 2 ^ 32 ≡ over + q - under - q = omega arith in s)
      ∙ sym (past-once q (over + q - under) (omega arith) (omega arith))

  raised_below : over < under → (z % 2 ^ 32 + bit_and q (z / 2 ^ 32)) % 2 ^ 32 ≡ (over + q - under) % q
  raised_below h =
      let e : z ≡ 2 ^ 64 - (under - over) = omega arith in
      let hi : z / 2 ^ 32 ≡ 2 ^ 32 - 1 = omega arith in
      let lo : z % 2 ^ 32 ≡ 2 ^ 32 - (under - over) = omega arith in
      ap₂ (λ (x y : ℕ). (x + bit_and q y) % 2 ^ 32) lo hi
      ∙ ap (λ (y : ℕ). (2 ^ 32 - (under - over) + y) % 2 ^ 32) (and_mask q 32 ∙ mod-eq_of_lt short)
      ∙ back q (under - over) (omega arith) short
      ∙ (let s : q - (under - over) ≡ over + q - under = omega arith in s)
      ∙ sym (mod-eq_of_lt (omega arith))

  pub raised : (z % 2 ^ 32 + bit_and q (z / 2 ^ 32)) % 2 ^ 32 ≡ (over + q - under) % q
  raised = go (dec_lt over under)
    where
      go : Dec (over < under) → (z % 2 ^ 32 + bit_and q (z / 2 ^ 32)) % 2 ^ 32 ≡ (over + q - under) % q
      go (yes h) = raised_below h
      go (no n) = raised-above (omega arith)

-- z is the sum less what is left of q beside more, at the width
module _ (q sum more z : ℕ) (short : q < 2 ^ 32) (fits : z < 2 ^ 32) (h : sum < q) (l : more < q) (wraps : (z + (q - more)) % 2 ^ 32 ≡ sum) where
  -- where the sum is less than that, q is put on it again
  pub sum-again : sum < q - more → (z + q) % 2 ^ 32 ≡ (sum + more) % q
  sum-again k = (let e : (z + q) % 2 ^ 32 ≡ sum + more = omega arith in e) ∙ sym (mod-eq_of_lt (omega arith))

  pub sum_past : q - more ≤ sum → (z + 0) % 2 ^ 32 ≡ (sum + more) % q
  sum_past k = (let e : (z + 0) % 2 ^ 32 ≡ sum + more - q = omega arith in e) ∙ sym (past-once q (sum + more) (omega arith) (omega arith))
