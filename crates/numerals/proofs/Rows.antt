-- Rows of numbers: what so many bytes hold of a number, and which rows lie in a buffer.
use Prim.Native.Nat.{ℕ, zero, suc, ◌+◌, ◌-◌, ◌*◌, ◌/◌, ◌%◌, ◌^◌, ◌≤◌, ◌<◌}
use mathlib.Core.Path.{◌≡◌, refl, sym, ap, ap₂, ◌∙◌}
use mathlib.Core.Bool.{Bool, true, false, cond, ◌&&◌}
use mathlib.Core.List.{List, [], ◌∷◌, ◌++◌, map}
use native.Mathlib.Decide.{dec_le}
use native.Mathlib.Nat.{pow-succ', pow-le-pow_right, mod-lt, mod-eq_of_lt, mod-mod_of_dvd, dvd-mul_right, div-add-mod}
use native.Mathlib.Nat.{add-mul-div_left, add-mul-mod_self_left, le-div_iff_mul-le}
use native.Mathlib.Omega.{arith}
use lib.Dec.{T, leb, eqb, eqb→eq}
use lib.ListN.{length}
use borrow.Author.Tests.{leb-true, le-leb, lt-leb, eq-eqb}
use Rattle.lists.specs.Lists.{at, zeros}
use Rattle.lists.proofs.Searches.{T→true, true→T, not-T→false, false→not-T, T_and, and_T}
use Rattle.lists.proofs.ListLaws.{el-zeros}
use Rattle.numerals.specs.Bytes.{bytes_of, bytes_of_all, number_at, numbers_at, row_in_range, cut}
use Rattle.numerals.proofs.Bytes.{low_byte}

-- ---- what so many bytes hold of a number

pub some-power : (w : ℕ) → 0 < 256 ^ w
some-power w = omega (arith, pow-le-pow_right {n = 256} (omega arith) {i = 0} {j = w} (omega arith))

-- the other bytes
cut-rest : (x Q : ℕ) → 0 < Q → x % (256 * Q) / 256 ≡ x / 256 % Q
cut-rest x Q h =
    let r : ℕ = x % (256 * Q) in
    let d : ℕ = x / (256 * Q) in
    let split : x ≡ r + 256 * (Q * d) = omega (arith, div-add-mod x (256 * Q)) in
    let few : r < 256 * Q = mod-lt x (omega arith) in
    sym
    (ap (λ (n : ℕ). n / 256 % Q) split
    ∙ ap (λ (n : ℕ). n % Q) (add-mul-div_left r (Q * d) (omega arith))
    ∙ add-mul-mod_self_left (r / 256) Q d
    ∙ mod-eq_of_lt (omega arith))

-- the low byte, and what the others hold of the rest
pub low-cut : (w x : ℕ) → bytes_of (suc w) (cut (suc w) x) ≡ x % 256 ∷ bytes_of w (cut w (x / 256))
low-cut w x =
    let more : 256 ^ suc w ≡ 256 * 256 ^ w = pow-succ' 256 w in
    low_byte w (cut (suc w) x) (mod-lt x (some-power (suc w)))
    ∙ ap₂ (λ (a b : ℕ). a ∷ bytes_of w b)
    (ap (λ (m : ℕ). x % m % 256) more ∙ mod-mod_of_dvd 256 x (dvd-mul_right 256 (256 ^ w)))
    (ap (λ (m : ℕ). x % m / 256) more ∙ cut-rest x (256 ^ w) (some-power w))

-- a number that fits is held whole
pub cut_small : (w x : ℕ) → x < 256 ^ w → cut w x ≡ x
cut_small w x h = mod-eq_of_lt h

pub cut_all : (w : ℕ) (K : List ℕ) → ((k : ℕ) → at K k < 256 ^ w) → map (cut w) K ≡ K
cut_all w [] h = refl
cut_all w (x ∷ K) h = ap₂ (λ (y : ℕ) (l : List ℕ). y ∷ l) (cut_small w x (h 0)) (cut_all w K (λ k. h (suc k)))

-- ---- which rows lie in a buffer

pub row_in : (width count from room : ℕ) → row_in_range width count from room ≡ true → (width ≤ 4) × (from + width * count ≤ room)
row_in width count from room e =
    let (few, inside) = T_and (leb width 4) (leb (from + width * count) room) (true→T _ e) in
    (leb-true width 4 (T→true _ few), leb-true (from + width * count) room (T→true _ inside))

pub row-by-quotient : (w c from room : ℕ) → 0 < w → from ≤ room → leb c ((room - from) / w) ≡ leb (from + w * c) room
row-by-quotient w c from room pos h = go (dec_le c ((room - from) / w))
  where
    go : Dec (c ≤ (room - from) / w) → leb c ((room - from) / w) ≡ leb (from + w * c) room
    go (yes f) = le-leb c ((room - from) / w) f ∙ sym (le-leb (from + w * c) room (omega (arith, (le-div_iff_mul-le {k = w} {x = c} {y = room - from} pos).0 f)))
    go (no n) =
        lt-leb c ((room - from) / w) (omega (arith, n))
        ∙ sym (lt-leb (from + w * c) room (go-less (dec_le (from + w * c) room)))
      where
        go-less : Dec (from + w * c ≤ room) → room < from + w * c
        go-less (yes g) = absurd (n ((le-div_iff_mul-le {k = w} {x = c} {y = room - from} pos).1 (omega arith)))
        go-less (no g) = omega (arith, g)

-- a buffer without room for a row is none of its length
pub row_out : (width count room : ℕ) → row_in_range width count 0 room ≡ false → (leb width 4 && eqb room (width * count)) ≡ false
row_out width count room e = not-T→false (leb width 4 && eqb room (width * count)) whole
  where
    whole : ¬ (T (leb width 4 && eqb room (width * count)))
    whole t =
        let (few, same) = T_and (leb width 4) (eqb room (width * count)) t in
        let long : room ≡ width * count = eqb→eq room (width * count) same in
        false→not-T (row_in_range width count 0 room) e
        (and_T (leb width 4) (leb (0 + width * count) room) few (true→T _ (le-leb (0 + width * count) room (omega arith))))

-- ---- a row with zeros past it

pub padded-at : (K : List ℕ) (m k : ℕ) → at (K ++ zeros m) k ≡ at K k
padded-at [] m k = el-zeros m k
padded-at (x ∷ K) m zero = refl
padded-at (x ∷ K) m (suc k) = padded-at K m k

-- ---- the functions' promises, where what they ask holds

pub number_is : (r width : ℕ) (B : List ℕ) (i : ℕ) → width ≤ 4 → r ≡ cond (leb width 4) (number_at width B i) 0 → r ≡ number_at width B i
number_is r width B i h e = e ∙ ap (λ (t : Bool). cond t (number_at width B i) 0) (le-leb width 4 h)

module _ (width count from : ℕ) (B old new : List ℕ) where
  pub row_read : width ≤ 4 → from + width * count ≤ length B → count ≤ length old
      → new ≡ cond (row_in_range width count from (length B) && leb count (length old)) (numbers_at width count B from ++ zeros (length old - count)) old
      → new ≡ numbers_at width count B from ++ zeros (length old - count)
  row_read few inside room e =
      e ∙ rw (le-leb width 4 few, le-leb (from + width * count) (length B) inside, le-leb count (length old) room)

pub number-written : (w n m : ℕ) (new : List ℕ) → m ≡ w → n < 256 ^ w → new ≡ bytes_of m (cut m n) → new ≡ bytes_of w n
number-written w n m new long fits e = e ∙ ap (λ (x : ℕ). bytes_of x (cut x n)) long ∙ ap (bytes_of w) (cut_small w n fits)

pub row_written : (w : ℕ) (K new old : List ℕ) → w ≤ 4 → length old ≡ w * length K → ((k : ℕ) → at K k < 256 ^ w)
    → new ≡ cond (leb w 4 && eqb (length old) (w * length K)) (bytes_of_all w (map (cut w) K)) old → new ≡ bytes_of_all w K
row_written w K new old few long fits e = e ∙ rw (le-leb w 4 few, eq-eqb (length old) (w * length K) long) (ap (bytes_of_all w) (cut_all w K fits))
