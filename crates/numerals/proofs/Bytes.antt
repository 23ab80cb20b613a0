-- Numbers as bytes, whatever the width: how long their lists are, what stands at each place, and there and back.
use Prim.Native.Nat.{ℕ, zero, suc, ◌+◌, ◌-◌, ◌*◌, ◌/◌, ◌%◌, ◌^◌, ◌≤◌, ◌<◌}
use mathlib.Core.Path.{◌≡◌, refl, sym, ap, ap₂, ◌∙◌}
use mathlib.Core.Bool.{Bool, true, false, ◌&&◌}
use mathlib.Core.List.{List, [], ◌∷◌, ◌++◌, append_assoc}
use native.Mathlib.Nat.{pow-suc}
use native.Mathlib.Omega.{arith}
use lib.Dec.{ltb}
use lib.ListN.{length, take, drop, length-append, get_or-eq_default}
use lib.Seq.{drop-cons, append_snoc, take_at, drop-append-add, get_or-append_seam}
use borrow.Author.Tests.{lt-ltb, le-ltb}
use Rattle.residues.specs.Primes.{all_below}
use Rattle.lists.specs.Lists.{at}
use Rattle.numerals.specs.Bytes.{bytes_of, bytes_of_all, number_at, numbers_at}

-- every number is a byte: past its end a list reads 0, so no length is asked
abbrev pub AreBytes : List ℕ → Type 0
AreBytes l = (i : ℕ) → at l i < 256

-- ---- numbers

pub length-numbers : (w n : ℕ) (B : List ℕ) (i : ℕ) → length (numbers_at w n B i) ≡ n
unfolding numbers_at
length-numbers w zero B i = refl
length-numbers w (suc n) B i = ap suc (length-numbers w n B (i + w))

pub numbers-at : (w n : ℕ) (B : List ℕ) (i k : ℕ) → k < n → at (numbers_at w n B i) k ≡ number_at w B (i + w * k)
unfolding numbers_at
numbers-at w zero B i k h = absurd (omega arith)
numbers-at w (suc n) B i zero h = ap (number_at w B) {x = i} {y = i + w * 0} (omega arith)
numbers-at w (suc n) B i (suc k) h = numbers-at w n B (i + w) k (omega arith) ∙ ap (number_at w B) {x = i + w + w * k} {y = i + w * suc k} (omega arith)

pub no_number : (w n : ℕ) (B : List ℕ) (i k : ℕ) → n ≤ k → at (numbers_at w n B i) k ≡ 0
no_number w n B i k h = get_or-eq_default (numbers_at w n B i) 0 (omega (arith, length-numbers w n B i))

module _ (q w n : ℕ) (B : List ℕ) (i : ℕ) (some : 0 < n) where
  first-number : all_below q (numbers_at w n B i) ≡ (ltb (number_at w B i) q && all_below q (numbers_at w (n - 1) B (i + w)))
  unfolding numbers_at all_below
  first-number = ap (λ (m : ℕ). all_below q (numbers_at w m B i)) {x = n} {y = suc (n - 1)} (omega arith)

  pub number-not-below : q ≤ number_at w B i → all_below q (numbers_at w n B i) ≡ false
  number-not-below h = first-number ∙ ap (λ (t : Bool). t && all_below q (numbers_at w (n - 1) B (i + w))) (le-ltb (number_at w B i) q h)

  pub number-below : number_at w B i < q → all_below q (numbers_at w n B i) ≡ all_below q (numbers_at w (n - 1) B (i + w))
  number-below h = first-number ∙ ap (λ (t : Bool). t && all_below q (numbers_at w (n - 1) B (i + w))) (lt-ltb (number_at w B i) q h)

pub no-numbers-below : (q w : ℕ) (B : List ℕ) (n i : ℕ) → n ≤ 0 → all_below q (numbers_at w n B i) ≡ true
unfolding numbers_at all_below
no-numbers-below q w B n i h = ap (λ (m : ℕ). all_below q (numbers_at w m B i)) {x = n} {y = 0} (omega arith)

-- so many bytes make a number below 256 to their count
pub number_small : (w : ℕ) (B : List ℕ) (i : ℕ) → AreBytes B → number_at w B i < 256 ^ w
unfolding number_at
number_small zero B i b = omega arith
number_small (suc w) B i b = omega (arith, b i, number_small w B (i + 1) b, pow-suc 256 w)

-- ---- bytes

pub length-bytes : (w n : ℕ) → length (bytes_of w n) ≡ w
unfolding bytes_of
length-bytes zero n = refl
length-bytes (suc zero) n = refl
length-bytes (suc (suc w)) n = ap suc (length-bytes (suc w) (n / 256))

pub length-all : (w : ℕ) (K : List ℕ) → length (bytes_of_all w K) ≡ w * length K
unfolding bytes_of_all
length-all w [] = omega arith
length-all w (x ∷ K) = length-append (bytes_of w x) (bytes_of_all w K) ∙ omega (arith, length-bytes w x, length-all w K)

-- the bytes of number k
pub all-at : (w : ℕ) (K : List ℕ) (k : ℕ) → k < length K → take w (drop (w * k) (bytes_of_all w K)) ≡ bytes_of w (at K k)
unfolding bytes_of_all
all-at w [] k h = absurd (omega arith)
all-at w (x ∷ K) zero h =
    ap (λ (n : ℕ). take w (drop n (bytes_of w x ++ bytes_of_all w K))) {x = w * 0} {y = 0} (omega arith)
    ∙ take_at (bytes_of w x) (bytes_of_all w K) w (length-bytes w x)
all-at w (x ∷ K) (suc k) h =
    ap (λ (n : ℕ). take w (drop n (bytes_of w x ++ bytes_of_all w K))) {x = w * suc k} {y = length (bytes_of w x) + w * k} (omega (arith, length-bytes w x))
    ∙ ap (take w) (drop-append-add (bytes_of w x) (bytes_of_all w K) (w * k))
    ∙ all-at w K k (omega arith)

-- the low byte, and the others, where the last needs no more than a byte
pub low_byte : (w n : ℕ) → n < 256 ^ suc w → bytes_of (suc w) n ≡ n % 256 ∷ bytes_of w (n / 256)
unfolding bytes_of
low_byte zero n h = ap (λ (x : ℕ). x ∷ []) {x = n} {y = n % 256} (omega arith)
low_byte (suc w) n h = refl

-- ---- there and back

-- the number of a number's bytes, whatever stands before and after them
pub number-of-bytes : (w : ℕ) (before : List ℕ) (x : ℕ) (after : List ℕ) → 0 < w → number_at w (before ++ (bytes_of w x ++ after)) (length before) ≡ x
unfolding number_at bytes_of
number-of-bytes zero before x after h = absurd (omega arith)
number-of-bytes (suc zero) before x after h = omega (arith, get_or-append_seam before x after 0)
number-of-bytes (suc (suc w)) before x after h =
    let rest : List ℕ = bytes_of (suc w) (x / 256) ++ after in
    let B : List ℕ = before ++ (x % 256 ∷ rest) in
    let low : at B (length before) ≡ x % 256 = get_or-append_seam before (x % 256) rest 0 in
    let high : number_at (suc w) B (length before + 1) ≡ x / 256 =
    ap₂ (number_at (suc w)) (sym (append_snoc before (x % 256) rest)) (sym (length-append before (x % 256 ∷ [])))
    ∙ number-of-bytes (suc w) (before ++ (x % 256 ∷ [])) (x / 256) after (omega arith) in
    omega arith

pub numbers-of-bytes : (w : ℕ) (before K after : List ℕ) → 0 < w → numbers_at w (length K) (before ++ (bytes_of_all w K ++ after)) (length before) ≡ K
unfolding numbers_at bytes_of_all
numbers-of-bytes w before [] after h = refl
numbers-of-bytes w before (x ∷ K) after h =
    let B : List ℕ = before ++ (bytes_of w x ++ bytes_of_all w K ++ after) in
    let split : B ≡ before ++ (bytes_of w x ++ (bytes_of_all w K ++ after)) =
    ap (λ (l : List ℕ). before ++ l) (append_assoc (bytes_of w x) (bytes_of_all w K) after) in
    let same : number_at w B (length before) ≡ x =
    ap (λ (l : List ℕ). number_at w l (length before)) split ∙ number-of-bytes w before x (bytes_of_all w K ++ after) h in
    let next : length before + w ≡ length (before ++ bytes_of w x) = omega (arith, length-append before (bytes_of w x), length-bytes w x) in
    let rest : numbers_at w (length K) B (length before + w) ≡ K =
    ap₂ (numbers_at w (length K)) (split ∙ sym (append_assoc before (bytes_of w x) (bytes_of_all w K ++ after))) next
    ∙ numbers-of-bytes w (before ++ bytes_of w x) K after h in
    ap₂ (λ (n : ℕ) (l : List ℕ). n ∷ l) same rest

-- a byte of a buffer, and two
pub drop-one : (B : List ℕ) (i k : ℕ) → k ≡ i + 1 → k ≤ length B → drop i B ≡ at B i ∷ drop k B
drop-one B i k e h = drop-cons B i 0 (omega arith) ∙ ap (λ (x : ℕ). at B i ∷ drop x B) {x = suc i} {y = k} (omega arith)

pub drop-two : (B : List ℕ) (i j k : ℕ) → j ≡ i + 1 → k ≡ i + 2 → k ≤ length B → drop i B ≡ at B i ∷ at B j ∷ drop k B
drop-two B i j k e f h = drop-one B i j e (omega arith) ∙ ap (λ (l : List ℕ). at B i ∷ l) (drop-one B j k (omega arith) h)

-- the bytes of a buffer's number are those of the buffer
module _ (B : List ℕ) (b : AreBytes B) where
  pub bytes-of-number : (w i k : ℕ) → k ≡ i + w → k ≤ length B → bytes_of w (number_at w B i) ++ drop k B ≡ drop i B
  unfolding number_at bytes_of
  bytes-of-number zero i k e h = ap (λ (x : ℕ). drop x B) {x = k} {y = i} (omega arith)
  bytes-of-number (suc w) i k e h =
      let n : ℕ = number_at w B (i + 1) in
      let low : (at B i + 256 * n) % 256 ≡ at B i = omega (arith, b i) in
      let high : (at B i + 256 * n) / 256 ≡ n = omega (arith, b i) in
      ap (λ (l : List ℕ). l ++ drop k B) (low_byte w (at B i + 256 * n) (number_small (suc w) B i b))
      ∙ ap₂ (λ (x y : ℕ). x ∷ (bytes_of w y ++ drop k B)) low high
      ∙ ap (λ (l : List ℕ). at B i ∷ l) (bytes-of-number w (i + 1) k (omega arith) h)
      ∙ sym (drop-one B i (i + 1) refl (omega arith))

  pub bytes-of-numbers : (w n i k : ℕ) → k ≡ i + w * n → k ≤ length B → bytes_of_all w (numbers_at w n B i) ++ drop k B ≡ drop i B
  unfolding numbers_at bytes_of_all
  bytes-of-numbers w zero i k e h = ap (λ (x : ℕ). drop x B) {x = k} {y = i} (omega arith)
  bytes-of-numbers w (suc n) i k e h =
      append_assoc (bytes_of w (number_at w B i)) (bytes_of_all w (numbers_at w n B (i + w))) (drop k B)
      ∙ ap (λ (l : List ℕ). bytes_of w (number_at w B i) ++ l) (bytes-of-numbers w n (i + w) k (omega arith) h)
      ∙ bytes-of-number w i (i + w) refl (omega arith)

-- ---- numbers below 256

pub no_bytes : AreBytes []
no_bytes i = omega arith

pub byte_more : (x : ℕ) (l : List ℕ) → x < 256 → AreBytes l → AreBytes (x ∷ l)
byte_more x l h b zero = h
byte_more x l h b (suc i) = b i

pub bytes-append : (k l : List ℕ) → AreBytes k → AreBytes l → AreBytes (k ++ l)
bytes-append [] l a b = b
bytes-append (x ∷ k) l a b = byte_more x (k ++ l) (a 0) (bytes-append k l (λ i. a (suc i)) b)

pub number-bytes : (w n : ℕ) → n < 256 ^ w → AreBytes (bytes_of w n)
unfolding bytes_of
number-bytes zero n h = no_bytes
number-bytes (suc w) n h =
    let few : n / 256 < 256 ^ w = omega (arith, pow-suc 256 w) in
    rw (low_byte w n h) (byte_more (n % 256) (bytes_of w (n / 256)) (omega arith) (number-bytes w (n / 256) few))

pub numbers-bytes : (w : ℕ) (K : List ℕ) → ((i : ℕ) → at K i < 256 ^ w) → AreBytes (bytes_of_all w K)
unfolding bytes_of_all
numbers-bytes w [] h = no_bytes
numbers-bytes w (x ∷ K) h = bytes-append (bytes_of w x) (bytes_of_all w K) (number-bytes w x (h 0)) (numbers-bytes w K (λ i. h (suc i)))
