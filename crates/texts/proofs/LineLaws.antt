-- A line that is typed byte by byte holds the text; a number's digits are those of its tenth, and the last one after them.
use Prim.Native.Nat.{ℕ, zero, suc, ◌+◌, ◌-◌, ◌/◌, ◌%◌, ◌^◌, ◌≤◌, ◌<◌}
use mathlib.Core.Path.{◌≡◌, refl, sym, ap, ◌∙◌}
use mathlib.Core.Bool.{Bool, true, false, cond}
use mathlib.Core.List.{List, [], ◌∷◌, ◌++◌, append_assoc, append-nil}
use native.Mathlib.Omega.{arith}
use lib.Dec.{ltb}
use lib.IntN.{ℤ, pos, negsuc}
use lib.ListN.{length, set, length-append}
use borrow.Author.Tests.{lt-ltb, le-ltb}
use Rattle.lists.specs.Lists.{zeros}
use Rattle.texts.specs.declared.Line.{Line}
use Rattle.texts.specs.Texts.{digits_of, decimal, signed_decimal, field, line_with, typed}

-- ---- typing

-- one byte
abbrev one : Line → ℕ → Line
one l x = cond (ltb l.length 56) (record { text = set l.text l.length x; length = l.length + 1 }) l

pub typed-append : (l : Line) (a b : List ℕ) → typed l (a ++ b) ≡ typed (typed l a) b
unfolding typed
typed-append l [] b = refl
typed-append l (x ∷ a) b = typed-append (one l x) a b

set-end : (t r : List ℕ) (y x : ℕ) → set (t ++ (y ∷ r)) (length t) x ≡ t ++ (x ∷ r)
set-end [] r y x = refl
set-end (a ∷ t) r y x = ap (λ (l : List ℕ). a ∷ l) (set-end t r y x)

one_more : (t : List ℕ) (x : ℕ) → length t < 56
    → record { text = set (t ++ zeros (56 - length t)) (length t) x; length = length t + 1 } ≡ line_with (t ++ (x ∷ []))
one_more t x h =
    let m : ℕ = 56 - (length t + 1) in
    let room : 56 - length t ≡ suc m = omega arith in
    let longer : length (t ++ (x ∷ [])) ≡ length t + 1 = length-append t (x ∷ []) in
    let text : set (t ++ zeros (56 - length t)) (length t) x ≡ t ++ (x ∷ []) ++ zeros (56 - length (t ++ (x ∷ []))) =
    ap (λ (k : ℕ). set (t ++ zeros k) (length t) x) room
    ∙ set-end t (zeros m) 0 x
    ∙ sym (append_assoc t (x ∷ []) (zeros m))
    ∙ ap (λ (k : ℕ). t ++ (x ∷ []) ++ zeros (56 - k)) (sym longer) in
    λ i. record { text = text i; length = sym longer i }

pub typed-with : (t b : List ℕ) → length t + length b ≤ 56 → typed (line_with t) b ≡ line_with (t ++ b)
unfolding typed
typed-with t [] h = ap line_with (sym (append-nil t))
typed-with t (x ∷ b) h =
    ap (λ (w : Bool). typed (cond w (record { text = set (t ++ zeros (56 - length t)) (length t) x; length = length t + 1 }) (line_with t)) b)
    (lt-ltb (length t) 56 (omega arith))
    ∙ ap (λ (l : Line). typed l b) (one_more t x (omega arith))
    ∙ typed-with (t ++ (x ∷ [])) b (omega (arith, length-append t (x ∷ [])))
    ∙ ap line_with (append_assoc t (x ∷ []) b)

-- its places have room for it
pub line-room : (l : Line) (text : List ℕ) → l ≡ line_with text → l.length ≤ length l.text
line-room l text e =
    omega (arith, ap (λ (x : Line). x.length) e, ap (λ (x : Line). length x.text) e, length-append text (zeros (56 - length text)))

-- ---- digits

pub digits-length : (k n : ℕ) → length (digits_of k n) ≤ k
unfolding digits_of
digits-length zero n = omega arith
digits-length (suc k) n = step (ltb n 10) (digits-length k (n / 10))
  where
    step : (b : Bool) → length (digits_of k (n / 10)) ≤ k → length (cond b ((0x30 + n) ∷ []) (digits_of k (n / 10) ++ ((0x30 + n % 10) ∷ []))) ≤ suc k
    step true h = omega arith
    step false h = omega (arith, length-append (digits_of k (n / 10)) ((0x30 + n % 10) ∷ []))

-- a number below 10 to the power k + 1 has no more than k + 1 digits
more_room : (k n : ℕ) → n < 10 ^ suc k → digits_of (suc k) n ≡ digits_of (suc (suc k)) n
unfolding digits_of
more_room zero n h = rw (lt-ltb n 10 (omega arith)) refl
more_room (suc k) n h =
    ap (λ (l : List ℕ). cond (ltb n 10) ((0x30 + n) ∷ []) (l ++ ((0x30 + n % 10) ∷ []))) (more_room k (n / 10) (omega arith))

pub one-digit : (n : ℕ) → n < 10 → decimal n ≡ (0x30 + n) ∷ []
unfolding digits_of
one-digit n h = rw (lt-ltb n 10 h) refl

pub last-digit : (n : ℕ) → n < 4294967296 → 10 ≤ n → decimal n ≡ decimal (n / 10) ++ ((0x30 + n % 10) ∷ [])
unfolding digits_of
last-digit n h l =
    rw (le-ltb n 10 l) (ap (λ (d : List ℕ). d ++ ((0x30 + n % 10) ∷ [])) (more_room 8 (n / 10) (omega arith)))

pub field-length : (n end : ℕ) → length (field n end) ≤ 11
field-length n end = omega (arith, length-append (decimal n) (end ∷ []), digits-length 10 n)

pub signed-length : (w : ℤ) → length (signed_decimal w) ≤ 11
signed-length (pos n) = omega (arith, digits-length 10 n)
signed-length (negsuc n) = omega (arith, digits-length 10 (suc n))

-- a text typed behind a line's: what a chain of calls leaves
pub typed-on : (text more : List ℕ) (l r : Line) → length text + length more ≤ 56 → l ≡ line_with text → r ≡ typed l more → r ≡ line_with (text ++ more)
typed-on text more l r h e f = f ∙ ap (λ (x : Line). typed x more) e ∙ typed-with text more h
