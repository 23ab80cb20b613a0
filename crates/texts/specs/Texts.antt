-- Lines of text that programs print. A line has 56 places, with 0 past its end.
use Rattle.std.specs.Prelude.{ℕ, zero, suc, ◌+◌, ◌-◌, ◌/◌, ◌%◌, cond, List, [], ◌∷◌, ◌++◌, ltb, ℤ, pos, negsuc, length, set}
use Rattle.lists.specs.Lists.{zeros}
use Rattle.texts.specs.declared.Line.{Line}

-- the decimal digits of a number of at most k digits, and of one of at most ten
unfoldable pub digits_of : ℕ → ℕ → List ℕ
digits_of zero n = []
digits_of (suc k) n = cond (ltb n 10) ((0x30 + n) ∷ []) (digits_of k (n / 10) ++ ((0x30 + n % 10) ∷ []))

abbrev pub decimal : ℕ → List ℕ
decimal n = digits_of 10 n

-- a number below 0 has its sign before it
abbrev pub signed_decimal : ℤ → List ℕ
signed_decimal (pos n) = decimal n
signed_decimal (negsuc n) = 0x2d ∷ decimal (suc n)

-- a number and the byte after it
abbrev pub field : ℕ → ℕ → List ℕ
field n end = decimal n ++ (end ∷ [])

-- a text in a line's places
abbrev pub line_with : List ℕ → Line
line_with text = record { text = text ++ zeros (56 - length text); length = length text }

-- a line after some bytes: each behind the last one, as long as there is a place
unfoldable pub typed : Line → List ℕ → Line
typed l [] = l
typed l (byte ∷ bytes) =
    typed (cond (ltb l.length 56) (record { text = set l.text l.length byte; length = l.length + 1 }) l) bytes
