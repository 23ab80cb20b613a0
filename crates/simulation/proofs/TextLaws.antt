-- A line of five numbers, put together.
use Prim.Native.Nat.{ℕ, ◌≤◌}
use mathlib.Core.Path.{◌≡◌, sym, ap, ◌∙◌}
use mathlib.Core.List.{List, [], ◌∷◌, ◌++◌, append_assoc}
use native.Mathlib.Omega.{arith}
use lib.IntN.{ℤ}
use lib.ListN.{length, length-append}
use Rattle.texts.specs.declared.Line.{Line}
use Rattle.texts.specs.Texts.{decimal, signed_decimal, field, line_with, typed}
use Rattle.texts.proofs.LineLaws.{field-length, signed-length, typed-on}

-- a space after one number goes before the next
shift : (x y : List ℕ) → (x ++ (0x20 ∷ [])) ++ y ≡ x ++ (0x20 ∷ y)
shift x y = append_assoc x (0x20 ∷ []) y

join : (x y : List ℕ) → (x ++ (0x20 ∷ [])) ++ (y ++ (0x20 ∷ [])) ≡ (x ++ (0x20 ∷ y)) ++ (0x20 ∷ [])
join x y = sym (append_assoc (x ++ (0x20 ∷ [])) y (0x20 ∷ [])) ∙ ap (λ (l : List ℕ). l ++ (0x20 ∷ [])) (shift x y)

module _ (n a b d : ℕ) (w : ℤ) where
  abbrev two : List ℕ
  two = field n 0x20 ++ field a 0x20

  abbrev three : List ℕ
  three = two ++ field b 0x20

  abbrev four : List ℕ
  four = three ++ field d 0x20

  abbrev five : List ℕ
  five = four ++ signed_decimal w

  two-length : length two ≤ 22
  two-length = omega (arith, length-append (field n 0x20) (field a 0x20), field-length n 0x20, field-length a 0x20)

  three-length : length three ≤ 33
  three-length = omega (arith, length-append two (field b 0x20), two-length, field-length b 0x20)

  four-length : length four ≤ 44
  four-length = omega (arith, length-append three (field d 0x20), three-length, field-length d 0x20)

  five-length : length five ≤ 55
  five-length = omega (arith, length-append four (signed_decimal w), four-length, signed-length w)

  spaced : five ++ (0x0a ∷ []) ≡ (decimal n ++ 0x20 ∷ decimal a ++ 0x20 ∷ decimal b ++ 0x20 ∷ decimal d ++ 0x20 ∷ signed_decimal w ++ (0x0a ∷ []))
  spaced =
      let x₂ : List ℕ = decimal n ++ (0x20 ∷ decimal a) in
      let x₃ : List ℕ = x₂ ++ (0x20 ∷ decimal b) in
      let x₄ : List ℕ = x₃ ++ (0x20 ∷ decimal d) in
      let e₂ : two ≡ x₂ ++ (0x20 ∷ []) = join (decimal n) (decimal a) in
      let e₃ : three ≡ x₃ ++ (0x20 ∷ []) = ap (λ (l : List ℕ). l ++ field b 0x20) e₂ ∙ join x₂ (decimal b) in
      let e₄ : four ≡ x₄ ++ (0x20 ∷ []) = ap (λ (l : List ℕ). l ++ field d 0x20) e₃ ∙ join x₃ (decimal d) in
      ap (λ (l : List ℕ). l ++ (0x0a ∷ [])) (ap (λ (l : List ℕ). l ++ signed_decimal w) e₄ ∙ shift x₄ (signed_decimal w))

  -- whatever the numbers are, a line has room for them
  pub text-length : length (decimal n ++ 0x20 ∷ decimal a ++ 0x20 ∷ decimal b ++ 0x20 ∷ decimal d ++ 0x20 ∷ signed_decimal w ++ (0x0a ∷ [])) ≤ 56
  text-length = omega (arith, five-length, length-append five (0x0a ∷ []), ap length spaced)

  pub text-typed : (x₀ x₁ x₂ x₃ x₄ x₅ x₆ : Line) → x₀ ≡ line_with [] → x₁ ≡ typed x₀ (field n 0x20) → x₂ ≡ typed x₁ (field a 0x20)
      → x₃ ≡ typed x₂ (field b 0x20) → x₄ ≡ typed x₃ (field d 0x20) → x₅ ≡ typed x₄ (signed_decimal w) → x₆ ≡ typed x₅ (0x0a ∷ [])
      → x₆ ≡ line_with (decimal n ++ 0x20 ∷ decimal a ++ 0x20 ∷ decimal b ++ 0x20 ∷ decimal d ++ 0x20 ∷ signed_decimal w ++ (0x0a ∷ []))
  text-typed x₀ x₁ x₂ x₃ x₄ x₅ x₆ e₀ e₁ e₂ e₃ e₄ e₅ e₆ =
      let f₁ : x₁ ≡ line_with (field n 0x20) = typed-on [] (field n 0x20) x₀ x₁ (omega (arith, field-length n 0x20)) e₀ e₁ in
      let f₂ : x₂ ≡ line_with two = typed-on (field n 0x20) (field a 0x20) x₁ x₂ (omega (arith, field-length n 0x20, field-length a 0x20)) f₁ e₂ in
      let f₃ : x₃ ≡ line_with three = typed-on two (field b 0x20) x₂ x₃ (omega (arith, two-length, field-length b 0x20)) f₂ e₃ in
      let f₄ : x₄ ≡ line_with four = typed-on three (field d 0x20) x₃ x₄ (omega (arith, three-length, field-length d 0x20)) f₃ e₄ in
      let f₅ : x₅ ≡ line_with five = typed-on four (signed_decimal w) x₄ x₅ (omega (arith, four-length, signed-length w)) f₄ e₅ in
      typed-on five (0x0a ∷ []) x₅ x₆ (omega (arith, five-length)) f₅ e₆ ∙ ap line_with spaced
