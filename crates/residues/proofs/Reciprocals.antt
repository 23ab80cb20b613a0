-- Products modulo q without a division by q. Of a number a the fraction w is what a is of q as a part of a width M, rounded up, or one more where that is
-- whole. With it the product of a with any b modulo q takes multiplications, and divisions by M alone; and it comes itself of a reciprocal of q that serves
-- every a.
use Prim.Native.Nat.{ℕ, ◌+◌, ◌-◌, ◌*◌, ◌/◌, ◌%◌, ◌≤◌, ◌<◌}
use mathlib.Core.Path.{◌≡◌, sym, ap, ◌∙◌}
use native.Mathlib.Nat.{mul-le-mul, le_of_mul-le-mul_right, lt_of_mul-lt-mul_right, mod-lt, mod-eq_of_lt, mul-add-mod_self_right}
use native.Mathlib.Nat.{div-add-mod', div-mul-le_self, lt-div-mul-add, div-eq_of_lt-le, add-mul-mod_self_left}
use native.Mathlib.Omega.{arith}

-- m is how often q goes into the largest number below M M
module _ (q M m a : ℕ) (most : m * q < M * M) (near : M * M ≤ m * q + q) (h : a < q) (wide : q < M) where
  -- a's parts of the width by it, by both halves of m
  abbrev pub parts : ℕ
  parts = a * (m / M) + a * (m % M) / M

  -- the whole part of a m by the width
  within : (parts * M ≤ a * m) × (a * m < parts * M + M)
  within =
      let x : ℕ = a * (m % M) in
      let split : a * (m / M * M + m % M) ≡ a * m = ap (λ (n : ℕ). a * n) (div-add-mod' m M) in
      (omega (arith, div-mul-le_self x M), omega (arith, lt-div-mul-add {a = x} {b = M} (omega arith)))

  -- they are not too many, and at most two too few
  pub parts-under : parts * q ≤ a * M
  parts-under =
      le_of_mul-le-mul_right {m = parts * q} {n = a * M} {k = M}
      (omega (
        arith,
        mul-le-mul {n₁ = parts * M} {m₁ = q} {n₂ = a * m} {m₂ = q} within.0 (omega arith),
        mul-le-mul {n₁ = a} {m₁ = m * q} {n₂ = a} {m₂ = M * M} (omega arith) (omega arith),
      ))
      (omega arith)

  pub parts-over : a * M < parts * q + q + q
  parts-over =
      lt_of_mul-lt-mul_right M {m = a * M} {n = parts * q + q + q}
      (omega (
        arith,
        mul-le-mul {n₁ = a * m + 1} {m₁ = q} {n₂ = parts * M + M} {m₂ = q} (omega (arith, within.1)) (omega arith),
        mul-le-mul {n₁ = a} {m₁ = M * M} {n₂ = a} {m₂ = m * q + q} (omega arith) near,
        mul-le-mul {n₁ = a} {m₁ = q} {n₂ = M} {m₂ = q} (omega arith) (omega arith),
      ))

-- a fraction is within the width
pub fraction-fits : (q M a w : ℕ) → q < M → a < q → w * q ≤ a * M + q → w < M
fraction-fits q M a w wide h high =
    lt_of_mul-lt-mul_right q
    (omega (arith, mul-le-mul {n₁ = a + 1} {m₁ = M} {n₂ = q} {m₂ = M} (omega arith) (omega arith)))

module _ (q M a b w : ℕ) (low : a * M ≤ w * q) (high : w * q ≤ a * M + q) where
  -- the whole part of w b by the width is that of a b by q, or one more
  pub fraction-over : 0 < M → 0 < q → a * b < w * b / M * q + q
  fraction-over wide some =
      let g : ℕ = w * b / M in
      lt_of_mul-lt-mul_right M
      (omega (
        arith,
        mul-le-mul {n₁ = a * M} {m₁ = b} {n₂ = w * q} {m₂ = b} low (omega arith),
        mul-le-mul {n₁ = w * b + 1} {m₁ = q} {n₂ = g * M + M} {m₂ = q} (omega (arith, lt-div-mul-add {a = w * b} {b = M} wide)) (omega arith),
      ))

  pub fraction-under : b < M → w * b / M * q ≤ a * b + q
  fraction-under h =
      let g : ℕ = w * b / M in
      le_of_mul-le-mul_right {m = g * q} {n = a * b + q} {k = M}
      (omega (
        arith,
        mul-le-mul {n₁ = w * q} {m₁ = b} {n₂ = a * M + q} {m₂ = b} (omega arith) (omega arith),
        mul-le-mul {n₁ = q} {m₁ = b} {n₂ = q} {m₂ = M} (omega arith) (omega arith),
        mul-le-mul {n₁ = g * M} {m₁ = q} {n₂ = w * b} {m₂ = q} (div-mul-le_self (w * b) M) (omega arith),
      ))
      (omega arith)

  -- where q q is within the width the rest of w b is exact: as many parts of the width as a b modulo q is of q
  pub fraction-exact : q * q ≤ M → b < q → w * b % M * q / M ≡ a * b % q
  fraction-exact wide h =
      let Q : ℕ = a * b / q in
      let r : ℕ = a * b % q in
      let split : Q * q + r ≡ a * b = div-add-mod' (a * b) q in
      let below : r < q = mod-lt (a * b) (omega arith) in
      let least : a * M * b ≤ w * q * b = mul-le-mul {n₁ = a * M} {m₁ = b} {n₂ = w * q} {m₂ = b} low (omega arith) in
      let most : w * q * b ≤ (a * M + q) * b = mul-le-mul {n₁ = w * q} {m₁ = b} {n₂ = a * M + q} {m₂ = b} (omega arith) (omega arith) in
      let spread : (Q * q + r) * M ≡ a * b * M = ap (λ (n : ℕ). n * M) split in
      let square : q * (b + 1) ≤ q * q = mul-le-mul {n₁ = q} {m₁ = b + 1} {n₂ = q} {m₂ = q} (omega arith) (omega arith) in
      let whole : Q * M ≤ w * b = le_of_mul-le-mul_right {m = Q * M} {n = w * b} {k = q} (omega arith) (omega arith) in
      let m : ℕ = w * b - Q * M in
      let parts : w * b ≡ Q * M + m = omega arith in
      let scaled : w * b * q ≡ (Q * M + m) * q = ap (λ (n : ℕ). n * q) parts in
      let up : (r + 1) * M ≤ q * M = mul-le-mul {n₁ = r + 1} {m₁ = M} {n₂ = q} {m₂ = M} (omega arith) (omega arith) in
      let fits : m < M = lt_of_mul-lt-mul_right q {m = m} {n = M} (omega arith) in
      let rest : w * b % M ≡ m = ap (λ (n : ℕ). n % M) parts ∙ mul-add-mod_self_right Q M m ∙ mod-eq_of_lt fits in
      ap (λ (n : ℕ). n * q / M) rest ∙ div-eq_of_lt-le M (omega arith) (omega arith)

-- what is left when q comes off g times, at most once too often
pub less-times : (q x g : ℕ) → g * q ≤ x + q → (x + q - g * q) % q ≡ x % q
less-times q x g h =
    sym (add-mul-mod_self_left (x + q - g * q) q g)
    ∙ ap (λ (n : ℕ). n % q) (let e : x + q - g * q + q * g ≡ x + q * 1 = omega arith in e)
    ∙ add-mul-mod_self_left x q 1
