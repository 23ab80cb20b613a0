-- Numbers drawn from a seed, and arithmetic. All are shut, so that a caller's proof meets short names only.
use Rattle.std.specs.Prelude.{ℕ, zero, suc, ◌+◌, ◌*◌, ◌/◌, ◌%◌, Bool, cond, ◌||◌, [], ◌∷◌, eqb, ltb, get_or}
use Rattle.std.specs.Int.Bits.{bit_xor}
use Rattle.residues.specs.Field.{residue}

-- what a leaves when divided by n, and how often n is in a; 0 where n is 0
unfoldable pub residue_of : ℕ → ℕ → ℕ
residue_of n a = residue n a

unfoldable pub quotient_of : ℕ → ℕ → ℕ
quotient_of n a = cond (eqb n 0) 0 (a / n)

-- the lower 16 bits of a number, and the product of two such
unfoldable pub low : ℕ → ℕ
low a = a % 65536

unfoldable pub low_product : ℕ → ℕ → ℕ
low_product a b = low a * low b

unfoldable pub mul_add_of : ℕ → ℕ → ℕ → ℕ
mul_add_of a m b = a % 1099511627776 + low_product m b

-- the lower 32 bits of a number, which make a symbol; the product of two symbols modulo q, and repeated multiplication
unfoldable pub symbol_of : ℕ → ℕ
symbol_of a = a % 4294967296

unfoldable pub product_mod_of : ℕ → ℕ → ℕ → ℕ
product_mod_of q a b = residue_of q (symbol_of a * symbol_of b)

unfoldable pub power_of : ℕ → ℕ → ℕ → ℕ
power_of q a zero = residue_of q 1
power_of q a (suc n) = product_mod_of q (power_of q a n) a

-- how many numbers below n have the property
unfoldable pub how_many : ℕ → (ℕ → Bool) → ℕ
how_many zero f = 0
how_many (suc n) f = how_many n f + cond (f n) 1 0

-- the smaller of two numbers; a number, or another one where there is a fault; is a none of 1 to n?
unfoldable pub clip_of : ℕ → ℕ → ℕ
clip_of n most = cond (ltb most n) most n

-- the primes that are tried; the largest from place 10 on
unfoldable pub prime_of : ℕ → ℕ
prime_of n = get_or (2 ∷ 3 ∷ 5 ∷ 7 ∷ 257 ∷ 65519 ∷ 65521 ∷ 65537 ∷ 2147483647 ∷ 4294967279 ∷ 4294967291 ∷ []) (clip_of n 10) 0

unfoldable pub over_of : Bool → ℕ → ℕ → ℕ
over_of fault number otherwise = cond fault number otherwise

unfoldable pub outside_of : ℕ → ℕ → Bool
outside_of a n = ltb a 1 || ltb n a

-- ---- numbers drawn

-- the state after x, of 32 bits
unfoldable pub step_of : ℕ → ℕ
step_of x = (bit_xor (x % 4294967296) (x % 4294967296 / 65536) % 4294967296 * 73244475 + 1013904223) % 4294967296

unfoldable pub seed_of : ℕ → ℕ
seed_of x = step_of (step_of (step_of x))

-- a number below n, of a state's upper half
unfoldable pub draw_of : ℕ → ℕ → ℕ
draw_of x n = residue_of n (x / 65536)

-- number i of the seed x, of 32 bits and of 16
unfoldable pub state_of : ℕ → ℕ → ℕ
state_of x i = seed_of (x % 4294967296 + i % 65536 * 65537)

unfoldable pub drawn_of : ℕ → ℕ → ℕ
drawn_of x i = state_of x i / 65536 % 65536
