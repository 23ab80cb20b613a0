-- One turn more of a loop that counts or writes, in terms of what the turns before it did.
use Prim.Native.Nat.{ℕ, zero, suc, ◌+◌}
use mathlib.Core.Path.{◌≡◌, refl}
use mathlib.Core.Bool.{Bool, true, false}
use mathlib.Core.List.{List}
use native.Mathlib.Numerals.{add-one}
use native.Mathlib.Omega.{arith}
use lib.ListN.{length, length-set}
use Rattle.testing.specs.Numbers.{mul_add_of, how_many}
use Rattle.testing.specs.Slices.{at, replaced, overwritten, column_of}

module _ (f : ℕ → Bool) (i : ℕ) where
  pub counted : f i ≡ true → how_many (i + 1) f ≡ how_many i f + 1
  unfolding how_many
  counted e = rw (add-one i, e)

  pub passed_over : f i ≡ false → how_many (i + 1) f ≡ how_many i f
  unfolding how_many
  passed_over e = rw (add-one, e) (omega arith)

module _ (f : ℕ → ℕ) (l : List ℕ) where
  pub written_next : (i : ℕ) → overwritten (i + 1) f l ≡ replaced (overwritten i f l) i (f i)
  unfolding overwritten
  written_next i = rw add-one

  pub length-written : (n : ℕ) → length (overwritten n f l) ≡ length l
  unfolding overwritten replaced
  length-written zero = refl
  length-written (suc n) = rw length-set (length-written n)

pub column-next : (l : List ℕ) (i cols k : ℕ) → column_of l (i + 1) cols k ≡ column_of l i cols k + at l (mul_add_of k i cols)
unfolding column_of
column-next l i cols k = rw (add-one i)
