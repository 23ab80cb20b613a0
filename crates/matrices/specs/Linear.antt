-- Linear algebra modulo q. A row is a list of numbers, a matrix a list of rows; n is the number of columns.
use Rattle.std.specs.Prelude.{◌≡◌, List, [], ◌∷◌, map, ℕ, ◌+◌, ◌*◌, ◌%◌, ◌<◌, length}
use Rattle.lists.specs.Lists.{at, zeros}

-- n numbers below q
pub record Vector (q n : ℕ) (r : List ℕ) : Type 0 where
  pub size : length r ≡ n
  pub small : (i : ℕ) → i < n → at r i < q

-- the sum of two rows (a missing number is 0), and a multiple of one
abbrev pub add : List ℕ → List ℕ → List ℕ
add [] y = y
add (a ∷ x) [] = a ∷ x
add (a ∷ x) (b ∷ y) = (a + b) ∷ add x y

abbrev pub scale : ℕ → List ℕ → List ℕ
scale k [] = []
scale k (a ∷ x) = (k * a) ∷ scale k x

abbrev pub reduce : ℕ → List ℕ → List ℕ
reduce q = map (λ (a : ℕ). a % q)

-- the combination of the rows S with the coefficients cs, and the same modulo q
abbrev pub comb_n : ℕ → List ℕ → List (List ℕ) → List ℕ
comb_n n [] S = zeros n
comb_n n (c ∷ cs) [] = zeros n
comb_n n (c ∷ cs) (s ∷ S) = add (scale c s) (comb_n n cs S)

abbrev pub comb : ℕ → ℕ → List ℕ → List (List ℕ) → List ℕ
comb q n cs S = reduce q (comb_n n cs S)
