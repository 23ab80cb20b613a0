-- What the laws of rows speak of, and no promise: products, spans as records, independence, and systems of equations.
use mathlib.Core.Path.{◌≡◌}
use mathlib.Core.List.{List, [], ◌∷◌, ◌++◌, map}
use Prim.Native.Nat.{ℕ, ◌+◌, ◌*◌, ◌%◌}
use lib.ListN.{length}
use Rattle.lists.specs.Lists.{All, zeros}
use Rattle.matrices.specs.Linear.{Vector, comb}

-- the sum of the products of two rows, and the same modulo q
abbrev pub dot_n : List ℕ → List ℕ → ℕ
dot_n [] y = 0
dot_n (a ∷ x) [] = 0
dot_n (a ∷ x) (b ∷ y) = a * b + dot_n x y

abbrev pub dot : ℕ → List ℕ → List ℕ → ℕ
dot q x y = dot_n x y % q

-- some coefficients combine the rows S to r
pub record InSpan (q n : ℕ) (S : List (List ℕ)) (r : List ℕ) : Type 0 where
  pub coefficients : List ℕ
  pub one_each : length coefficients ≡ length S
  pub makes : comb q n coefficients S ≡ r

-- M is orthogonal to each of the rows S, and has the product 1 with r
pub record Separated (q n : ℕ) (S : List (List ℕ)) (r : List ℕ) : Type 0 where
  pub M : List ℕ
  pub valid : Vector q n M
  pub orthogonal : All (λ s. dot q s M ≡ 0) S
  pub one : dot q r M ≡ 1

-- no row of C is in the span of the rows G and the rows of C before it
abbrev pub Independent : ℕ → ℕ → List (List ℕ) → List (List ℕ) → Type 0
Independent q n G [] = Unit {0}
Independent q n G (c ∷ C) = (InSpan q n G c → ⊥) × Independent q n (G ++ (c ∷ [])) C

-- N has the product 0 with each of G, and the products d with the rows of C
pub record Solution (q n : ℕ) (G C : List (List ℕ)) (d : List ℕ) : Type 0 where
  pub N : List ℕ
  pub valid : Vector q n N
  pub none : All (λ g. dot q g N ≡ 0) G
  pub hits : map (λ c. dot q c N) C ≡ d

-- only coefficients that are 0 combine the rows to 0
abbrev pub LinearlyIndependent : ℕ → ℕ → List (List ℕ) → Type 0
LinearlyIndependent q n S =
    (cs : List ℕ) → length cs ≡ length S → comb q n cs S ≡ zeros n → All (λ c. c % q ≡ 0) cs

-- some of the rows S, in their order
pub data Selection : List (List ℕ) → List (List ℕ) → Type 0 where
  none : Selection [] []
  take : {c : List ℕ} {C S : List (List ℕ)} → Selection C S → Selection (c ∷ C) (c ∷ S)
  skip : {c : List ℕ} {C S : List (List ℕ)} → Selection C S → Selection C (c ∷ S)
