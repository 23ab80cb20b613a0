-- The rank of a matrix modulo q: how many of its rows are not in the span of the rows before them.
use Rattle.std.specs.Prelude.{ℕ, zero, suc, ◌+◌, Bool, true, false, cond, ◌&&◌, List, [], ◌∷◌, ◌++◌, eqb, length}
use Rattle.lists.specs.Search.{any_to}
use Rattle.matrices.specs.Linear.{comb}

-- has some list of n numbers below q the property?
unfoldable pub any_list : ℕ → ℕ → (List ℕ → Bool) → Bool
unfolding any_to
any_list q zero p = p []
any_list q (suc n) p = any_to q (λ x. any_list q n (λ l. p (x ∷ l)))

-- are two lists equal?
unfoldable pub same_list : List ℕ → List ℕ → Bool
same_list [] [] = true
same_list [] (y ∷ ys) = false
same_list (x ∷ xs) [] = false
same_list (x ∷ xs) (y ∷ ys) = eqb x y && same_list xs ys

-- is r a combination of the rows S? By trying all coefficients
unfoldable pub in_span : ℕ → ℕ → List (List ℕ) → List ℕ → Bool
in_span q n S r = any_list q (length S) (λ cs. same_list (comb q n cs S) r)

-- how many of the rows C are not in the span of G and the rows of C before them
unfoldable pub rank_over : ℕ → ℕ → List (List ℕ) → List (List ℕ) → ℕ
rank_over q n G [] = 0
rank_over q n G (c ∷ C) = cond (in_span q n G c) 0 1 + rank_over q n (G ++ (c ∷ [])) C

abbrev pub rank_of : ℕ → ℕ → List (List ℕ) → ℕ
rank_of q n S = rank_over q n [] S
