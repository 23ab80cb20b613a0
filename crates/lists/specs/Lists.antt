-- Lists made of their entries, and lists one after the other.
use Rattle.std.specs.Prelude.{ℕ, zero, suc, Bool, cond, List, [], ◌∷◌, ◌++◌, get_or, replicate}

-- the entry at index i, 0 past the end
abbrev pub at : List ℕ → ℕ → ℕ
at r i = get_or r i 0

-- each member of a list has the property
abbrev pub All : {A : Type 0} → (A → Type 0) → List A → Type 0
All P [] = Unit {0}
All P (x ∷ l) = P x × All P l

-- n zeros
abbrev pub zeros : ℕ → List ℕ
zeros n = replicate n 0

-- f 0, f 1, .., f (n - 1)
unfoldable pub tab : {A : Type 0} → ℕ → (ℕ → A) → List A
tab zero f = []
tab (suc n) f = f 0 ∷ tab n (λ k. f (suc k))

-- the lists f 0, f 1, .., f (n - 1), one after the other
unfoldable pub join_to : {A : Type 0} → ℕ → (ℕ → List A) → List A
join_to zero f = []
join_to (suc n) f = join_to n f ++ f n

-- the lists f i of those i below n that b picks
unfoldable pub picked : {A : Type 0} → ℕ → (ℕ → Bool) → (ℕ → List A) → List A
unfolding join_to
picked n b f = join_to n (λ i. cond (b i) (f i) [])
