-- What a private function of the test computes. Nothing here has to be believed: proofs tie it to `Primes.is_prime`, of residues.
use Rattle.std.specs.Prelude.{ℕ, ◌*◌, ◌%◌, Bool, false, ◌||◌, List, [], ◌∷◌, leb, ltb, true, ◌&&◌}

-- is q times some number of the first list, modulo 2 ^ 32, at most the number of the second that stands at its place?
unfoldable pub some_exact : ℕ → List ℕ → List ℕ → Bool
some_exact q [] ls = false
some_exact q (v ∷ vs) [] = false
some_exact q (v ∷ vs) (l ∷ ls) = leb (q * v % 4294967296) l || some_exact q vs ls

-- is each number of the list less than the next?
unfoldable pub is_ascending : List ℕ → Bool
is_ascending [] = true
is_ascending (x ∷ []) = true
is_ascending (x ∷ y ∷ s) = ltb x y && is_ascending (y ∷ s)
