-- The checked rank. Document 01, "Order": "Rank, of 0 to 48 rows and 0 to 48 columns: 1, 4, 2, 3."
use Rattle.std.specs.Prelude.{ℕ, ◌*◌, Bool, not, ◌&&◌, List, [], ◌∷◌, leb, eqb, length}
use Rattle.refusals.specs.declared.Code.{Code}
use Rattle.refusals.specs.Codes.{code}
use Rattle.residues.specs.Primes.{is_prime, all_below}

abbrev pub rank_checks : ℕ → ℕ → ℕ → List ℕ → List (Bool × Code)
rank_checks q rows cols T =
    (not (leb rows 48 && leb cols 48), code 1)
    ∷ (not (eqb (rows * cols) (length T)), code 4)
    ∷ (not (is_prime q), code 2)
    ∷ (not (all_below q T), code 3)
    ∷ []
