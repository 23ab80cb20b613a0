-- What `eliminate` does to spans: afterwards a row is in the span of others exactly where before it was in the span of the row eliminated by and those.
use mathlib.Core.Logic.{◌↔◌}
use mathlib.Core.List.{List, [], ◌∷◌, map}
use Prim.Native.Nat.{ℕ, ◌≤◌, ◌<◌}
use native.Mathlib.Omega.{arith}
use Rattle.residues.specs.Primes.{Prime}
use Rattle.lists.specs.Lists.{All}
use Rattle.lists.proofs.Members.{all_map}
use Rattle.matrices.proofs.Notions.{InSpan}
use Rattle.matrices.specs.Tables.{row_of, eliminated}
use Rattle.matrices.proofs.Elimination.{Table, reduced-none, reduced-span, eliminated-table, eliminated-reduced}

pub eliminate-law : (q : ℕ) → Prime q → (rows cols : ℕ) (T : List ℕ) → Table q rows cols T → (i : ℕ) → i < rows
    → (J : List ℕ) → All (λ j. j < rows) J → (j : ℕ) → j < rows
    → InSpan q cols (map (row_of cols (eliminated q rows cols i T)) J) (row_of cols (eliminated q rows cols i T) j)
    ↔ InSpan q cols (row_of cols T i ∷ map (row_of cols T) J) (row_of cols T j)
eliminate-law q pr rows cols T tab i h J w j k =
    reduced-span q pr rows cols 0 (row_of cols T) (row_of cols T i ∷ []) (eliminated q rows cols i T)
    (eliminated-table q pr rows cols 0 T tab (omega arith) i h) (tab.valid i h, tt) tab.valid
    (eliminated-reduced q pr rows cols 0 T tab (omega arith) i h 0 (row_of cols T) [] (omega arith) (reduced-none q rows cols T) 0 (omega arith) (omega arith))
    J (all_map (λ j. j < rows) (λ j. (0 ≤ j) × (j < rows)) (λ j l. (omega arith, l)) J w) j (omega arith) k
