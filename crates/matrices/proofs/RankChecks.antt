-- What is known of a table that passed the checks of the rank.
use mathlib.Core.Path.{◌≡◌}
use mathlib.Core.Bool.{◌&&◌}
use mathlib.Core.List.{List}
use Prim.Native.Nat.{ℕ, ◌*◌}
use lib.Dec.{leb, eqb, leb→le}
use lib.ListN.{length}
use borrow.Author.Tests.{not-false, eqb-true}
use Rattle.refusals.specs.Codes.{accepted, first_of}
use Rattle.refusals.proofs.CodeLaws.{none-holds}
use Rattle.residues.specs.Primes.{Prime, is_prime, all_below}
use Rattle.lists.proofs.Searches.{true→T, T_and}
use Rattle.residues.proofs.PrimeLaws.{true-prime, prime-pos}
use Rattle.matrices.specs.Entries.{rank_checks}
use Rattle.matrices.proofs.Elimination.{Table, table-of}

pub record Passed (q rows cols : ℕ) (T : List ℕ) : Type 0 where
  pub prime : Prime q
  pub table : Table q rows cols T

pub checks-passed : (q rows cols : ℕ) (T : List ℕ) → accepted ≡ first_of (rank_checks q rows cols T) → Passed q rows cols T
checks-passed q rows cols T e =
    let w = none-holds (rank_checks q rows cols T) tt e in
    let (h, k) = T_and (leb rows 48) (leb cols 48) (true→T (leb rows 48 && leb cols 48) (not-false (leb rows 48 && leb cols 48) w.0)) in
    let p : Prime q = true-prime q (not-false (is_prime q) w.1.1.0) in
    record {
      prime = p;
      table =
          table-of q rows cols T (prime-pos p) (leb→le rows 48 h) (leb→le cols 48 k)
          (eqb-true (rows * cols) (length T) (not-false (eqb (rows * cols) (length T)) w.1.0))
          (true→T (all_below q T) (not-false (all_below q T) w.1.1.1.0));
    }
