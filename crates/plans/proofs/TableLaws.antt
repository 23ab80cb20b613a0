-- What is known of a plan and a key table that passed their checks.
use mathlib.Core.Path.{◌≡◌}
use mathlib.Core.Bool.{Bool, true}
use mathlib.Core.List.{List, ◌++◌}
use Prim.Native.Nat.{ℕ, ◌*◌}
use lib.Dec.{T, eqb}
use lib.ListN.{length}
use borrow.Author.Tests.{not-false, eqb-true}
use Rattle.refusals.specs.declared.Code.{Code}
use Rattle.refusals.specs.Codes.{accepted, first_of}
use Rattle.refusals.proofs.CodeLaws.{numbered, none-holds}
use Rattle.residues.specs.Primes.{Prime, is_prime, all_below}
use Rattle.residues.proofs.PrimeLaws.{true-prime}
use Rattle.plans.specs.declared.Plan.{Plan}
use Rattle.plans.specs.Plans.{users_of, in_bounds, table_checks}

pub record Passed (P : Plan) (K : List ℕ) : Type 0 where
  pub bounds : in_bounds P ≡ true
  pub size : length K ≡ users_of P * P.rate
  pub prime : Prime P.q
  pub below : all_below P.q K ≡ true

-- whatever checks come after
pub table-passed : (P : Plan) (K : List ℕ) (rest : List (Bool × Code)) → T (numbered rest) → accepted ≡ first_of (table_checks P K ++ rest) → Passed P K
table-passed P K rest t e =
    let w = none-holds (table_checks P K ++ rest) t e in
    record {
      bounds = not-false (in_bounds P) w.0;
      size = eqb-true (length K) (users_of P * P.rate) (not-false (eqb (length K) (users_of P * P.rate)) w.1.0);
      prime = true-prime P.q (not-false (is_prime P.q) w.1.1.0);
      below = not-false (all_below P.q K) w.1.1.1.0;
    }
