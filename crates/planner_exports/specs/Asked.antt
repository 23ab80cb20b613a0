-- What a planner's numbers ask for: a prime, a pair of relays under one lock, and a table for U, V, T and q.
use Rattle.std.specs.Prelude.{ℕ, Bool, not, cond, ◌&&◌, List, [], ◌∷◌, eqb, Option, None}
use Rattle.refusals.specs.declared.Code.{Code}
use Rattle.refusals.specs.Codes.{code}
use Rattle.residues.specs.Primes.{is_prime}
use Rattle.lists.specs.Lists.{at}
use Rattle.vetting.specs.declared.RelayPair.{RelayPair}
use Rattle.vetting.specs.Joint.{relay_pair}
use Rattle.keys.specs.Maker.{rate_of, maker_code, maker_table}

-- whether q may be a plan's
abbrev pub prime_checks : ℕ → List (Bool × Code)
prime_checks q = (not (is_prime q), code 2) ∷ []

-- two zeros stand for no pair
abbrev pub joint_of : ℕ → ℕ → Option RelayPair
joint_of first second = cond (eqb first 0 && eqb second 0) None (relay_pair first second)

-- the maker is lent U, V, T and q in a plan's places, whatever stands in that of R
module _ (counts : List ℕ) (γ : ℕ) (table : List ℕ) where
  abbrev pub asked_code : Code
  asked_code = maker_code (at counts 0) (at counts 1) (at counts 2) (at counts 4) γ table

  abbrev pub asked_table : List ℕ
  asked_table = maker_table (at counts 0) (at counts 1) (at counts 2) (at counts 4) γ table

-- and gets the plan's R in its place
abbrev pub made_counts : List ℕ → List ℕ
made_counts counts =
    at counts 0 ∷ at counts 1 ∷ at counts 2 ∷ rate_of (at counts 0) (at counts 1) (at counts 2) ∷ at counts 4 ∷ []
