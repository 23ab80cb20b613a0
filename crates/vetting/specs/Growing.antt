-- What the private functions of `accepts` compute. Nothing here has to be believed: proofs tie it to the verdict.
-- A coalition grows by users of falling number, from nobody to exactly T. On the way it has the table that the vet keeps of it: the key table, and the sums of
-- its clusters below it, eliminated by the rows of its members.
use Rattle.std.specs.Prelude.{ℕ, zero, suc, ◌+◌, ◌^◌, Bool, true, cond, not, ◌&&◌, List, eqb, ltb}
use Rattle.lists.specs.Search.{all_to}
use Rattle.matrices.specs.Tables.{has_pivot, eliminated}
use Rattle.plans.specs.declared.Plan.{Plan}
use Rattle.vetting.specs.Walking.{rows_in, dependent, watch_mask}

-- does the table U of the coalition g show no observer rows that depend on each other?
abbrev pub quiet_to : Plan → ℕ → List ℕ → ℕ → Bool
quiet_to P g U w = not (dependent P.q (rows_in P) P.rate (watch_mask P.clusters P.size 0 g w) g U)

unfoldable pub is_quiet_at : Plan → ℕ → List ℕ → Bool
is_quiet_at P g U = all_to (P.clusters + 1) (quiet_to P g U)

-- g has k members, none below i, and the table U. Is each coalition of exactly T users that it grows to by users below i quiet, and is on the way there
-- the row of no user that comes in 0?
unfoldable pub grown : Plan → ℕ → ℕ → ℕ → List ℕ → Bool
grown P zero k g U = cond (eqb k P.limit) (is_quiet_at P g U) true
grown P (suc i) k g U =
    cond (eqb k P.limit) (is_quiet_at P g U)
    (cond (ltb (suc i + k) P.limit) true
    (has_pivot (rows_in P) P.rate i U
    && (grown P i (k + 1) (g + 2 ^ i) (eliminated P.q (rows_in P) P.rate i U)
    && grown P i k g U)))
