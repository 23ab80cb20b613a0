-- Plan records (document 01, "Records and tapes"; document 02, Q-7). "Reading a record: 5, 1, 4, 2, 3. Writing one: 1, 4 for the table, 2, 3, 4 for the buffer;
-- neither vets." There are two kinds of record, the old one and the wide one; they differ in the width alone, the bytes that q and each symbol have.
use Rattle.std.specs.Prelude.{ℕ, ◌+◌, ◌-◌, ◌*◌, Bool, cond, not, ◌&&◌, ◌||◌, List, [], ◌∷◌, ◌++◌, ltb, eqb, length, replicate}
use Rattle.refusals.specs.declared.Code.{Code}
use Rattle.refusals.specs.Codes.{code, first_of, if_accepted}
use Rattle.residues.specs.Primes.{is_prime, all_below}
use Rattle.lists.specs.Lists.{at}
use Rattle.plans.specs.declared.Plan.{Plan}
use Rattle.plans.specs.Plans.{users_of, in_bounds, no_plan, table_checks}
use Rattle.numerals.specs.Bytes.{bytes_of, bytes_of_all, number_at, numbers_at}

-- ---- the two kinds

-- "A plan with q of 65,536 or more has a wide record", "Smaller q keeps the old record"
abbrev pub width_of : ℕ → ℕ
width_of q = cond (ltb q 65536) 2 4

-- the last byte of a record: of the bytes 4B 50 and "4B 51"
abbrev pub mark_of : ℕ → ℕ
mark_of width = cond (eqb width 2) 0x50 0x51

-- D = 10 + 2 × U × V × R of the old record, and "D = 12 + 4 × U × V × R" of the wide one
abbrev pub size_with : ℕ → Plan → ℕ
size_with width P = 8 + width + width * (users_of P * P.rate)

-- the width by the record's own last byte
abbrev pub width_in : List ℕ → ℕ
width_in B = cond (eqb (at B (length B - 1)) 0x50) 2 4

-- ---- the record of a plan

abbrev pub record_size : Plan → ℕ
record_size P = size_with (width_of P.q) P

-- U, V, T, R; q; the rows; the distance back to the first byte; the mark
unfoldable pub record_with : ℕ → Plan → List ℕ → List ℕ
record_with width P K =
    (P.clusters ∷ P.size ∷ P.limit ∷ P.rate ∷ bytes_of width P.q)
    ++ bytes_of_all width K
    ++ bytes_of 2 (size_with width P)
    ++ (0x4b ∷ mark_of width ∷ [])

abbrev pub record_of : Plan → List ℕ → List ℕ
record_of P K = record_with (width_of P.q) P K

-- ---- reading, from the end of the buffer

-- the distance of the trailer, and the place of the record's first byte
abbrev pub distance : List ℕ → ℕ
distance B = number_at 2 B (length B - 4)

abbrev pub start : List ℕ → ℕ
start B = length B - distance B

-- under four bytes, neither mark, a distance under 10 in an old record or under 12 in a wide one, or beyond the buffer
abbrev pub bad_trailer : List ℕ → Bool
bad_trailer B =
    ltb (length B) 4
    || not (eqb (at B (length B - 2)) 0x4b)
    || not (eqb (at B (length B - 1)) (mark_of (width_in B)))
    || ltb (distance B) (8 + width_in B)
    || ltb (length B) (distance B)

-- the plan and the table that the bytes from the first on say
abbrev pub plan_read : List ℕ → Plan
plan_read B =
    record {
      clusters = at B (start B);
      size = at B (start B + 1);
      limit = at B (start B + 2);
      rate = at B (start B + 3);
      q = number_at (width_in B) B (start B + 4);
    }

abbrev pub table_read : List ℕ → List ℕ
table_read B = numbers_at (width_in B) (users_of (plan_read B) * (plan_read B).rate) B (start B + 4 + width_in B)

-- 4 where the distance is not the plan's, and where what is lent has not its exact lengths; 2 also where the record has not the width of its q: "A wide record
-- with a smaller q is refused with 2."
abbrev pub checks_of : List ℕ → Bool → List (Bool × Code)
checks_of B lengths =
    (bad_trailer B, code 5)
    ∷ (not (in_bounds (plan_read B)), code 1)
    ∷ (not (eqb (distance B) (size_with (width_in B) (plan_read B)) && lengths), code 4)
    ∷ (not (is_prime (plan_read B).q && eqb (width_in B) (width_of (plan_read B).q)), code 2)
    ∷ (not (all_below (plan_read B).q (table_read B)), code 3)
    ∷ []

-- the lent table has 256 symbols
abbrev pub read_checks : List ℕ → List ℕ → List (Bool × Code)
read_checks B out = checks_of B (eqb (length out) 256)

abbrev pub read_code : List ℕ → List ℕ → Code
read_code B out = first_of (read_checks B out)

-- what the lent table holds: the plan's symbols, and 0 past them
abbrev pub padded : List ℕ → List ℕ
padded K = K ++ replicate (256 - length K) 0

-- the plan that is answered, and what the lent table holds after the call
abbrev pub plan_after : List ℕ → List ℕ → Plan
plan_after B out = if_accepted (read_code B out) (plan_read B) no_plan

abbrev pub table_after : List ℕ → List ℕ → List ℕ
table_after B out = if_accepted (read_code B out) (padded (table_read B)) out

-- ---- writing

abbrev pub write_checks : Plan → List ℕ → List ℕ → List (Bool × Code)
write_checks P K out = table_checks P K ++ (not (eqb (length out) (record_size P)), code 4) ∷ []

abbrev pub write_code : Plan → List ℕ → List ℕ → Code
write_code P K out = first_of (write_checks P K out)

-- what the lent buffer holds after the call
abbrev pub bytes_after : Plan → List ℕ → List ℕ → List ℕ
bytes_after P K out = if_accepted (write_code P K out) (record_of P K) out
