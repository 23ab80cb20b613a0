-- Document 01's record, and a wide one: what writing makes of a plan, what reading makes of its record, and what it makes of it with some bytes changed.
use Prim.Native.Nat.{ℕ, ◌+◌, ◌-◌, ◌%◌, ◌≤◌, ◌<◌}
use mathlib.Core.Path.{◌≡◌, refl, ap, ◌∙◌, subst}
use mathlib.Core.Bool.{Bool, true, not}
use mathlib.Core.List.{List, [], ◌∷◌}
use mathlib.Core.Logic.{◌≢◌}
use native.Mathlib.Omega.{arith}
use lib.Dec.{T, eqb}
use lib.ListN.{set, replicate}
use borrow.Author.Tests.{eq-eqb}
use Rattle.refusals.specs.Codes.{code, accepted}
use Rattle.lists.specs.Search.{all_to}
use Rattle.lists.proofs.Searches.{true→T, all-at}
use Rattle.residues.specs.Primes.{is_prime, all_below}
use Rattle.residues.proofs.PrimeLaws.{prime-true, undivided-prime}
use Rattle.plans.specs.Plans.{plan}
use Rattle.numerals.specs.Bytes.{bytes_of, bytes_of_all, number_at, numbers_at}
use Rattle.records.specs.Records.{record_with, record_of, plan_read, table_read, read_code}

lent : List ℕ
lent = replicate 256 0

-- ---- an old record

table : List ℕ
table = 1 ∷ 0 ∷ 0 ∷ 1 ∷ 2 ∷ 4 ∷ 1 ∷ 4 ∷ 1 ∷ 2 ∷ 4 ∷ 0 ∷ []

bytes : List ℕ
bytes =
    0x02 ∷ 0x02 ∷ 0x01 ∷ 0x03 ∷ 0x05 ∷ 0x00 ∷ 0x01 ∷ 0x00 ∷ 0x00 ∷ 0x00 ∷ 0x00 ∷ 0x00 ∷ 0x01 ∷ 0x00 ∷ 0x02 ∷ 0x00 ∷ 0x04 ∷ 0x00 ∷ 0x01 ∷ 0x00 ∷ 0x04
    ∷ 0x00 ∷ 0x01 ∷ 0x00 ∷ 0x02 ∷ 0x00 ∷ 0x04 ∷ 0x00 ∷ 0x00 ∷ 0x00 ∷ 0x22 ∷ 0x00 ∷ 0x4b ∷ 0x50 ∷ []

written : record_of (plan 2 2 1 3 5) table ≡ bytes
unfolding record_with bytes_of bytes_of_all table bytes
written = refl

read : (read_code bytes lent ≡ accepted) × (plan_read bytes ≡ plan 2 2 1 3 5) × (table_read bytes ≡ table)
unfolding number_at numbers_at is_prime all_to all_below table bytes lent
read = (refl, refl, refl)

-- bytes before the record don't matter
late : read_code (7 ∷ 7 ∷ 7 ∷ bytes) lent ≡ accepted
unfolding number_at numbers_at is_prime all_to all_below bytes lent
late = refl

-- 5: a wrong mark; 1: no users; 4: another distance, another lent table, the mark of a wide record; 2: q 9; 3: a symbol 5
refusals : (read_code (set bytes 33 0x52) lent ≡ code 5)
    × (read_code (set bytes 1 0) lent ≡ code 1)
    × (read_code (7 ∷ set bytes 30 0x23) lent ≡ code 4)
    × (read_code bytes (7 ∷ lent) ≡ code 4)
    × (read_code (set bytes 33 0x51) lent ≡ code 4)
    × (read_code (set bytes 4 9) lent ≡ code 2)
    × (read_code (set bytes 6 5) lent ≡ code 3)
unfolding number_at numbers_at is_prime all_to all_below bytes lent
refusals = (refl, refl, refl, refl, refl, refl, refl)

-- ---- a wide record: the symbols 1 and 65,536

wide : List ℕ
wide =
    0x02 ∷ 0x01 ∷ 0x00 ∷ 0x01 ∷ 0x01 ∷ 0x00 ∷ 0x01 ∷ 0x00 ∷ 0x01 ∷ 0x00 ∷ 0x00 ∷ 0x00 ∷ 0x00 ∷ 0x00 ∷ 0x01 ∷ 0x00 ∷ 0x14 ∷ 0x00 ∷ 0x4b ∷ 0x51 ∷ []

wide-written : record_of (plan 2 1 0 1 65537) (1 ∷ 65536 ∷ []) ≡ wide
unfolding record_with bytes_of bytes_of_all wide
wide-written = refl

wide-plan : (plan_read wide ≡ plan 2 1 0 1 65537) × (table_read wide ≡ 1 ∷ 65536 ∷ [])
unfolding number_at numbers_at wide
wide-plan = (refl, refl)

-- 65,537 is a prime: nothing from 2 to its root divides it
undivided : all_to 255 (λ k. not (eqb (65537 % (2 + k)) 0)) ≡ true
unfolding all_to
undivided = refl

prime : is_prime 65537 ≡ true
prime = prime-true 65537 (undivided-prime 65537 257 (omega arith) (omega arith) (record { none = none }))
  where
    none : (e : ℕ) → 2 ≤ e → e < 257 → 65537 % e ≢ 0
    none e two h divides =
        let t = all-at 255 (λ k. not (eqb (65537 % (2 + k)) 0)) (true→T _ undivided) (e - 2) (omega arith) in
        let z : 65537 % (2 + (e - 2)) ≡ 0 = ap (λ (n : ℕ). 65537 % n) (omega arith) ∙ divides in
        absurd (subst (λ (b : Bool). T (not b)) (eq-eqb (65537 % (2 + (e - 2))) 0 z) t)

wide_read : read_code wide lent ≡ accepted
unfolding number_at numbers_at all_below wide lent
wide_read = rw prime

-- 5: a distance under 12; 4: the mark of an old record; 2: q 5, which has an old record; 3: a symbol 65,537
wide-refusals : (read_code (set wide 16 11) lent ≡ code 5)
    × (read_code (set wide 19 0x50) lent ≡ code 4)
    × (read_code (set (set wide 4 5) 6 0) lent ≡ code 2)
unfolding number_at numbers_at is_prime all_to wide lent
wide-refusals = (refl, refl, refl)

no_symbol : read_code (set wide 12 1) lent ≡ code 3
unfolding number_at numbers_at all_below wide lent
no_symbol = rw prime
