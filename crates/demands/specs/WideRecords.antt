-- Primes of 32 bits (document 02, Q-7): the two kinds of record. That the plan's largest q is 4,294,967,291 stands in the promise of the plan's constructor,
-- and that a plan has one record, of whichever kind, in `WrittenIsRead` and `OneRecord` (Demands), which speak of both kinds.
use Rattle.std.specs.Prelude.{ℕ, ◌+◌, ◌-◌, ◌*◌, ◌^◌, ◌≤◌, ◌<◌, ◌≡◌, ◌≢◌, true, false, List, [], ◌∷◌, ◌++◌, length, drop}
use Rattle.refusals.specs.Codes.{code, accepted}
use Rattle.residues.specs.Primes.{is_prime}
use Rattle.lists.specs.Lists.{at}
use Rattle.plans.specs.declared.Plan.{Plan}
use Rattle.plans.specs.Plans.{users_of, in_bounds}
use Rattle.numerals.specs.Bytes.{bytes_of, bytes_of_all}
use Rattle.records.specs.Records.{record_of, start, bad_trailer, distance, plan_read, table_read, read_code, write_code}

module _ (P : Plan) (K : List ℕ) where
  -- "A plan with q of 65,536 or more has a wide record: U, V, T, R; q in four bytes; four bytes a symbol; distance; bytes 4B 51; D = 12 + 4 × U × V × R"
  abbrev pub WideRecord : Type 0
  WideRecord =
      65536 ≤ P.q
      → record_of P K
      ≡ (P.clusters ∷ P.size ∷ P.limit ∷ P.rate ∷ bytes_of 4 P.q)
      ++ bytes_of_all 4 K
      ++ bytes_of 2 (12 + 4 * (users_of P * P.rate))
      ++ (0x4b ∷ 0x51 ∷ [])

  -- "Smaller q keeps the old record"
  abbrev pub OldRecord : Type 0
  OldRecord =
      P.q < 65536
      → record_of P K
      ≡ (P.clusters ∷ P.size ∷ P.limit ∷ P.rate ∷ bytes_of 2 P.q)
      ++ bytes_of_all 2 K
      ++ bytes_of 2 (10 + 2 * (users_of P * P.rate))
      ++ (0x4b ∷ 0x50 ∷ [])

  -- D is the record's length
  abbrev pub DistanceIsLength : Type 0
  DistanceIsLength =
      length K ≡ users_of P * P.rate
      → (65536 ≤ P.q → length (record_of P K) ≡ 12 + 4 * (users_of P * P.rate))
      × (P.q < 65536 → length (record_of P K) ≡ 10 + 2 * (users_of P * P.rate))

  -- "so a plan still has one record": what is written is bytes, since a symbol has 32 bits
  abbrev pub RecordIsBytes : Type 0
  RecordIsBytes = (out : List ℕ) → accepted ≡ write_code P K out → P.q < 2 ^ 32 → (i : ℕ) → at (record_of P K) i < 256

module _ (B lent : List ℕ) where
  -- and a buffer of bytes from which a plan and a table are read ends with their record
  abbrev pub ReadIsRecord : Type 0
  ReadIsRecord = ((i : ℕ) → at B i < 256) → accepted ≡ read_code B lent → drop (start B) B ≡ record_of (plan_read B) (table_read B)

  -- "and D under 12 is 5"; under 10, as before, in an old record; and 5 for any other last byte
  abbrev pub NearTrailer : Type 0
  NearTrailer =
      (at B (length B - 1) ≡ 0x51 → distance B < 12 → read_code B lent ≡ code 5)
      × (at B (length B - 1) ≡ 0x50 → distance B < 10 → read_code B lent ≡ code 5)
      × (at B (length B - 1) ≢ 0x50 → at B (length B - 1) ≢ 0x51 → read_code B lent ≡ code 5)

  -- "A wide record with a smaller q is refused with 2.": whatever its symbols are
  abbrev pub SmallInWide : Type 0
  SmallInWide =
      bad_trailer B ≡ false → at B (length B - 1) ≡ 0x51 → (plan_read B).q < 65536
      → in_bounds (plan_read B) ≡ true → distance B ≡ 12 + 4 * (users_of (plan_read B) * (plan_read B).rate) → length lent ≡ 256
      → read_code B lent ≡ code 2

  -- and 2 is given, where q is a prime, to no other buffer of bytes
  abbrev pub OnlySmallInWide : Type 0
  OnlySmallInWide =
      ((i : ℕ) → at B i < 256) → read_code B lent ≡ code 2 → is_prime (plan_read B).q ≡ true
      → (at B (length B - 1) ≡ 0x51) × ((plan_read B).q < 65536)

  -- so what is read is of the kind that its q has
  abbrev pub KindByPrime : Type 0
  KindByPrime =
      accepted ≡ read_code B lent
      → (at B (length B - 1) ≡ 0x51 → 65536 ≤ (plan_read B).q)
      × (at B (length B - 1) ≡ 0x50 → (plan_read B).q < 65536)
