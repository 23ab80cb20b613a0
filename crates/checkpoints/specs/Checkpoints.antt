-- Checkpoints (document 02, Q-11: a saved round): a relay's round as bytes, one save after the other in a buffer, and back. "low byte first throughout"
use Rattle.std.specs.Prelude.{ℕ, zero, suc, ◌+◌, ◌-◌, ◌*◌, Bool, not, ◌&&◌, ◌||◌, List, [], ◌∷◌, ◌++◌, leb, ltb, eqb, length, take, drop}
use Rattle.refusals.specs.declared.Code.{Code}
use Rattle.refusals.specs.Codes.{code, first_of, if_accepted}
use Rattle.residues.specs.Primes.{is_prime}
use Rattle.lists.specs.Lists.{at, zeros}
use Rattle.plans.specs.Plans.{counts_fit, length_fits, max_length}
use Rattle.numerals.specs.Bytes.{bytes_of, bytes_of_all, number_at, numbers_at}
use Rattle.rounds.specs.declared.RelayRound.{RelayRound}
use Rattle.rounds.specs.Rounds.{no_round}
use Rattle.rounds.specs.Relays.{relay_round, held, nothing, relay_known, relay_contents, relay_checks}

-- ---- a save

-- "D = 20 + 8 × L"
abbrev pub save_size : ℕ → ℕ
save_size L = 20 + 8 * L

-- "A saved round has U, V, cluster and L in one byte each; q in four; the round number in four; the two rolls of two bytes each; L sums and L held sums of four
-- bytes each; distance in two; bytes 4B 52; low byte first throughout."
unfoldable pub save_of : RelayRound → List ℕ
save_of R =
    (R.round.clusters ∷ R.round.size ∷ R.cluster ∷ R.round.length ∷ bytes_of 4 R.round.q)
    ++ bytes_of 4 R.round.number
    ++ bytes_of 2 R.round.reported
    ++ bytes_of 2 R.ahead.reported
    ++ bytes_of_all 4 (take R.round.length R.round.sums)
    ++ bytes_of_all 4 (take R.round.length R.ahead.sums)
    ++ bytes_of 2 (save_size R.round.length)
    ++ (0x4b ∷ 0x52 ∷ [])

-- ---- saving: "A save goes into a buffer after a stated number of used bytes; with fewer than D bytes free it is 4, after the state's checks."

module _ (R : RelayRound) (out : List ℕ) (used : ℕ) where
  abbrev pub save_checks : List (Bool × Code)
  save_checks = relay_checks R ++ (not (leb (used + save_size R.round.length) (length out)), code 4) ∷ []

  abbrev pub save_code : Code
  save_code = first_of save_checks

  -- what the lent buffer holds after the call, and how many of its bytes are used
  abbrev pub bytes_after : List ℕ
  bytes_after = if_accepted save_code (take used out ++ save_of R ++ drop (used + save_size R.round.length) out) out

  abbrev pub used_after : ℕ
  used_after = if_accepted save_code (used + save_size R.round.length) used

-- ---- finding a save among the used bytes B: "The distance leads back to the save before, and a save is named by its steps back, 0 for the last."

module _ (B : List ℕ) where
  -- the distance in a save that ends at place e
  abbrev pub distance_at : ℕ → ℕ
  distance_at e = number_at 2 B (e - 4)

  -- "A step beyond the first save is refused with 5, as is D under 20 or a wrong mark.": no room for a trailer before e, another mark, a distance under 20, or
  -- one beyond the first byte
  abbrev pub bad_trailer_at : ℕ → Bool
  bad_trailer_at e =
      ltb e 4
      || not (eqb (at B (e - 2)) 0x4b && eqb (at B (e - 1)) 0x52)
      || ltb (distance_at e) 20
      || ltb e (distance_at e)

  -- where the save so many steps back from the one that ends at e ends
  unfoldable pub end_back : ℕ → ℕ → ℕ
  end_back zero e = e
  end_back (suc steps) e = end_back steps (e - distance_at e)

  -- is there a bad trailer at it, or at any save on the way to it?
  unfoldable pub bad_way : ℕ → ℕ → Bool
  bad_way zero e = bad_trailer_at e
  bad_way (suc steps) e = bad_trailer_at e || bad_way steps (e - distance_at e)

  -- ---- reading the save that ends at e

  -- its first byte
  abbrev pub start_at : ℕ → ℕ
  start_at e = e - distance_at e

  -- its L, and so many numbers of four bytes from a place on as a row of sums, 0 past them
  abbrev pub length_at : ℕ → ℕ
  length_at e = at B (start_at e + 3)

  abbrev pub sums_at : ℕ → ℕ → List ℕ
  sums_at L i = numbers_at 4 L B i ++ zeros (max_length - L)

  abbrev pub round_at : ℕ → RelayRound
  round_at e =
      relay_round (at B (start_at e + 2))
      record {
        clusters = at B (start_at e);
        size = at B (start_at e + 1);
        q = number_at 4 B (start_at e + 4);
        length = length_at e;
        number = number_at 4 B (start_at e + 8);
        reported = number_at 2 B (start_at e + 12);
        sums = sums_at (length_at e) (start_at e + 16);
      }
      (held (number_at 2 B (start_at e + 14)) (sums_at (length_at e) (start_at e + 16 + 4 * length_at e)))

  -- "A save is read in the order 5, 1, 9, 4, 2, 8, 3.": the save so many steps back from the end of the used bytes. 4 where the distance is not that of its L
  module _ (steps : ℕ) where
    abbrev pub last_byte : ℕ
    last_byte = end_back steps (length B)

    abbrev pub round_read : RelayRound
    round_read = round_at last_byte

    abbrev pub restore_checks : List (Bool × Code)
    restore_checks =
        (bad_way steps (length B), code 5)
        ∷ (not (counts_fit round_read.round.clusters round_read.round.size 0), code 1)
        ∷ (not (length_fits round_read.round.length), code 9)
        ∷ (not (eqb (distance_at last_byte) (save_size round_read.round.length)), code 4)
        ∷ (not (is_prime round_read.round.q), code 2)
        ∷ (not (relay_known round_read), code 8)
        ∷ relay_contents round_read

    abbrev pub restore_code : Code
    restore_code = first_of restore_checks

    -- the round that is restored; nothing but zeros stand for it where that is refused, as for one that is opened
    abbrev pub restored : RelayRound
    restored = if_accepted restore_code round_read (relay_round 0 no_round nothing)
