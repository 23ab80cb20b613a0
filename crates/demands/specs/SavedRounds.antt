-- Coming back after a power cut (document 02, Q-11). A save's bytes, saving and restoring are in Checkpoints of crate checkpoints, saves one after the other in
-- Stores, and what is repeated in Replays; here stands what the request claims of them.
use Rattle.std.specs.Prelude.{ℕ, ◌+◌, ◌-◌, ◌*◌, ◌^◌, ◌≤◌, ◌<◌, ◌≡◌, ◌≢◌, true, false, List, ◌∷◌, ◌++◌, length, take, drop}
use Rattle.refusals.specs.Codes.{code, accepted, first_of}
use Rattle.lists.specs.Lists.{at, All}
use Rattle.plans.specs.Plans.{counts_fit, length_fits}
use Rattle.rounds.specs.declared.RelayRound.{RelayRound}
use Rattle.rounds.specs.Relays.{relay_checks, Event, relay_run}
use Rattle.checkpoints.specs.Checkpoints.{save_of, save_code, distance_at, bad_trailer_at, end_back, bad_way, start_at, last_byte, round_read, restore_code, restored}
use Rattle.checkpoints.specs.Stores.{Store, used_bytes, store_after, stored, NoneRefused, RowsOf64}
use Rattle.checkpoints.specs.Replays.{changes_of}

-- "D = 20 + 8 × L.": a save has that many bytes
abbrev pub SaveSize : Type 0
SaveSize = (R : RelayRound) → RowsOf64 R → accepted ≡ first_of (relay_checks R) → length (save_of R) ≡ 20 + 8 * R.round.length

-- "A save goes into a buffer after a stated number of used bytes": every state that passes its checks is saved where D bytes are free, and restored from the
-- used bytes as it was, whatever bytes stand before it and behind it
abbrev pub SavedIsRestored : Type 0
SavedIsRestored =
    (R : RelayRound) → RowsOf64 R → accepted ≡ first_of (relay_checks R) → (S : Store) → S.used + (20 + 8 * R.round.length) ≤ length S.bytes
    → (save_code R S.bytes S.used ≡ accepted)
    × (restore_code (used_bytes (store_after R S)) 0 ≡ accepted)
    × (restored (used_bytes (store_after R S)) 0 ≡ R)

-- document 01: "a refusal leaves all lent memory and every round state as it found them.": a refused save writes no byte, and no more bytes are used
abbrev pub RefusedSave : Type 0
RefusedSave = (R : RelayRound) (S : Store) → save_code R S.bytes S.used ≢ accepted → store_after R S ≡ S

-- what stands before a save and behind it is as it was, whether the call is refused or not
abbrev pub RestUntouched : Type 0
RestUntouched =
    (R : RelayRound) → RowsOf64 R → (S : Store)
    → (length (store_after R S).bytes ≡ length S.bytes)
    × (take S.used (store_after R S).bytes ≡ take S.used S.bytes)
    × (drop (store_after R S).used (store_after R S).bytes ≡ drop (store_after R S).used S.bytes)

-- "The distance leads back to the save before, and a save is named by its steps back, 0 for the last.": of saves one after the other, none refused, whatever
-- bytes stand before the first, each is restored as many steps back as there are later ones. "A step beyond the first save is refused with 5": from no used
-- bytes on, as many steps as there are saves, and any more
abbrev pub StepsBack : Type 0
StepsBack =
    (S : Store) (Rs : List RelayRound) → All RowsOf64 Rs → NoneRefused S Rs
    → ((later : List RelayRound) (R : RelayRound) (earlier : List RelayRound) → Rs ≡ later ++ (R ∷ earlier)
    → (restore_code (used_bytes (stored S Rs)) (length later) ≡ accepted)
    × (restored (used_bytes (stored S Rs)) (length later) ≡ R))
    × (S.used ≡ 0 → (steps : ℕ) → length Rs ≤ steps → restore_code (used_bytes (stored S Rs)) steps ≡ code 5)

-- the bytes of the save so many steps back, from its first to its last
abbrev pub save_at : List ℕ → ℕ → List ℕ
save_at B steps = take (distance_at B (last_byte B steps)) (drop (start_at B (last_byte B steps)) B)

-- a round has one save: among bytes, what is restored, saved again, is the bytes that it was restored from; so two saves of one round are the same bytes
abbrev pub OneSave : Type 0
OneSave =
    (B : List ℕ) → ((i : ℕ) → at B i < 256) → (steps : ℕ) → accepted ≡ restore_code B steps
    → (save_of (restored B steps) ≡ save_at B steps)
    × ((C : List ℕ) → ((i : ℕ) → at C i < 256) → (others : ℕ) → accepted ≡ restore_code C others → restored B steps ≡ restored C others
    → save_at B steps ≡ save_at C others)

-- and a save is made of bytes, since symbols and round numbers have 32 bits and rolls 16
abbrev pub SaveIsBytes : Type 0
SaveIsBytes =
    (R : RelayRound) → accepted ≡ first_of (relay_checks R) → R.round.q < 2 ^ 32 → R.round.number < 2 ^ 32 → R.round.reported < 2 ^ 16
    → R.ahead.reported < 2 ^ 16
    → (i : ℕ)
    → at (save_of R) i < 256

-- "A gateway that resumes and repeats, in the same order, every frame counted and every moving on since the save, ends in the state of one that never
-- stopped.": a relay from any state, and any events before its save, which other saves may follow; whatever bytes stand before the first save. It may repeat
-- those events alone, all events since the save, or any events among which just those change the round, in the same order; the others are sums asked for and
-- refused frames and movings on, a frame that was counted before the save among them. "Meters send again what they sent, the same symbols under the same key.":
-- a frame that is repeated is the same frame
module _ (O : RelayRound) (before since : List Event) (S : Store) (later earlier : List RelayRound) where
  -- the relay where it is saved, and where it comes back
  abbrev kept : RelayRound
  kept = relay_run O before

  abbrev back : RelayRound
  back = restored (used_bytes (stored S (later ++ (kept ∷ earlier)))) (length later)

  abbrev pub ComesBack : Type 0
  ComesBack =
      All RowsOf64 (later ++ (kept ∷ earlier)) → NoneRefused S (later ++ (kept ∷ earlier))
      → (relay_run back (changes_of kept since) ≡ relay_run O (before ++ since))
      × (relay_run back since ≡ relay_run O (before ++ since))
      × ((repeated : List Event) → changes_of kept repeated ≡ changes_of kept since → relay_run back repeated ≡ relay_run O (before ++ since))

module _ (B : List ℕ) (steps : ℕ) where
  -- the place where the save n steps back ends
  abbrev ends : ℕ → ℕ
  ends n = end_back B n (length B)

  -- "A step beyond the first save is refused with 5, as is D under 20 or a wrong mark.": of the save that is asked for, and of each on the way to it
  abbrev pub BadOnTheWay : Type 0
  BadOnTheWay =
      (n : ℕ) → n ≤ steps
      → (ends n < 4 → restore_code B steps ≡ code 5)
      × (at B (ends n - 2) ≢ 0x4b → restore_code B steps ≡ code 5)
      × (at B (ends n - 1) ≢ 0x52 → restore_code B steps ≡ code 5)
      × (distance_at B (ends n) < 20 → restore_code B steps ≡ code 5)
      × (ends n < distance_at B (ends n) → restore_code B steps ≡ code 5)

  -- and nothing else is
  abbrev pub OnlyBadOnTheWay : Type 0
  OnlyBadOnTheWay = restore_code B steps ≡ code 5 → (n : ℕ) × (n ≤ steps) × (bad_trailer_at B (ends n) ≡ true)

  -- "A save is read in the order 5, 1, 9, 4, 2, 8, 3.": 4 where the distance of the save is not that of its L, "D = 20 + 8 × L"
  abbrev pub OtherDistance : Type 0
  OtherDistance =
      bad_way B steps (length B) ≡ false
      → counts_fit (round_read B steps).round.clusters (round_read B steps).round.size 0 ≡ true
      → length_fits (round_read B steps).round.length ≡ true
      → distance_at B (last_byte B steps) ≢ 20 + 8 * (round_read B steps).round.length
      → restore_code B steps ≡ code 4
