-- Requests Q-3 and Q-6 at the small pool: a course of events of relay 1, with each answer and what it gives out; and the last round.
use mathlib.Core.Path.{◌≡◌, refl}
use mathlib.Core.List.{List, [], ◌∷◌}
use Rattle.refusals.specs.Codes.{code, accepted}
use Rattle.lists.specs.Search.{all_to}
use Rattle.residues.specs.Primes.{is_prime, all_below}
use Rattle.lists.specs.Bits.{has_bit}
use Rattle.lists.specs.Lists.{tab}
use Rattle.rounds.specs.declared.RelayRound.{RelayRound}
use Rattle.rounds.specs.Ledger.{frame, named, bits_of, counted_at}
use Rattle.rounds.specs.Rounds.{opened}
use Rattle.rounds.specs.Relays.{relay_round, held, nothing, Event, heard, moves, asks, relay_answers}

-- opened in round 8
abbrev relay : RelayRound
relay = relay_round 1 (opened 2 2 5 1 8) nothing

abbrev events : List Event
events =
    heard (frame 1 9 (4 ∷ []))
    ∷ heard (frame 1 9 (3 ∷ []))
    ∷ heard (frame 2 9 [])
    ∷ heard (frame 2 9 (5 ∷ []))
    ∷ moves
    ∷ heard (frame 2 8 (1 ∷ []))
    ∷ heard (frame 1 8 (3 ∷ []))
    ∷ heard (frame 2 10 [])
    ∷ heard (frame 3 10 [])
    ∷ asks (7 ∷ [])
    ∷ moves
    ∷ heard (frame 1 8 (9 ∷ 9 ∷ []))
    ∷ asks (7 ∷ [])
    ∷ heard (frame 2 9 (5 ∷ []))
    ∷ heard (frame 2 9 (1 ∷ []))
    ∷ asks (7 ∷ 7 ∷ [])
    ∷ asks (7 ∷ [])
    ∷ []

pub answers : relay_answers relay events
    ≡ (accepted, [])  -- a round ahead
    ∷ (code 11, [])  -- the same once more, with another block
    ∷ (code 4, [])  -- a round ahead, and no symbol
    ∷ (code 3, [])  -- and one too large
    ∷ (code 12, [])  -- round 8 is not full
    ∷ (accepted, [])
    ∷ (accepted, [])
    ∷ (code 14, [])  -- two rounds ahead, and no symbol: not 4
    ∷ (code 8, [])  -- no such user: before 14
    ∷ (accepted, 4 ∷ [])
    ∷ (accepted, [])  -- on to round 9
    ∷ (code 14, [])  -- late, too long and no symbols: neither 4 nor 3
    ∷ (code 12, 7 ∷ [])  -- only user 1 has reported, ahead
    ∷ (code 3, [])
    ∷ (accepted, [])
    ∷ (code 4, 7 ∷ 7 ∷ [])
    ∷ (accepted, 0 ∷ [])
    ∷ []
unfolding relay_answers tab is_prime all_to all_below has_bit named bits_of counted_at
answers = refl

-- "After round 4,294,967,295 there is no next": 14 before 12, and for every other number; and the round before it still moves on
pub last : relay_answers (relay_round 1 (opened 2 2 5 1 4294967295) nothing) (moves ∷ heard (frame 1 0 (1 ∷ [])) ∷ heard (frame 1 4294967295 (1 ∷ [])) ∷ [])
    ≡ (code 14, []) ∷ (code 14, []) ∷ (accepted, []) ∷ []
unfolding relay_answers tab is_prime all_to all_below has_bit named bits_of counted_at
last = refl

pub last-but-one : relay_answers (relay_round 1 (opened 2 1 5 1 4294967294) nothing)
    (heard (frame 1 4294967294 (1 ∷ [])) ∷ heard (frame 1 4294967295 (2 ∷ [])) ∷ moves ∷ moves ∷ asks (0 ∷ []) ∷ [])
    ≡ (accepted, []) ∷ (accepted, []) ∷ (accepted, []) ∷ (code 14, []) ∷ (accepted, 2 ∷ []) ∷ []
unfolding relay_answers tab is_prime all_to all_below has_bit named bits_of counted_at
last-but-one = refl

-- a state that is handed in: 8 for a bit of the second roll comes before 3 for the first sums
pub second-roll-first : relay_answers (relay_round 1 (record { clusters = 2; size = 2; q = 5; length = 1; number = 8; reported = 0; sums = 9 ∷ [] }) (held 4 []))
    (moves ∷ [])
    ≡ (code 8, []) ∷ []
unfolding relay_answers tab is_prime all_to all_below has_bit named bits_of counted_at
second-roll-first = refl
