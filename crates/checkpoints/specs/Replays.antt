-- Coming back (document 02, Q-11): what a relay that resumes has to repeat.
use Rattle.std.specs.Prelude.{Bool, false, cond, List, [], ◌∷◌}
use Rattle.refusals.specs.Codes.{is_accepted}
use Rattle.rounds.specs.declared.RelayRound.{RelayRound}
use Rattle.rounds.specs.Relays.{Event, heard, moves, asks, relay_code, move_code, next_of}

-- "every frame counted and every moving on": is the event one that changes the round?
abbrev pub changes : RelayRound → Event → Bool
changes R (heard f) = is_accepted (relay_code R f)
changes R moves = is_accepted (move_code R)
changes R (asks out) = false

-- those of a list of events, in the same order
unfoldable pub changes_of : RelayRound → List Event → List Event
changes_of R [] = []
changes_of R (e ∷ events) = cond (changes R e) (e ∷ changes_of (next_of R e) events) (changes_of R events)
