-- A relay's round (document 01: gateway). It hears the V users of its cluster, which is one of 1 to U, and request Q-6 lets it hear the next round too: what
-- it holds for r + 1 is a second roll and second sums, which are a round of their own, `ahead_of`. So all that Rounds says of a round is said of both, and this
-- page adds which of the two a frame is for, and what moving on does.
use Rattle.std.specs.Prelude.{ℕ, ◌+◌, ◌^◌, Bool, cond, not, ◌&&◌, ◌||◌, List, [], ◌∷◌, ◌++◌, ltb, eqb, length, take}
use Rattle.refusals.specs.declared.Code.{Code}
use Rattle.refusals.specs.Codes.{code, first_of, if_accepted}
use Rattle.residues.specs.Primes.{all_below}
use Rattle.lists.specs.Lists.{zeros}
use Rattle.rounds.specs.declared.Held.{Held}
use Rattle.rounds.specs.declared.Round.{Round}
use Rattle.rounds.specs.declared.RelayRound.{RelayRound}
use Rattle.rounds.specs.Ledger.{Frame, frames_of}
use Rattle.rounds.specs.Rounds.{one_of, open_checks, open_code, opened, no_round, has_reported, after, sums_fit, own_checks, is_full, lent_checks}
use Rattle.plans.specs.Plans.{max_length}

-- ---- what a relay holds

abbrev pub relay_round : ℕ → Round → Held → RelayRound
relay_round cluster R ahead = record { cluster = cluster; round = R; ahead = ahead }

-- a roll and sums
abbrev pub held : ℕ → List ℕ → Held
held reported sums = record { reported = reported; sums = sums }

abbrev pub held_of : Round → Held
held_of R = held R.reported R.sums

abbrev pub nothing : Held
nothing = held 0 (zeros max_length)

-- a round with what it holds taken from elsewhere, and another number
abbrev pub held_as : Round → ℕ → Held → Round
held_as R number h =
    record { clusters = R.clusters; size = R.size; q = R.q; length = R.length; number = number; reported = h.reported; sums = h.sums }

-- "a second roll and second sums for r + 1"
abbrev pub ahead_of : RelayRound → Round
ahead_of R = held_as R.round (R.round.number + 1) R.ahead

abbrev pub relay_opened : ℕ → ℕ → ℕ → ℕ → ℕ → ℕ → RelayRound
relay_opened clusters size q L cluster number =
    if_accepted (open_code clusters size q L (one_of clusters cluster)) (relay_round cluster (opened clusters size q L number) nothing)
    (relay_round 0 no_round nothing)

abbrev pub relay_known : RelayRound → Bool
relay_known R = one_of R.round.clusters R.cluster

-- ---- a state that is handed in: "in the order 1, 2, 9, 8, 3", of both rolls and both rows of sums

abbrev pub relay_contents : RelayRound → List (Bool × Code)
relay_contents R =
    (not (ltb R.round.reported (2 ^ R.round.size) && ltb R.ahead.reported (2 ^ R.round.size)), code 8)
    ∷ (not (sums_fit R.round.q R.round.length R.round.sums && sums_fit R.round.q R.round.length R.ahead.sums), code 3)
    ∷ []

abbrev pub relay_checks : RelayRound → List (Bool × Code)
relay_checks R =
    open_checks R.round.clusters R.round.size R.round.q R.round.length (relay_known R) ++ relay_contents R

-- ---- a call of `count`

-- "After round 4,294,967,295 there is no next"
abbrev pub last_round : ℕ
last_round = 4294967295

abbrev pub has_next : ℕ → Bool
has_next number = ltb number last_round

-- is n the number after this one?
abbrev pub is_next : ℕ → ℕ → Bool
is_next number n = has_next number && eqb n (number + 1)

-- the round that a frame is held against: the next one for a frame of r + 1, and r for every other
abbrev pub round_for : RelayRound → Frame → Round
round_for R f = cond (is_next R.round.number f.number) (ahead_of R) R.round

abbrev pub relay_code : RelayRound → Frame → Code
relay_code R f = first_of (relay_checks R ++ own_checks R.round.size (round_for R f) [] f)

abbrev pub relay_counted : RelayRound → Frame → RelayRound
relay_counted R f =
    cond (is_next R.round.number f.number) (relay_round R.cluster R.round (held_of (after (ahead_of R) (f ∷ []))))
    (relay_round R.cluster (after R.round (f ∷ [])) R.ahead)

abbrev pub relay_next : RelayRound → Frame → RelayRound
relay_next R f = if_accepted (relay_code R f) (relay_counted R f) R

-- ---- a call of `advance`: "moves on to r + 1 with what is held, then holds nothing further, and is refused with 12 while r is not full"; "moving on is
-- refused with 14, before 12"

abbrev pub move_code : RelayRound → Code
move_code R =
    first_of (relay_checks R ++ (not (has_next R.round.number), code 14) ∷ (not (is_full R.round.size R.round []), code 12) ∷ [])

abbrev pub moved : RelayRound → RelayRound
moved R = if_accepted (move_code R) (relay_round R.cluster (ahead_of R) nothing) R

-- ---- a call of `give`: its answer, and the lent buffer

abbrev pub relay_give_code : RelayRound → List ℕ → Code
relay_give_code R out = first_of (relay_checks R ++ lent_checks R.round.size R.round [] (length out))

abbrev pub relay_sums : RelayRound → List ℕ → List ℕ
relay_sums R out = if_accepted (relay_give_code R out) (take R.round.length R.round.sums) out

-- ---- events: a frame is heard, the round moves on, the sums are asked for

pub data Event : Type 0 where
  heard : Frame → Event
  moves : Event
  asks : List ℕ → Event

-- an answer, and what the lent buffer holds after it, where one is lent
abbrev pub told : RelayRound → Event → Code × List ℕ
told R (heard f) = (relay_code R f, [])
told R moves = (move_code R, [])
told R (asks out) = (relay_give_code R out, relay_sums R out)

abbrev pub next_of : RelayRound → Event → RelayRound
next_of R (heard f) = relay_next R f
next_of R moves = moved R
next_of R (asks out) = R

-- calls, one after the other, each on the round that the one before handed back: the answers, and the round after them
unfoldable pub relay_answers : RelayRound → List Event → List (Code × List ℕ)
relay_answers R [] = []
relay_answers R (e ∷ events) = told R e ∷ relay_answers (next_of R e) events

unfoldable pub relay_run : RelayRound → List Event → RelayRound
relay_run R [] = R
relay_run R (e ∷ events) = relay_run (next_of R e) events

-- ---- the same by the ledger: the number of the round that it is in, and the frames counted since the state was handed in, of whatever round

pub record Log : Type 0 where
  pub number : ℕ
  pub counted : List Frame

abbrev pub log : ℕ → List Frame → Log
log number counted = record { number = number; counted = counted }

module _ (R : RelayRound) where
  -- what was held for round n in the state that was handed in
  abbrev pub held_for : ℕ → Held
  held_for n = cond (eqb n R.round.number) (held_of R.round) (cond (eqb n (R.round.number + 1)) R.ahead nothing)

  abbrev pub base_of : ℕ → Round
  base_of n = held_as R.round n (held_for n)

  -- round n by the ledger: what was held for it, and the frames counted that have its number
  abbrev pub round_at : List Frame → ℕ → Round
  round_at ledger n = after (base_of n) (frames_of n ledger)

  abbrev pub relay_at : Log → RelayRound
  relay_at l = relay_round R.cluster (round_at l.counted l.number) (held_of (round_at l.counted (l.number + 1)))

  -- has this sender reported in round n, and has everyone?
  abbrev pub is_reported : List Frame → ℕ → ℕ → Bool
  is_reported ledger n sender = has_reported (base_of n) (frames_of n ledger) sender

  abbrev pub all_reported : List Frame → ℕ → Bool
  all_reported ledger n = is_full R.round.size (base_of n) (frames_of n ledger)

  abbrev pub log_checks : Log → Event → List (Bool × Code)
  log_checks l (heard f) =
      (not (one_of R.round.size f.sender), code 8)
      ∷ (not (eqb f.number l.number || is_next l.number f.number), code 14)
      ∷ (not (eqb (length f.block) R.round.length), code 4)
      ∷ (not (all_below R.round.q f.block), code 3)
      ∷ (is_reported l.counted f.number f.sender, code 11)
      ∷ []
  log_checks l moves = (not (has_next l.number), code 14) ∷ (not (all_reported l.counted l.number), code 12) ∷ []
  log_checks l (asks out) =
      (not (all_reported l.counted l.number), code 12) ∷ (not (eqb (length out) R.round.length), code 4) ∷ []

  abbrev pub log_code : Log → Event → Code
  log_code l e = first_of (relay_checks R ++ log_checks l e)

  abbrev pub log_told : Log → Event → Code × List ℕ
  log_told l (heard f) = (log_code l (heard f), [])
  log_told l moves = (log_code l moves, [])
  log_told l (asks out) =
      (log_code l (asks out), if_accepted (log_code l (asks out)) (take R.round.length (round_at l.counted l.number).sums) out)

  abbrev pub log_next : Log → Event → Log
  log_next l (heard f) = if_accepted (log_code l (heard f)) (log l.number (l.counted ++ (f ∷ []))) l
  log_next l moves = if_accepted (log_code l moves) (log (l.number + 1) l.counted) l
  log_next l (asks out) = l

  unfoldable pub log_answers : Log → List Event → List (Code × List ℕ)
  log_answers l [] = []
  log_answers l (e ∷ events) = log_told l e ∷ log_answers (log_next l e) events

  unfoldable pub log_after : Log → List Event → Log
  log_after l [] = l
  log_after l (e ∷ events) = log_after (log_next l e) events

  -- the log of a list of events
  abbrev pub log_of : List Event → Log
  log_of events = log_after (log R.round.number []) events
