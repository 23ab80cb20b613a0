-- Frames for the next round (document 02, Q-6). What a relay holds and does is in Relays of rounds; here stands what the request changed, what it did not, and
-- what a relay's round is after any events: frames, movings on, and sums asked for.
use Rattle.std.specs.Prelude.{ℕ, ◌+◌, ◌%◌, ◌^◌, ◌≡◌, Bool, true, false, cond, ◌&&◌, List, [], ltb, eqb, length, take}
use Rattle.refusals.specs.Codes.{code, accepted, first_of, if_accepted}
use Rattle.residues.specs.Primes.{is_prime}
use Rattle.lists.specs.Lists.{All, tab}
use Rattle.rounds.specs.declared.Round.{Round}
use Rattle.rounds.specs.declared.RelayRound.{RelayRound}
use Rattle.rounds.specs.Ledger.{Frame, named, counted_at, frames_of, everyone, Carries}
use Rattle.rounds.specs.Rounds.{one_of, open_checks, opened, sums_fit, step_code, stepped, give_code, sums_after}
use Rattle.rounds.specs.Relays.{relay_round, held_of, nothing, ahead_of, relay_known, relay_checks, is_next, relay_code, relay_next, relay_give_code, relay_sums}
use Rattle.rounds.specs.Relays.{Event, relay_answers, relay_run, log, relay_at, log_answers, log_of}
use Rattle.plans.specs.Plans.{max_length}

-- do the roll and the sums of one of a relay's two rounds pass their checks, 8 and 3?
abbrev pub holds_fit : Round → Bool
holds_fit R = ltb R.reported (2 ^ R.size) && sums_fit R.q R.length R.sums

-- "every frame for r is answered as before", and so is every other but one for r + 1: the answer and the round are those of the step without a next round,
-- which is still the server's. For every state, good or bad, in which what is held for r + 1 passes its checks, as nothing held does, or q is no prime. Giving
-- sums is as before.
abbrev pub AsBefore : Type 0
AsBefore =
    (R : RelayRound) → (is_prime R.round.q ≡ true → holds_fit (ahead_of R) ≡ true)
    → ((f : Frame) → is_next R.round.number f.number ≡ false
    → (relay_code R f ≡ step_code R.round.size (relay_known R) R.round f)
    × (relay_next R f ≡ relay_round R.cluster (stepped R.round.size (relay_known R) R.round f) R.ahead))
    × ((out : List ℕ)
    → (relay_give_code R out ≡ give_code R.round.size (relay_known R) R.round out)
    × (relay_sums R out ≡ sums_after R.round.size (relay_known R) R.round out))

-- "A frame for r + 1, formerly 14, is counted there": it is to the second roll and sums what a frame for r is to the first, its refusals too
abbrev pub CountedAhead : Type 0
CountedAhead =
    (R : RelayRound) → (is_prime R.round.q ≡ true → holds_fit R.round ≡ true) → (f : Frame) → is_next R.round.number f.number ≡ true
    → (relay_code R f ≡ step_code R.round.size (relay_known R) (ahead_of R) f)
    × (relay_next R f ≡ relay_round R.cluster R.round (held_of (stepped R.round.size (relay_known R) (ahead_of R) f)))

-- "A round answers as a roll of names and a running sum would" (document 01): for every state that is handed in, good or bad, and any events, the answers, what
-- is written into lent buffers, and the round after them are those of a log of the frames counted, each with its round's number
abbrev pub AnswersAsLog : Type 0
AnswersAsLog =
    (R : RelayRound) → length R.round.sums ≡ max_length → length R.ahead.sums ≡ max_length → (events : List Event)
    → (relay_answers R events ≡ log_answers R (log R.round.number []) events)
    × (relay_run R events ≡ if_accepted (first_of (relay_checks R)) (relay_at R (log_of R events)) R)

-- a relay from its opening in round `first`, and any events
module _ (clusters size q L cluster first : ℕ) (events : List Event) where
  abbrev relay : RelayRound
  relay = relay_run (relay_round cluster (opened clusters size q L first) nothing) events

  -- the number of the round that it is in then, and the frames counted of round n
  abbrev current : ℕ
  current = (log_of (relay_round cluster (opened clusters size q L first) nothing) events).number

  abbrev counted : ℕ → List Frame
  counted n = frames_of n (log_of (relay_round cluster (opened clusters size q L first) nothing) events).counted

  -- "From an opening, each round's gateway sums are those that the counted frames, sorted by round, give.": what it gives out, which is 12 until everyone is
  -- counted of the round that it is in; and what it holds for the next. (For an earlier round take the events up to its moving on.)
  abbrev pub SortedByRound : Type 0
  SortedByRound =
      accepted ≡ first_of (open_checks clusters size q L (one_of clusters cluster))
      → ((out : List ℕ)
      → (relay_give_code relay out ≡ cond (everyone size (counted current)) (cond (eqb (length out) L) accepted (code 4)) (code 12))
      × (relay_sums relay out ≡ if_accepted (relay_give_code relay out) (tab L (λ p. counted_at (counted current) p % q)) out))
      × (take L relay.ahead.sums ≡ tab L (λ p. counted_at (counted (current + 1)) p % q))

-- the order in which frames came does not matter: two relays, opened in whatever rounds, with whatever events, that counted the same senders of a round, each
-- with the same block, have the same sums of what was counted
abbrev pub OrderFree : Type 0
OrderFree =
    (clusters size q L cluster first first' : ℕ) → accepted ≡ first_of (open_checks clusters size q L (one_of clusters cluster))
    → (events others : List Event) (n : ℕ) (B : ℕ → List ℕ)
    → All (Carries B) (counted clusters size q L cluster first events n)
    → All (Carries B) (counted clusters size q L cluster first' others n)
    → ((s : ℕ) → named (counted clusters size q L cluster first events n) s ≡ named (counted clusters size q L cluster first' others n) s)
    → (p : ℕ)
    → counted_at (counted clusters size q L cluster first events n) p ≡ counted_at (counted clusters size q L cluster first' others n) p
