-- Q-6: each statement. What is answered as before follows from the checks alone: where one of the two rolls and rows of sums passes its checks, the checks of
-- the relay's state are those of the other round.
use Prim.Native.Nat.{ℕ, ◌^◌}
use mathlib.Core.Path.{◌≡◌, refl, ap, ap₂, ◌∙◌}
use mathlib.Core.Bool.{Bool, true, false, cond, not, ◌&&◌}
use mathlib.Core.List.{List, [], ◌∷◌, ◌++◌}
use lib.Dec.{ltb, eqb}
use lib.ListN.{length, take}
use Rattle.refusals.specs.declared.Code.{Code}
use Rattle.refusals.specs.Codes.{code, first_of, if_accepted}
use Rattle.residues.specs.Primes.{is_prime}
use Rattle.lists.proofs.Searches.{T→true, true→T, T_and}
use Rattle.rounds.specs.declared.Round.{Round}
use Rattle.rounds.specs.declared.RelayRound.{RelayRound}
use Rattle.rounds.specs.Ledger.{Frame}
use Rattle.rounds.specs.Rounds.{open_checks, after, sums_fit, state_checks, own_checks, lent_checks, step_code, stepped, give_code, sums_after}
use Rattle.rounds.specs.Relays.{relay_round, held_of, ahead_of, relay_known, relay_checks, is_next, relay_code, relay_next, relay_give_code, relay_sums, Event}
use Rattle.rounds.proofs.RelayLedger.{relay-ledger}
use Rattle.rounds.proofs.RelaySums.{relay-give-code, relay-sums-sorted, ahead-sorted, tidy-counted}
use Rattle.rounds.proofs.RoundLaws.{order-free}
use Rattle.demands.specs.NextRound.{holds_fit, AsBefore, CountedAhead, AnswersAsLog, SortedByRound, OrderFree}

and-true : (a b : Bool) → b ≡ true → (a && b) ≡ a
and-true true b e = e
and-true false b e = refl

true-and : (a b : Bool) → a ≡ true → (a && b) ≡ b
true-and a b e = ap (λ (t : Bool). t && b) e

module _ (R : RelayRound) where
  abbrev known : Bool
  known = relay_known R

  abbrev roll : Round → Bool
  roll X = ltb X.reported (2 ^ R.round.size)

  abbrev row : Round → Bool
  row X = sums_fit R.round.q R.round.length X.sums

  -- the checks of the state, with what is found of the rolls and of the sums, before others
  abbrev checks : Bool → Bool → List (Bool × Code) → List (Bool × Code)
  checks rolls rows rest =
      open_checks R.round.clusters R.round.size R.round.q R.round.length known ++ (not rolls, code 8) ∷ (not rows, code 3) ∷ rest

  -- where q is no prime, rolls and sums are not looked at
  same-checks : (rolls rows rolls' rows' : Bool) (rest : List (Bool × Code))
      → (is_prime R.round.q ≡ true → (rolls ≡ rolls') × (rows ≡ rows')) → first_of (checks rolls rows rest) ≡ first_of (checks rolls' rows' rest)
  same-checks rolls rows rolls' rows' rest same = go (is_prime R.round.q) refl
    where
      go : (t : Bool) → is_prime R.round.q ≡ t → first_of (checks rolls rows rest) ≡ first_of (checks rolls' rows' rest)
      go true e = ap₂ (λ (x y : Bool). first_of (checks x y rest)) (same e).0 (same e).1
      go false e = rw e

  -- what is held passes, so that the first round decides; and the other way round
  here : (is_prime R.round.q ≡ true → holds_fit (ahead_of R) ≡ true) → (rest : List (Bool × Code))
      → first_of (relay_checks R ++ rest) ≡ first_of (state_checks R.round.size known R.round ++ rest)
  here fits rest =
      same-checks (roll R.round && roll (ahead_of R)) (row R.round && row (ahead_of R)) (roll R.round) (row R.round) rest
      (λ prime.
      let (b, d) = T_and (roll (ahead_of R)) (row (ahead_of R)) (true→T _ (fits prime)) in
      (and-true (roll R.round) (roll (ahead_of R)) (T→true _ b), and-true (row R.round) (row (ahead_of R)) (T→true _ d)))

  there : (is_prime R.round.q ≡ true → holds_fit R.round ≡ true) → (rest : List (Bool × Code))
      → first_of (relay_checks R ++ rest) ≡ first_of (state_checks R.round.size known (ahead_of R) ++ rest)
  there fits rest =
      same-checks (roll R.round && roll (ahead_of R)) (row R.round && row (ahead_of R)) (roll (ahead_of R)) (row (ahead_of R)) rest
      (λ prime.
      let (a, c) = T_and (roll R.round) (row R.round) (true→T _ (fits prime)) in
      (true-and (roll R.round) (roll (ahead_of R)) (T→true _ a), true-and (row R.round) (row (ahead_of R)) (T→true _ c)))

-- the relay with the frame counted, by whether it is one of the next round
abbrev counted-by : RelayRound → Frame → Bool → RelayRound
counted-by R f t =
    cond t (relay_round R.cluster R.round (held_of (after (ahead_of R) (f ∷ [])))) (relay_round R.cluster (after R.round (f ∷ [])) R.ahead)

-- a step of one of the two rounds is a step of the relay
step-here : (R : RelayRound) (t : Bool) (X : Round)
    → cond t (relay_round R.cluster X R.ahead) R ≡ relay_round R.cluster (cond t X R.round) R.ahead
step-here R true X = refl
step-here R false X = refl

step-there : (R : RelayRound) (t : Bool) (X : Round)
    → cond t (relay_round R.cluster R.round (held_of X)) R ≡ relay_round R.cluster R.round (held_of (cond t X (ahead_of R)))
step-there R true X = refl
step-there R false X = refl

pub as_before : AsBefore
as_before R fits = (λ f other. (code_same f other, next-same f other), λ out. (give-same out, sums_same out))
  where
    own : Frame → Bool → List (Bool × Code)
    own f t = own_checks R.round.size (cond t (ahead_of R) R.round) [] f

    code_same : (f : Frame) → is_next R.round.number f.number ≡ false → relay_code R f ≡ step_code R.round.size (relay_known R) R.round f
    code_same f other = ap (λ (t : Bool). first_of (relay_checks R ++ own f t)) other ∙ here R fits (own f false)

    next-same : (f : Frame) → is_next R.round.number f.number ≡ false
        → relay_next R f ≡ relay_round R.cluster (stepped R.round.size (relay_known R) R.round f) R.ahead
    next-same f other =
        ap (λ (t : Bool). if_accepted (relay_code R f) (counted-by R f t) R) other
        ∙ ap (λ (c : Code). if_accepted c (counted-by R f false) R) (code_same f other)
        ∙ step-here R (eqb (step_code R.round.size (relay_known R) R.round f).number 0) (after R.round (f ∷ []))

    give-same : (out : List ℕ) → relay_give_code R out ≡ give_code R.round.size (relay_known R) R.round out
    give-same out = here R fits (lent_checks R.round.size R.round [] (length out))

    sums_same : (out : List ℕ) → relay_sums R out ≡ sums_after R.round.size (relay_known R) R.round out
    sums_same out = ap (λ (c : Code). if_accepted c (take R.round.length R.round.sums) out) (give-same out)

pub counted-ahead : CountedAhead
counted-ahead R fits f next = (code_same, next-same)
  where
    own : Bool → List (Bool × Code)
    own t = own_checks R.round.size (cond t (ahead_of R) R.round) [] f

    code_same : relay_code R f ≡ step_code R.round.size (relay_known R) (ahead_of R) f
    code_same = ap (λ (t : Bool). first_of (relay_checks R ++ own t)) next ∙ there R fits (own true)

    next-same : relay_next R f ≡ relay_round R.cluster R.round (held_of (stepped R.round.size (relay_known R) (ahead_of R) f))
    next-same =
        ap (λ (t : Bool). if_accepted (relay_code R f) (counted-by R f t) R) next
        ∙ ap (λ (c : Code). if_accepted c (counted-by R f true) R) code_same
        ∙ step-there R (eqb (step_code R.round.size (relay_known R) (ahead_of R) f).number 0) (after (ahead_of R) (f ∷ []))

pub answers-as-log : AnswersAsLog
answers-as-log = relay-ledger

pub sorted-by-round : (clusters size q L cluster first : ℕ) (events : List Event) → SortedByRound clusters size q L cluster first events
sorted-by-round clusters size q L cluster first events pass = (
  λ out.
      (relay-give-code clusters size q L cluster first pass events out, relay-sums-sorted clusters size q L cluster first pass events out),
  ahead-sorted clusters size q L cluster first pass events,
)

pub order-is-free : OrderFree
order-is-free clusters size q L cluster first first' pass events others n B c c' same =
    order-free size B _ _ (tidy-counted clusters size q L cluster first pass events n) (tidy-counted clusters size q L cluster first' pass others n) c c' same
