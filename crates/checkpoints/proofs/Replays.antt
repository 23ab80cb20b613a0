-- Coming back: events lead where those of them lead that change the round; so two lists in which the same events do, in the same order, lead to the same round.
use mathlib.Core.Path.{◌≡◌, refl, sym, ap, ◌∙◌}
use mathlib.Core.Bool.{Bool, true, false, cond}
use mathlib.Core.List.{List, [], ◌∷◌, ◌++◌}
use Rattle.rounds.specs.declared.RelayRound.{RelayRound}
use Rattle.rounds.specs.Relays.{relay_round, ahead_of, nothing, relay_counted, Event, heard, moves, asks, next_of, relay_run}
use Rattle.checkpoints.specs.Replays.{changes, changes_of}

-- every other event leaves the round as it was
unchanged : (R : RelayRound) (e : Event) → changes R e ≡ false → next_of R e ≡ R
unchanged R (heard f) n = ap (λ (t : Bool). cond t (relay_counted R f) R) n
unchanged R moves n = ap (λ (t : Bool). cond t (relay_round R.cluster (ahead_of R) nothing) R) n
unchanged R (asks out) n = refl

pub changes-lead : (R : RelayRound) (events : List Event) → relay_run R (changes_of R events) ≡ relay_run R events
unfolding relay_run changes_of
changes-lead R [] = refl
changes-lead R (e ∷ events) = step (changes R e) refl (changes-lead R events) (changes-lead (next_of R e) events)
  where
    step : (t : Bool) → changes R e ≡ t → relay_run R (changes_of R events) ≡ relay_run R events
        → relay_run (next_of R e) (changes_of (next_of R e) events) ≡ relay_run (next_of R e) events
        → relay_run R (cond t (e ∷ changes_of (next_of R e) events) (changes_of R events)) ≡ relay_run (next_of R e) events
    step true n stay go = go
    step false n stay go = stay ∙ ap (λ (X : RelayRound). relay_run X events) (sym (unchanged R e n))

pub same-changes : (R : RelayRound) (a b : List Event) → changes_of R a ≡ changes_of R b → relay_run R a ≡ relay_run R b
same-changes R a b e = sym (changes-lead R a) ∙ ap (relay_run R) e ∙ changes-lead R b

-- events one list after the other
pub run_on : (R : RelayRound) (a b : List Event) → relay_run R (a ++ b) ≡ relay_run (relay_run R a) b
unfolding relay_run
run_on R [] b = refl
run_on R (e ∷ a) b = run_on (next_of R e) a b
