-- The round of a relay answers without regard to the symbols: with other sums in both places, fit ones too, it gives the same answers, and is after a step once
-- more such a round.
use Prim.Native.Nat.{ℕ, zero, suc, ◌+◌, ◌<◌}
use mathlib.Core.Path.{◌≡◌, refl, sym, ap, ◌∙◌, subst, subst₂}
use mathlib.Core.Bool.{Bool, true, false, cond}
use mathlib.Core.Logic.{◌⊎◌, inl, inr}
use mathlib.Core.List.{List, [], ◌∷◌, ◌++◌}
use Rattle.refusals.specs.declared.Code.{Code}
use Rattle.refusals.specs.Codes.{is_accepted, first_of}
use Rattle.lists.specs.Lists.{zeros}
use Rattle.secrecy.specs.Model.{Pool}
use Rattle.plans.specs.Plans.{max_length}
use Rattle.rounds.specs.declared.Round.{Round}
use Rattle.rounds.specs.declared.RelayRound.{RelayRound}
use Rattle.rounds.specs.Ledger.{Frame, frame}
use Rattle.rounds.specs.Machine.{with_sums}
use Rattle.rounds.specs.Rounds.{one_of, open_code, opened, no_round, after, own_checks}
use Rattle.rounds.specs.Relays.{relay_round, held, held_of, nothing, ahead_of, relay_checks, is_next, relay_code, move_code, moved, relay_give_code}
use Rattle.rounds.specs.Relays.{heard, moves, asks}
use Rattle.days.specs.Observers.{RelayCall, opens, event, relay_machine, machine_of}
use Rattle.days.proofs.Outlines.{Alike, Blind}
use Rattle.days.proofs.RoundAnswers.{Kept, StillKept, opened-kept, alike-itself, below-same, after_same, server-blind}

abbrev none : RelayRound
none = relay_round 0 no_round nothing

-- the same with other sums in both places
abbrev over : RelayRound → List ℕ → List ℕ → RelayRound
over R S S' = relay_round R.cluster (with_sums R.round S) (held R.ahead.reported S')

record Other (q : ℕ) (R R' : RelayRound) : Type 0 where
  sums : List ℕ
  others : List ℕ
  is : R' ≡ over R sums others
  kept : Kept q R.round sums
  kept_ahead : Kept q (ahead_of R) others

abbrev Same : ℕ → RelayRound → RelayRound → Type 0
Same q R R' = ((R ≡ none) × (R' ≡ none)) ⊎ Other q R R'

cases : (q : ℕ) (Q : RelayRound → RelayRound → Type 0) → Q none none
    → ((R : RelayRound) (S S' : List ℕ) → Kept q R.round S → Kept q (ahead_of R) S' → Q R (over R S S')) → (R R' : RelayRound) → Same q R R' → Q R R'
cases q Q base step R R' (inl (e, e')) = subst₂ Q (sym e) (sym e') base
cases q Q base step R R' (inr o) = subst (Q R) (sym o.is) (step R o.sums o.others o.kept o.kept_ahead)

module _ (q : ℕ) (pos : 0 < q) (R : RelayRound) (S S' : List ℕ) (k : Kept q R.round S) (k' : Kept q (ahead_of R) S') where
  itself : Same q R (over R S S')
  itself = inr (record { sums = S; others = S'; is = refl; kept = k; kept_ahead = k' })

  give-code : (out : List ℕ) → relay_give_code R out ≡ relay_give_code (over R S S') out
  give-code out = simp (k.fit, k.fit', k'.fit, k'.fit')

  move-code : move_code R ≡ move_code (over R S S')
  move-code = simp (k.fit, k.fit', k'.fit, k'.fit')

  abbrev begun : RelayRound → RelayRound
  begun X = relay_round X.cluster (ahead_of X) nothing

  move-next : (t : Bool) → Same q (cond t (begun R) R) (cond t (begun (over R S S')) (over R S S'))
  move-next true =
      let X : Round = opened R.round.clusters R.round.size R.round.q R.round.length (R.round.number + 1 + 1) in
      inr (record {
        sums = S';
        others = zeros max_length;
        is = refl;
        kept = k';
        kept_ahead = subst (λ (m : ℕ). Kept m X (zeros max_length)) k.prime
            (opened-kept R.round.clusters R.round.size R.round.q R.round.length (R.round.number + 1 + 1)
            (subst (λ (m : ℕ). 0 < m) (sym k.prime) pos));
      })
  move-next false = itself

  module _ (f f' : Frame) (a : Alike q f f') where
    -- held against the next round, or this one
    abbrev own : Bool → RelayRound → Frame → Code
    own t X g = first_of (relay_checks X ++ own_checks X.round.size (cond t (ahead_of X) X.round) [] g)

    own_same : (t : Bool) → own t R f ≡ own t (over R S S') f'
    own_same true = simp (k.fit, k.fit', k'.fit, k'.fit', a.sender, a.number, a.long, below-same q pos R.round S k f f' a)
    own_same false = simp (k.fit, k.fit', k'.fit, k'.fit', a.sender, a.number, a.long, below-same q pos R.round S k f f' a)

    next-same : is_next R.round.number f.number ≡ is_next R.round.number f'.number
    next-same = ap (is_next R.round.number) a.number

    hear-code : relay_code R f ≡ relay_code (over R S S') f'
    hear-code = own_same (is_next R.round.number f.number) ∙ ap (λ (t : Bool). own t (over R S S') f') next-same

    abbrev counted : Bool → RelayRound → Frame → RelayRound
    counted n X g =
        cond n (relay_round X.cluster X.round (held_of (after (ahead_of X) (g ∷ [])))) (relay_round X.cluster (after X.round (g ∷ [])) X.ahead)

    hear-next : (t n : Bool) → Same q (cond t (counted n R f) R) (cond t (counted n (over R S S') f') (over R S S'))
    hear-next true true =
        let x : StillKept q (after (ahead_of R) (f ∷ [])) (after (with_sums (ahead_of R) S') (f' ∷ [])) = after_same q pos (ahead_of R) S' k' f f' a in
        inr (record {
          sums = S;
          others = x.sums;
          is = ap (λ (X : Round). relay_round R.cluster (with_sums R.round S) (held_of X)) x.is;
          kept = k;
          kept_ahead = x.kept;
        })
    hear-next true false =
        let x : StillKept q (after R.round (f ∷ [])) (after (with_sums R.round S) (f' ∷ [])) = after_same q pos R.round S k f f' a in
        inr (record {
          sums = x.sums;
          others = S';
          is = ap (λ (X : Round). relay_round R.cluster X (held R.ahead.reported S')) x.is;
          kept = x.kept;
          kept_ahead = k';
        })
    hear-next false n = itself

module _ (P : Pool) (pos : 0 < P.q) where
  relay-opened : (t : Bool) (u number L : ℕ)
      → Same P.q (cond t (relay_round u (opened P.clusters P.size P.q L number) nothing) none)
      (cond t (relay_round u (opened P.clusters P.size P.q L number) nothing) none)
  relay-opened true u number L =
      inr (record {
        sums = zeros max_length;
        others = zeros max_length;
        is = refl;
        kept = opened-kept P.clusters P.size P.q L number pos;
        kept_ahead = opened-kept P.clusters P.size P.q L (number + 1) pos;
      })
  relay-opened false u number L = inl (refl, refl)

  module _ (u : ℕ) where
    abbrev Alright : RelayRound → RelayRound → RelayCall → RelayCall → Type 0
    Alright R R' c c' =
        (((relay_machine P u).reply R c).0 ≡ ((relay_machine P u).reply R' c').0) × Same P.q ((relay_machine P u).next R c) ((relay_machine P u).next R' c')

    relay-heard : (R R' : RelayRound) → Same P.q R R' → (f f' : Frame) → Alike P.q f f' → Alright R R' (event (heard f)) (event (heard f'))
    relay-heard R R' r f f' a =
        cases P.q (λ R R'. Alright R R' (event (heard f)) (event (heard f'))) (refl, inl (refl, refl))
        (λ R S S' k k'.
        let c = hear-code P.q pos R S S' k k' f f' a in (
          c,
          subst₂
              (λ (t n : Bool).
              Same P.q ((relay_machine P u).next R (event (heard f))) (cond t (counted P.q pos R S S' k k' f f' a n (over R S S') f') (over R S S')))
              (ap is_accepted c) (next-same P.q pos R S S' k k' f f' a)
              (hear-next P.q pos R S S' k k' f f' a (is_accepted (relay_code R f)) (is_next R.round.number f.number)),
        ))
        R R' r

    relay-called : (R R' : RelayRound) → Same P.q R R' → (c : RelayCall) → Alright R R' c c
    relay-called R R' r (opens number L) = (refl, relay-opened (is_accepted (open_code P.clusters P.size P.q L (one_of P.clusters u))) u number L)
    relay-called R R' r (event (heard f)) = relay-heard R R' r f f (alike-itself P.q f)
    relay-called R R' r (event moves) =
        cases P.q (λ R R'. Alright R R' (event moves) (event moves)) (refl, inl (refl, refl))
        (λ R S S' k k'.
        let c = move-code P.q pos R S S' k k' in (
          c,
          subst (λ (t : Bool). Same P.q (moved R) (cond t (relay_round R.cluster (ahead_of (over R S S')) nothing) (over R S S'))) (ap is_accepted c)
              (move-next P.q pos R S S' k k' (is_accepted (move_code R))),
        ))
        R R' r
    relay-called R R' r (event (asks out)) = (
      cases P.q (λ R R'. relay_give_code R out ≡ relay_give_code R' out) refl (λ R S S' k k'. give-code P.q pos R S S' k k' out) R R' r,
      r,
    )

    relay-blind : Blind P.q (relay_machine P u)
    relay-blind =
        record {
          Same = Same P.q;
          first = inl (refl, refl);
          headed = λ f f' a i. event (heard (frame (a.sender i) (a.number i) []));
          called = relay-called;
          heard = relay-heard;
        }

  pub machine-blind : (w : ℕ) → Blind P.q (machine_of P w)
  machine-blind zero = server-blind P pos
  machine-blind (suc u) = relay-blind (suc u)
