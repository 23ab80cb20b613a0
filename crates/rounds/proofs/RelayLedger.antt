-- A relay's round is its ledger: for every state that is handed in, good or bad, and every list of events, each answer and the round after them are those
-- of the log, in which a frame stands with the number of its round. Each round's part of the log is the ledger of LedgerLaws.
use Prim.Native.Nat.{ℕ, ◌+◌, ◌≤◌, ◌<◌}
use mathlib.Core.Path.{◌≡◌, refl, sym, ap, ap₂, ◌∙◌, subst}
use mathlib.Core.Bool.{Bool, true, false, cond, not, ◌||◌}
use mathlib.Core.List.{List, [], ◌∷◌, ◌++◌}
use native.Mathlib.Decide.{ℕ_discrete}
use native.Mathlib.Omega.{arith}
use lib.Dec.{eqb}
use lib.ListN.{length, take}
use lib.Pow.{pow_pos}
use borrow.Author.Tests.{not-false, eq-eqb, ne_eqb, eqb-true, lt-ltb}
use Rattle.refusals.specs.declared.Code.{Code}
use Rattle.refusals.specs.Codes.{code, accepted, is_accepted, first_of, if_accepted}
use Rattle.refusals.proofs.CodeLaws.{none-holds}
use Rattle.refusals.proofs.Orders.{rest-decides, first-decides, number-accepts}
use Rattle.residues.specs.Primes.{all_below}
use Rattle.lists.proofs.Searches.{one_known}
use Rattle.lists.proofs.ListLaws.{length-zeros}
use Rattle.residues.proofs.PrimeLaws.{prime-pos}
use Rattle.rounds.specs.declared.Held.{Held}
use Rattle.rounds.specs.declared.Round.{Round}
use Rattle.rounds.specs.declared.RelayRound.{RelayRound}
use Rattle.rounds.specs.Ledger.{Frame, frames_of}
use Rattle.rounds.specs.Machine.{Good}
use Rattle.rounds.specs.Rounds.{one_of, after, own_checks, is_full, lent_checks}
use Rattle.rounds.specs.Relays.{relay_round, held_of, held_as, nothing, relay_checks, has_next, is_next, ahead_of, round_for, relay_code}
use Rattle.rounds.specs.Relays.{relay_counted, relay_next, move_code, moved, relay_give_code}
use Rattle.rounds.specs.Relays.{Event, heard, moves, asks, told, next_of, relay_answers, relay_run}
use Rattle.rounds.specs.Relays.{Log, log, held_for, base_of, round_at, relay_at, is_reported, all_reported, log_checks, log_code, log_told, log_next}
use Rattle.rounds.specs.Relays.{log_answers, log_after, log_of}
use Rattle.rounds.proofs.CheckLaws.{Passed, ready}
use Rattle.rounds.proofs.LedgerLaws.{Sound, sound_none, sound_more, full-same, own_same, after_none, after-twice, after-sums}
use Rattle.rounds.proofs.RelaySteps.{next-number, own-decides}
use Rattle.rounds.proofs.StepLaws.{or-none}
use Rattle.rounds.proofs.Zeros.{zeros-low, zeros-high}
use Rattle.plans.specs.Plans.{max_length}

-- ---- the frames of one round, with one frame more

pub frames-more : (n : ℕ) (ledger : List Frame) (f : Frame) → frames_of n (ledger ++ (f ∷ [])) ≡ cond (eqb f.number n) (frames_of n ledger ++ (f ∷ []))
    (frames_of n ledger)
unfolding frames_of
frames-more n [] f = refl
frames-more n (g ∷ ledger) f =
    ap (λ (l : List Frame). cond (eqb g.number n) (g ∷ l) l) (frames-more n ledger f) ∙ turn (eqb g.number n) (eqb f.number n)
  where
    turn : (a b : Bool)
        → cond a (g ∷ cond b (frames_of n ledger ++ (f ∷ [])) (frames_of n ledger)) (cond b (frames_of n ledger ++ (f ∷ [])) (frames_of n ledger))
        ≡ cond b (cond a (g ∷ frames_of n ledger) (frames_of n ledger) ++ (f ∷ [])) (cond a (g ∷ frames_of n ledger) (frames_of n ledger))
    turn true true = refl
    turn true false = refl
    turn false true = refl
    turn false false = refl

pub frames-own : (n : ℕ) (ledger : List Frame) (f : Frame) → f.number ≡ n → frames_of n (ledger ++ (f ∷ [])) ≡ frames_of n ledger ++ (f ∷ [])
frames-own n ledger f e = frames-more n ledger f ∙ ap (λ (t : Bool). cond t (frames_of n ledger ++ (f ∷ [])) (frames_of n ledger)) (eq-eqb f.number n e)

pub frames-other : (n : ℕ) (ledger : List Frame) (f : Frame) → (f.number ≡ n → ⊥) → frames_of n (ledger ++ (f ∷ [])) ≡ frames_of n ledger
frames-other n ledger f ne = frames-more n ledger f ∙ ap (λ (t : Bool). cond t (frames_of n ledger ++ (f ∷ [])) (frames_of n ledger)) (ne_eqb f.number n ne)

-- ---- a log whose rounds are sound: those past the next have nothing

pub record Steady (R : RelayRound) (l : Log) : Type 0 where
  pub from : R.round.number ≤ l.number
  pub sound : (n : ℕ) → Sound R.round.size (base_of R n) (frames_of n l.counted)
  pub none : (n : ℕ) → l.number + 1 < n → frames_of n l.counted ≡ []

-- what was counted of a frame that the log accepts
pub record Noted (R : RelayRound) (l : Log) (f : Frame) : Type 0 where
  pub sender-some : 1 ≤ f.sender
  pub sender-few : f.sender ≤ R.round.size
  pub timely : (eqb f.number l.number || is_next l.number f.number) ≡ true
  pub long : length f.block ≡ R.round.length
  pub below : all_below R.round.q f.block ≡ true
  pub new : is_reported R l.counted f.number f.sender ≡ false

pub noted-known : (R : RelayRound) (l : Log) (f : Frame) → accepted ≡ log_code R l (heard f) → Noted R l f
noted-known R l f e =
    let w = (none-holds (relay_checks R ++ log_checks R l (heard f)) tt e).1.1.1.1.1.1 in
    let (low, high) = one_known R.round.size f.sender (not-false (one_of R.round.size f.sender) w.0) in
    record {
      sender-some = low;
      sender-few = high;
      timely = not-false (eqb f.number l.number || is_next l.number f.number) w.1.0;
      long = eqb-true (length f.block) R.round.length (not-false (eqb (length f.block) R.round.length) w.1.1.0);
      below = not-false (all_below R.round.q f.block) w.1.1.1.0;
      new = w.1.1.1.1.0;
    }

-- ---- what was held in the state handed in

module _ (R : RelayRound) where
  abbrev r : ℕ
  r = R.round.number

  base-here : base_of R r ≡ R.round
  base-here = ap (λ (t : Bool). held_as R.round r (cond t (held_of R.round) (cond (eqb r (r + 1)) R.ahead nothing))) (eq-eqb r r refl)

  held-there : held_for R (r + 1) ≡ R.ahead
  held-there =
      ap₂ (λ (s t : Bool). cond s (held_of R.round) (cond t R.ahead nothing)) (ne_eqb (r + 1) r (λ e. absurd (omega arith))) (eq-eqb (r + 1) (r + 1) refl)

  held-past : (n : ℕ) → r + 1 < n → held_for R n ≡ nothing
  held-past n h =
      ap₂ (λ (s t : Bool). cond s (held_of R.round) (cond t R.ahead nothing)) (ne_eqb n r (λ e. absurd (omega arith)))
      (ne_eqb n (r + 1) (λ e. absurd (omega arith)))

module _ (R : RelayRound) (good : accepted ≡ first_of (relay_checks R)) where
  -- good for every number
  pub base-good : (n : ℕ) → Good R.round.size (base_of R n)
  base-good n = go (eqb n R.round.number) (eqb n (R.round.number + 1))
    where
      go : (s t : Bool) → Good R.round.size (held_as R.round n (cond s (held_of R.round) (cond t R.ahead nothing)))
      go true t =
          let g = (ready R good).here in
          record { opening = g.opening; reported = g.reported; low = g.low; high = g.high }
      go false true = (ready R good).there n
      go false false =
          let o = (ready R good).here.opening in
          record {
            opening = o;
            reported = pow_pos R.round.size;
            low = zeros-low R.round.q R.round.length max_length (prime-pos o.prime);
            high = zeros-high R.round.q R.round.length max_length;
          }

  -- ---- the relay of a steady log

  module _ (l : Log) (st : Steady R l) where
    -- its state is good
    at-good : accepted ≡ first_of (relay_checks (relay_at R l))
    at-good =
        let w = none-holds (relay_checks R) tt good in
        sym
        (simp (
          w.0,
          w.1.0,
          w.1.1.0,
          w.1.1.1.0,
          lt-ltb _ _ (st.sound l.number).below,
          lt-ltb _ _ (st.sound (l.number + 1)).below,
          after-sums R.round.size true (base_of R l.number) (base-good l.number) (frames_of l.number l.counted),
          after-sums R.round.size true (base_of R (l.number + 1)) (base-good (l.number + 1)) (frames_of (l.number + 1) l.counted),
        ))

    -- a frame is answered as the log answers it
    heard-code : (f : Frame) → relay_code (relay_at R l) f ≡ log_code R l (heard f)
    heard-code f =
        sym (own-decides (relay_at R l) f at-good)
        ∙ go (is_next l.number f.number) refl
        ∙ rest-decides (relay_checks R) (log_checks R l (heard f)) tt good
      where
        rest : Bool → Bool → Code
        rest t h =
            cond (not (one_of R.round.size f.sender)) (code 8)
            (cond (not t) (code 14)
            (cond (not (eqb (length f.block) R.round.length)) (code 4)
            (cond (not (all_below R.round.q f.block)) (code 3)
            (cond h (code 11) accepted))))

        or-true : (b : Bool) → (b || true) ≡ true
        or-true true = refl
        or-true false = refl

        -- held against round n
        against : (n : ℕ) → first_of (own_checks R.round.size (round_at R l.counted n) [] f) ≡ rest (eqb f.number n)
            (is_reported R l.counted n f.sender)
        against n = own_same R.round.size (base_of R n) (frames_of n l.counted) (st.sound n) f

        pick : Bool → Code
        pick t = first_of (own_checks R.round.size (cond t (round_at R l.counted (l.number + 1)) (round_at R l.counted l.number)) [] f)

        here : (t : Bool) → eqb f.number l.number ≡ t → rest t (is_reported R l.counted l.number f.sender) ≡ rest t
            (is_reported R l.counted f.number f.sender)
        here true e = ap (λ (n : ℕ). rest true (is_reported R l.counted n f.sender)) (sym (eqb-true f.number l.number e))
        here false e = refl

        go : (t : Bool) → is_next l.number f.number ≡ t
            → pick (is_next l.number f.number) ≡ rest (eqb f.number l.number || is_next l.number f.number)
            (is_reported R l.counted f.number f.sender)
        go true n =
            let e : f.number ≡ l.number + 1 = next-number l.number f.number n in
            ap pick n
            ∙ against (l.number + 1)
            ∙ ap₂ rest (eq-eqb f.number (l.number + 1) e ∙ sym (or-true (eqb f.number l.number)))
            (ap (λ (n : ℕ). is_reported R l.counted n f.sender) (sym e))
            ∙ ap (λ (t : Bool). rest (eqb f.number l.number || t) (is_reported R l.counted f.number f.sender)) (sym n)
        go false n =
            ap pick n
            ∙ against l.number
            ∙ here (eqb f.number l.number) refl
            ∙ ap (λ (t : Bool). rest t (is_reported R l.counted f.number f.sender)) (sym (or-none (eqb f.number l.number)))
            ∙ ap (λ (t : Bool). rest (eqb f.number l.number || t) (is_reported R l.counted f.number f.sender)) (sym n)

    -- a frame that is counted
    module _ (f : Frame) (noted : Noted R l f) where
      passed : Passed R.round.size (base_of R f.number) (frames_of f.number l.counted) f
      passed =
          record {
            good = base-good f.number;
            sender-some = noted.sender-some;
            sender-few = noted.sender-few;
            long = noted.long;
            below = noted.below;
            same = refl;
            new = noted.new;
          }

      sound-after : (n : ℕ) → Dec (f.number ≡ n) → Sound R.round.size (base_of R n) (frames_of n (l.counted ++ (f ∷ [])))
      sound-after n (yes e) =
          subst (Sound R.round.size (base_of R n)) (sym (frames-own n l.counted f e))
          (subst (λ (m : ℕ). Sound R.round.size (base_of R m) (frames_of m l.counted ++ (f ∷ []))) e
          (sound_more R.round.size (base_of R f.number) (frames_of f.number l.counted) f (st.sound f.number) passed))
      sound-after n (no ne) = subst (Sound R.round.size (base_of R n)) (sym (frames-other n l.counted f ne)) (st.sound n)

      soon : f.number ≤ l.number + 1
      soon = go (is_next l.number f.number) refl
        where
          go : (t : Bool) → is_next l.number f.number ≡ t → f.number ≤ l.number + 1
          go true n = omega (arith, next-number l.number f.number n)
          go false n =
              omega (
                arith,
                eqb-true f.number l.number
                    (sym (or-none (eqb f.number l.number)) ∙ ap (λ (t : Bool). eqb f.number l.number || t) (sym n) ∙ noted.timely),
              )

      counted-steady : Steady R (log l.number (l.counted ++ (f ∷ [])))
      counted-steady =
          record {
            from = st.from;
            sound = λ n. sound-after n (ℕ_discrete f.number n);
            none = λ n h. frames-other n l.counted f (λ e. absurd (omega (arith, soon))) ∙ st.none n h;
          }

      own_at : (n : ℕ) → f.number ≡ n → after (round_at R l.counted n) (f ∷ []) ≡ round_at R (l.counted ++ (f ∷ [])) n
      own_at n e =
          after-twice R.round.size true (base_of R n) (frames_of n l.counted) f ∙ ap (after (base_of R n)) (sym (frames-own n l.counted f e))

      other_at : (n : ℕ) → (f.number ≡ n → ⊥) → round_at R l.counted n ≡ round_at R (l.counted ++ (f ∷ [])) n
      other_at n ne = ap (after (base_of R n)) (sym (frames-other n l.counted f ne))

      counted-at : relay_counted (relay_at R l) f ≡ relay_at R (log l.number (l.counted ++ (f ∷ [])))
      counted-at = go (is_next l.number f.number) refl
        where
          there : RelayRound
          there = relay_round R.cluster (round_at R l.counted l.number) (held_of (after (round_at R l.counted (l.number + 1)) (f ∷ [])))

          here : RelayRound
          here = relay_round R.cluster (after (round_at R l.counted l.number) (f ∷ [])) (held_of (round_at R l.counted (l.number + 1)))

          go : (t : Bool) → is_next l.number f.number ≡ t
              → cond (is_next l.number f.number) there here ≡ relay_at R (log l.number (l.counted ++ (f ∷ [])))
          go true n =
              let e : f.number ≡ l.number + 1 = next-number l.number f.number n in
              ap (λ (t : Bool). cond t there here) n
              ∙ ap₂ (λ (X Y : Round). relay_round R.cluster X (held_of Y)) (other_at l.number (λ d. absurd (omega arith))) (own_at (l.number + 1) e)
          go false n =
              let e : f.number ≡ l.number =
              eqb-true f.number l.number (sym (or-none (eqb f.number l.number)) ∙ ap (λ (t : Bool). eqb f.number l.number || t) (sym n)
              ∙ noted.timely) in
              ap (λ (t : Bool). cond t there here) n
              ∙ ap₂ (λ (X Y : Round). relay_round R.cluster X (held_of Y)) (own_at l.number e) (other_at (l.number + 1) (λ d. absurd (omega arith)))

    -- moving on, and sums wanted
    full_at : is_full R.round.size (relay_at R l).round [] ≡ all_reported R l.counted l.number
    full_at = full-same R.round.size (base_of R l.number) (frames_of l.number l.counted) (st.sound l.number)

    move-code : move_code (relay_at R l) ≡ log_code R l moves
    move-code =
        sym (rest-decides (relay_checks (relay_at R l)) ((not (has_next l.number), code 14)
        ∷ (not (is_full R.round.size (relay_at R l).round []), code 12) ∷ []) tt at-good)
        ∙ ap (λ (t : Bool). cond (not (has_next l.number)) (code 14) (cond (not t) (code 12) accepted)) full_at
        ∙ rest-decides (relay_checks R) (log_checks R l moves) tt good

    give-code : (out : List ℕ) → relay_give_code (relay_at R l) out ≡ log_code R l (asks out)
    give-code out =
        sym (rest-decides (relay_checks (relay_at R l)) (lent_checks R.round.size (relay_at R l).round [] (length out)) tt at-good)
        ∙ ap (λ (t : Bool). cond (not t) (code 12) (cond (not (eqb (length out) R.round.length)) (code 4) accepted)) full_at
        ∙ rest-decides (relay_checks R) (log_checks R l (asks out)) tt good

    told_same : (e : Event) → told (relay_at R l) e ≡ log_told R l e
    told_same (heard f) = ap (λ (c : Code). (c, [])) (heard-code f)
    told_same moves = ap (λ (c : Code). (c, [])) move-code
    told_same (asks out) =
        ap (λ (c : Code). (c, if_accepted c (take R.round.length (round_at R l.counted l.number).sums) out)) (give-code out)

    moved_steady : Steady R (log (l.number + 1) l.counted)
    moved_steady = record { from = omega (arith, st.from); sound = st.sound; none = λ n h. st.none n (omega arith) }

    moved_at : relay_round R.cluster (ahead_of (relay_at R l)) nothing ≡ relay_at R (log (l.number + 1) l.counted)
    moved_at = ap (λ (X : Round). relay_round R.cluster (round_at R l.counted (l.number + 1)) (held_of X)) empty
      where
        n : ℕ
        n = l.number + 1 + 1

        empty : held_as R.round n nothing ≡ round_at R l.counted n
        empty =
            ap (λ (h : Held). held_as R.round n h) (sym (held-past R n (omega (arith, st.from))))
            ∙ after_none R.round.size true (base_of R n) (base-good n)
            (ap (λ (h : Held). length h.sums) (held-past R n (omega (arith, st.from))) ∙ length-zeros max_length)
            ∙ ap (after (base_of R n)) (sym (st.none n (omega arith)))

    next-same : (e : Event) → (next_of (relay_at R l) e ≡ relay_at R (log_next R l e)) × Steady R (log_next R l e)
    next-same (heard f) = go (is_accepted (log_code R l (heard f))) refl
      where
        next : Log
        next = log l.number (l.counted ++ (f ∷ []))

        first : relay_next (relay_at R l) f ≡ if_accepted (log_code R l (heard f)) (relay_counted (relay_at R l) f) (relay_at R l)
        first = ap (λ (c : Code). if_accepted c (relay_counted (relay_at R l) f) (relay_at R l)) (heard-code f)

        go : (t : Bool) → is_accepted (log_code R l (heard f)) ≡ t → (relay_next (relay_at R l) f ≡ relay_at R (log_next R l (heard f))) × Steady R
            (log_next R l (heard f))
        go true n =
            let is : log_next R l (heard f) ≡ next = ap (λ (t : Bool). cond t next l) n in
            let noted = noted-known R l f (number-accepts (relay_checks R ++ log_checks R l (heard f)) tt n) in (
              first ∙ ap (λ (t : Bool). cond t (relay_counted (relay_at R l) f) (relay_at R l)) n ∙ counted-at f noted ∙ ap (relay_at R) (sym is),
              subst (Steady R) (sym is) (counted-steady f noted),
            )
        go false n =
            let is : log_next R l (heard f) ≡ l = ap (λ (t : Bool). cond t next l) n in (
              first ∙ ap (λ (t : Bool). cond t (relay_counted (relay_at R l) f) (relay_at R l)) n ∙ ap (relay_at R) (sym is),
              subst (Steady R) (sym is) st,
            )
    next-same moves = go (is_accepted (log_code R l moves)) refl
      where
        next : Log
        next = log (l.number + 1) l.counted

        goes : RelayRound
        goes = relay_round R.cluster (ahead_of (relay_at R l)) nothing

        first : moved (relay_at R l) ≡ if_accepted (log_code R l moves) goes (relay_at R l)
        first = ap (λ (c : Code). if_accepted c goes (relay_at R l)) move-code

        go : (t : Bool) → is_accepted (log_code R l moves) ≡ t → (moved (relay_at R l) ≡ relay_at R (log_next R l moves)) × Steady R (log_next R l moves)
        go true n =
            let is : log_next R l moves ≡ next = ap (λ (t : Bool). cond t next l) n in
            (first ∙ ap (λ (t : Bool). cond t goes (relay_at R l)) n ∙ moved_at ∙ ap (relay_at R) (sym is), subst (Steady R) (sym is) moved_steady)
        go false n =
            let is : log_next R l moves ≡ l = ap (λ (t : Bool). cond t next l) n in
            (first ∙ ap (λ (t : Bool). cond t goes (relay_at R l)) n ∙ ap (relay_at R) (sym is), subst (Steady R) (sym is) st)
    next-same (asks out) = (refl, st)

  run-same : (events : List Event) (l : Log) → Steady R l
      → (relay_answers (relay_at R l) events ≡ log_answers R l events) × (relay_run (relay_at R l) events ≡ relay_at R (log_after R l events)) × Steady R
      (log_after R l events)
  unfolding relay_answers relay_run log_answers log_after
  run-same [] l st = (refl, refl, st)
  run-same (e ∷ events) l st =
      let (next, st') = next-same l st e in
      let (a, x, s) = run-same events (log_next R l e) st' in
      (ap₂ ◌∷◌ (told_same l st e) (ap (λ (X : RelayRound). relay_answers X events) next ∙ a), ap (λ (X : RelayRound). relay_run X events) next ∙ x, s)

  -- nothing counted
  start-steady : Steady R (log R.round.number [])
  unfolding frames_of
  start-steady =
      record { from = omega arith; sound = λ n. sound_none R.round.size (base_of R n) (base-good n); none = λ n h. refl }

  module _ (here : length R.round.sums ≡ max_length) (there : length R.ahead.sums ≡ max_length) where
    start-at : R ≡ relay_at R (log R.round.number [])
    unfolding frames_of
    start-at =
        ap₂ (λ (X : Round) (h : Held). relay_round R.cluster X h)
        (sym (base-here R) ∙ after_none R.round.size true (base_of R r₀) (base-good r₀) (ap (λ (X : Round). length X.sums) (base-here R) ∙ here))
        (sym (held-there R) ∙ ap held_of (after_none R.round.size true (base_of R (r₀ + 1)) (base-good (r₀ + 1))
        (ap (λ (h : Held). length h.sums) (held-there R) ∙ there)))
      where
        r₀ : ℕ
        r₀ = R.round.number

    -- a good state and its log
    pub good-events : (events : List Event)
        → (relay_answers R events ≡ log_answers R (log R.round.number []) events) × (relay_run R events ≡ relay_at R (log_of R events)) × Steady R
        (log_of R events)
    good-events events =
        let (a, x, s) = run-same events (log R.round.number []) start-steady in
        (ap (λ (X : RelayRound). relay_answers X events) start-at ∙ a, ap (λ (X : RelayRound). relay_run X events) start-at ∙ x, s)

    -- the answer when the sums are wanted after the events
    pub log-give : (events : List Event) (out : List ℕ) → relay_give_code (relay_run R events) out ≡ log_code R (log_of R events) (asks out)
    log-give events out =
        let (a, x, s) = good-events events in
        ap (λ (X : RelayRound). relay_give_code X out) x ∙ give-code (log_of R events) s out

-- ---- a bad state refuses every event with its own number and stays as it is

module _ (R : RelayRound) (bad : is_accepted (first_of (relay_checks R)) ≡ false) where
  same-refusal : (a b : List (Bool × Code)) → first_of (relay_checks R ++ a) ≡ first_of (relay_checks R ++ b)
  same-refusal a b = sym (first-decides (relay_checks R) a bad) ∙ first-decides (relay_checks R) b bad

  refused : (a : List (Bool × Code)) → is_accepted (first_of (relay_checks R ++ a)) ≡ false
  refused a = ap is_accepted (sym (first-decides (relay_checks R) a bad)) ∙ bad

  bad-told : (l : Log) (e : Event) → told R e ≡ log_told R l e
  bad-told l (heard f) = ap (λ (c : Code). (c, [])) (same-refusal (own_checks R.round.size (round_for R f) [] f) (log_checks R l (heard f)))
  bad-told l moves =
      ap (λ (c : Code). (c, [])) (same-refusal ((not (has_next R.round.number), code 14) ∷ (not (is_full R.round.size R.round []), code 12) ∷ [])
      (log_checks R l moves))
  bad-told l (asks out) =
      let own = lent_checks R.round.size R.round [] (length out) in
      ap₂ (λ (c : Code) (o : List ℕ). (c, o)) (same-refusal own (log_checks R l (asks out)))
      (ap (λ (t : Bool). cond t (take R.round.length R.round.sums) out) (refused own)
      ∙ sym (ap (λ (t : Bool). cond t (take R.round.length (round_at R l.counted l.number).sums) out) (refused (log_checks R l (asks out)))))

  bad-next : (e : Event) → next_of R e ≡ R
  bad-next (heard f) = ap (λ (t : Bool). cond t (relay_counted R f) R) (refused (own_checks R.round.size (round_for R f) [] f))
  bad-next moves =
      ap (λ (t : Bool). cond t (relay_round R.cluster (ahead_of R) nothing) R)
      (refused ((not (has_next R.round.number), code 14) ∷ (not (is_full R.round.size R.round []), code 12) ∷ []))
  bad-next (asks out) = refl

  bad-log : (l : Log) (e : Event) → log_next R l e ≡ l
  bad-log l (heard f) = ap (λ (t : Bool). cond t (log l.number (l.counted ++ (f ∷ []))) l) (refused (log_checks R l (heard f)))
  bad-log l moves = ap (λ (t : Bool). cond t (log (l.number + 1) l.counted) l) (refused (log_checks R l moves))
  bad-log l (asks out) = refl

  idle : (l : Log) (events : List Event) → (relay_answers R events ≡ log_answers R l events) × (relay_run R events ≡ R)
  unfolding relay_answers relay_run log_answers
  idle l [] = (refl, refl)
  idle l (e ∷ events) =
      let (a, x) = idle l events in (
        ap₂ ◌∷◌ (bad-told l e) (ap (λ (X : RelayRound). relay_answers X events) (bad-next e) ∙ a ∙ ap (λ (m : Log). log_answers R m events) (sym (bad-log l e))),
        ap (λ (X : RelayRound). relay_run X events) (bad-next e) ∙ x,
      )

-- ---- for every state, good or bad, and every list of events

pub relay-ledger : (R : RelayRound) → length R.round.sums ≡ max_length → length R.ahead.sums ≡ max_length → (events : List Event)
    → (relay_answers R events ≡ log_answers R (log R.round.number []) events)
    × (relay_run R events ≡ if_accepted (first_of (relay_checks R)) (relay_at R (log_of R events)) R)
relay-ledger R here there events = go (is_accepted (first_of (relay_checks R))) refl
  where
    go : (t : Bool) → is_accepted (first_of (relay_checks R)) ≡ t
        → (relay_answers R events ≡ log_answers R (log R.round.number []) events)
        × (relay_run R events ≡ if_accepted (first_of (relay_checks R)) (relay_at R (log_of R events)) R)
    go true n =
        let (a, x, s) = good-events R (number-accepts (relay_checks R) tt n) here there events in
        (a, x ∙ sym (ap (λ (t : Bool). cond t (relay_at R (log_of R events)) R) n))
    go false n =
        let (a, x) = idle R n (log R.round.number []) events in
        (a, x ∙ sym (ap (λ (t : Bool). cond t (relay_at R (log_of R events)) R) n))
