-- A round is its ledger: for every state that is handed in, good or bad, and for all frames in any order, each answer and the round after them are
-- those of the ledger, and so is the answer when sums are wanted.
use Prim.Native.Nat.{ℕ, suc, ◌+◌, ◌-◌, ◌%◌, ◌^◌, ◌≤◌, ◌<◌}
use mathlib.Core.Path.{◌≡◌, refl, sym, ap, ap₂, ◌∙◌, subst}
use mathlib.Core.Bool.{Bool, true, false, cond, not, ◌||◌}
use mathlib.Core.List.{List, [], ◌∷◌, ◌++◌}
use native.Mathlib.Nat.{add-zero, mod-eq_of_lt}
use native.Mathlib.Decide.{ℕ_discrete, dec_lt}
use native.Mathlib.Omega.{arith}
use lib.Dec.{ltb, eqb}
use lib.ListN.{length, take}
use lib.Seq.{get_or-take}
use borrow.Author.Tests.{eq-eqb, ne_eqb, lt-ltb, le-ltb}
use Rattle.refusals.specs.declared.Code.{Code}
use Rattle.refusals.specs.Codes.{code, accepted, first_of, if_accepted}
use Rattle.refusals.proofs.CodeLaws.{none-holds}
use Rattle.residues.specs.Primes.{all_below}
use Rattle.lists.proofs.Searches.{true→T, all-cong, one_known}
use Rattle.residues.proofs.Congruence.{c-refl, c-add, of-rem, to-mod}
use Rattle.residues.proofs.PrimeLaws.{prime-pos, below_at}
use Rattle.lists.specs.Lists.{at, tab}
use Rattle.lists.proofs.ListLaws.{at-tab, tab-at, tab-cong}
use Rattle.refusals.proofs.Orders.{first-decides, rest-decides, number-accepts}
use Rattle.rounds.specs.declared.Round.{Round}
use Rattle.rounds.specs.Ledger.{Frame, named, bits_of, counted_at}
use Rattle.lists.specs.Bits.{has_bit}
use Rattle.rounds.specs.Machine.{Good}
use Rattle.rounds.specs.Rounds.{one_of, sums_fit, state_checks, has_reported, is_full, after, own_checks, lent_checks, frame_checks, give_checks, step_code}
use Rattle.rounds.specs.Rounds.{stepped, give_code, sums_after, answers_of, run_of, noted, ledger_answers, ledger_of, ledger_give_code, ledger_sums}
use Rattle.rounds.proofs.CheckLaws.{good-state, Passed, frame-known}
use Rattle.rounds.proofs.FitSums.{sums-fit}
use Rattle.rounds.proofs.ReportedLaws.{bit_added, added-below}
use Rattle.rounds.proofs.StepLaws.{or-none, past-zero}
use Rattle.plans.specs.Plans.{max_length}

-- ---- a ledger with one frame more

or_assoc : (a b c : Bool) → ((a || b) || c) ≡ (a || (b || c))
or_assoc true b c = refl
or_assoc false b c = refl

pub bits-more : (ledger : List Frame) (f : Frame) → bits_of (ledger ++ (f ∷ [])) ≡ bits_of ledger + 2 ^ (f.sender - 1)
unfolding bits_of
bits-more [] f = omega arith
bits-more (g ∷ ledger) f = omega (arith, bits-more ledger f)

pub named_more : (ledger : List Frame) (f : Frame) (s : ℕ) → named (ledger ++ (f ∷ [])) s ≡ (named ledger s || eqb f.sender s)
unfolding named
named_more [] f s = or-none (eqb f.sender s)
named_more (g ∷ ledger) f s =
    ap (λ (t : Bool). eqb g.sender s || t) (named_more ledger f s) ∙ sym (or_assoc (eqb g.sender s) (named ledger s) (eqb f.sender s))

pub counted-more : (ledger : List Frame) (f : Frame) (p : ℕ) → counted_at (ledger ++ (f ∷ [])) p ≡ counted_at ledger p + at f.block p
unfolding counted_at
counted-more [] f p = omega arith
counted-more (g ∷ ledger) f p = omega (arith, counted-more ledger f p)

eqb-less : (a b : ℕ) → 1 ≤ a → 1 ≤ b → eqb (a - 1) (b - 1) ≡ eqb a b
eqb-less a b h l = go (ℕ_discrete a b)
  where
    go : Dec (a ≡ b) → eqb (a - 1) (b - 1) ≡ eqb a b
    go (yes e) = eq-eqb (a - 1) (b - 1) (omega arith) ∙ sym (eq-eqb a b e)
    go (no n) = ne_eqb (a - 1) (b - 1) (λ e. n (omega arith)) ∙ sym (ne_eqb a b n)

-- ---- a ledger whose senders' bits are those of the round

pub record Sound (senders : ℕ) (R : Round) (ledger : List Frame) : Type 0 where
  pub below : R.reported + bits_of ledger < 2 ^ senders
  pub heard : (s : ℕ) → 1 ≤ s → has_bit (R.reported + bits_of ledger) (s - 1) ≡ (has_bit R.reported (s - 1) || named ledger s)

module _ (senders : ℕ) (R : Round) where
  pub sound_none : Good senders R → Sound senders R []
  unfolding bits_of named
  sound_none g =
      record {
        below = subst (λ (n : ℕ). n < 2 ^ senders) (sym (add-zero R.reported)) g.reported;
        heard = λ s h. ap (λ (n : ℕ). has_bit n (s - 1)) (add-zero R.reported) ∙ sym (or-none (has_bit R.reported (s - 1)));
      }

  pub sound_more : (ledger : List Frame) (f : Frame) → Sound senders R ledger → Passed senders R ledger f → Sound senders R (ledger ++ (f ∷ []))
  sound_more ledger f sound p =
      let X : ℕ = R.reported + bits_of ledger in
      let i : ℕ = f.sender - 1 in
      let new : has_bit X i ≡ false = sound.heard f.sender p.sender-some ∙ p.new in
      let more : R.reported + bits_of (ledger ++ (f ∷ [])) ≡ X + 2 ^ i = omega (arith, bits-more ledger f) in
      record {
        below = subst (λ (n : ℕ). n < 2 ^ senders) (sym more) (added-below X i new senders (omega (arith, p.sender-some, p.sender-few)) sound.below);
        heard = λ s h.
            ap (λ (n : ℕ). has_bit n (s - 1)) more
            ∙ bit_added X i new (s - 1)
            ∙ ap₂ ◌||◌ (sound.heard s h) (eqb-less f.sender s p.sender-some h)
            ∙ or_assoc (has_bit R.reported (s - 1)) (named ledger s) (eqb f.sender s)
            ∙ ap (λ (t : Bool). has_bit R.reported (s - 1) || t) (sym (named_more ledger f s));
      }

  -- a round that has become what the ledger says answers as the ledger does
  module _ (ledger : List Frame) (sound : Sound senders R ledger) where
    heard-same : (s : ℕ) → 1 ≤ s → has_reported (after R ledger) [] s ≡ has_reported R ledger s
    unfolding named
    heard-same s h = or-none (has_bit (R.reported + bits_of ledger) (s - 1)) ∙ sound.heard s h

    pub full-same : is_full senders (after R ledger) [] ≡ is_full senders R ledger
    full-same = all-cong senders (λ i. has_reported (after R ledger) [] (suc i)) (λ i. has_reported R ledger (suc i)) (λ i l. heard-same (suc i) (omega arith))

    pub own_same : (f : Frame) → first_of (own_checks senders (after R ledger) [] f) ≡ first_of (own_checks senders R ledger f)
    own_same f = go (one_of senders f.sender) refl
      where
        rest : Bool → Bool → Code
        rest t h =
            cond (not t) (code 8)
            (cond (not (eqb f.number R.number)) (code 14)
            (cond (not (eqb (length f.block) R.length)) (code 4)
            (cond (not (all_below R.q f.block)) (code 3)
            (cond h (code 11) accepted))))

        go : (t : Bool) → one_of senders f.sender ≡ t
            → rest (one_of senders f.sender) (has_reported (after R ledger) [] f.sender)
            ≡ rest (one_of senders f.sender) (has_reported R ledger f.sender)
        go true o =
            ap (rest (one_of senders f.sender)) (heard-same f.sender (one_known senders f.sender o).0)
        go false o =
            ap (λ (t : Bool). rest t (has_reported (after R ledger) [] f.sender)) o
            ∙ sym (ap (λ (t : Bool). rest t (has_reported R ledger f.sender)) o)

-- ---- the round of a ledger

module _ (senders : ℕ) (known : Bool) (R : Round) where
  abbrev holding : ℕ → List ℕ → Round
  holding n sums =
      record { clusters = R.clusters; size = R.size; q = R.q; length = R.length; number = R.number; reported = n; sums = sums }

  abbrev summed : List Frame → ℕ → ℕ
  summed ledger p = cond (ltb p R.length) ((at R.sums p + counted_at ledger p) % R.q) 0

  -- nothing counted
  pub after_none : Good senders R → length R.sums ≡ max_length → R ≡ after R []
  unfolding bits_of counted_at
  after_none g e = ap₂ holding (sym (add-zero R.reported)) (sym (tab-at max_length (summed []) R.sums e (λ k l. go k (dec_lt k R.length))))
    where
      go : (k : ℕ) → Dec (k < R.length) → cond (ltb k R.length) ((at R.sums k + 0) % R.q) 0 ≡ at R.sums k
      go k (yes h) =
          let pos : 0 < R.q = prime-pos g.opening.prime in
          let b : at (take R.length R.sums) k < R.q = below_at R.q (take R.length R.sums) pos (true→T _ g.low) k in
          let m : at (take R.length R.sums) k ≡ at R.sums k = get_or-take R.length R.sums k 0 h in
          rw (lt-ltb k R.length h) (mod-eq_of_lt (omega arith) ∙ add-zero (at R.sums k))
      go k (no h) =
          rw (le-ltb k R.length (omega arith)) (sym (past-zero R.length R.sums g.high k (omega arith)))

  -- one frame after others
  pub after-twice : (ledger : List Frame) (f : Frame) → after (after R ledger) (f ∷ []) ≡ after R (ledger ++ (f ∷ []))
  unfolding bits_of counted_at
  after-twice ledger f = ap₂ holding (omega (arith, bits-more ledger f))
      (tab-cong max_length _ (summed (ledger ++ (f ∷ []))) (λ k l. go k l (dec_lt k R.length)))
    where
      go : (k : ℕ) → k < max_length → Dec (k < R.length)
          → cond (ltb k R.length) ((at (tab max_length (summed ledger)) k + (at f.block k + 0)) % R.q) 0 ≡ summed (ledger ++ (f ∷ [])) k
      go k l (yes h) =
          let here : at (tab max_length (summed ledger)) k ≡ (at R.sums k + counted_at ledger k) % R.q =
          at-tab max_length (summed ledger) k l ∙ ap (λ (t : Bool). cond t ((at R.sums k + counted_at ledger k) % R.q) 0) (lt-ltb k R.length h) in
          rw (lt-ltb k R.length h)
          (ap (λ (z : ℕ). (z + (at f.block k + 0)) % R.q) here
          ∙ to-mod (c-add (of-rem R.q (at R.sums k + counted_at ledger k)) c-refl)
          ∙ ap (λ (z : ℕ). z % R.q) (omega (arith, counted-more ledger f k)))
      go k l (no h) = rw (le-ltb k R.length (omega arith))

  -- the round of a ledger is good where R is
  pub after-sums : Good senders R → (ledger : List Frame) → sums_fit R.q R.length (tab max_length (summed ledger)) ≡ true
  after-sums g ledger = sums-fit R.q R.length max_length (λ p. at R.sums p + counted_at ledger p) (prime-pos g.opening.prime)

  module _ (e : accepted ≡ first_of (state_checks senders known R)) where
    pub after-state : (ledger : List Frame) → Sound senders R ledger → accepted ≡ first_of (state_checks senders known (after R ledger))
    after-state ledger sound =
        let w = none-holds (state_checks senders known R) tt e in
        sym (simp (w.0, w.1.0, w.1.1.0, w.1.1.1.0, lt-ltb _ _ sound.below, after-sums (good-state senders known R e) ledger))

    module _ (ledger : List Frame) (sound : Sound senders R ledger) where
      -- a frame is answered as the ledger answers it
      frame_same : (f : Frame) → step_code senders known (after R ledger) f ≡ first_of (frame_checks senders known R ledger f)
      frame_same f =
          sym (rest-decides (state_checks senders known (after R ledger)) (own_checks senders (after R ledger) [] f) tt (after-state ledger sound))
          ∙ own_same senders R ledger sound f
          ∙ rest-decides (state_checks senders known R) (own_checks senders R ledger f) tt e

      step_same : (f : Frame) → (stepped senders known (after R ledger) f ≡ after R (noted senders known R ledger f)) × Sound senders R
          (noted senders known R ledger f)
      step_same f = go (eqb (first_of (frame_checks senders known R ledger f)).number 0) refl
        where
          next : Round
          next = after (after R ledger) (f ∷ [])

          first : stepped senders known (after R ledger) f ≡ if_accepted (first_of (frame_checks senders known R ledger f)) next (after R ledger)
          first = ap (λ (c : Code). if_accepted c next (after R ledger)) (frame_same f)

          go : (t : Bool) → eqb (first_of (frame_checks senders known R ledger f)).number 0 ≡ t
              → (stepped senders known (after R ledger) f ≡ after R (noted senders known R ledger f)) × Sound senders R (noted senders known R ledger f)
          go true n =
              let is : noted senders known R ledger f ≡ ledger ++ (f ∷ []) = ap (λ (t : Bool). cond t (ledger ++ (f ∷ [])) ledger) n in
              let p : Passed senders R ledger f = frame-known senders known R ledger f (number-accepts (frame_checks senders known R ledger f) tt n) in (
                first ∙ ap (λ (t : Bool). cond t next (after R ledger)) n ∙ after-twice ledger f ∙ ap (after R) (sym is),
                subst (Sound senders R) (sym is) (sound_more senders R ledger f sound p),
              )
          go false n =
              let is : noted senders known R ledger f ≡ ledger = ap (λ (t : Bool). cond t (ledger ++ (f ∷ [])) ledger) n in (
                first ∙ ap (λ (t : Bool). cond t next (after R ledger)) n ∙ ap (after R) (sym is),
                subst (Sound senders R) (sym is) sound,
              )

      give-same : (out : List ℕ) → first_of (give_checks senders known (after R ledger) [] out) ≡ first_of (give_checks senders known R ledger out)
      give-same out =
          sym (rest-decides (state_checks senders known (after R ledger)) (lent_checks senders (after R ledger) [] (length out)) tt (after-state ledger sound))
          ∙ ap (λ (t : Bool). cond (not t) (code 12) (cond (not (eqb (length out) R.length)) (code 4) accepted)) (full-same senders R ledger sound)
          ∙ rest-decides (state_checks senders known R) (lent_checks senders R ledger (length out)) tt e

    run-same : (frames ledger : List Frame) → Sound senders R ledger
        → (answers_of senders known (after R ledger) frames ≡ ledger_answers senders known R ledger frames)
        × (run_of senders known (after R ledger) frames ≡ after R (ledger_of senders known R ledger frames))
        × Sound senders R (ledger_of senders known R ledger frames)
    unfolding answers_of run_of ledger_answers ledger_of
    run-same [] ledger sound = (refl, refl, sound)
    run-same (f ∷ frames) ledger sound =
        let (st, next) = step_same ledger sound f in
        let (a, r, s) = run-same frames (noted senders known R ledger f) next in (
          ap₂ ◌∷◌ (frame_same ledger sound f) (ap (λ (X : Round). answers_of senders known X frames) st ∙ a),
          ap (λ (X : Round). run_of senders known X frames) st
              ∙ r,
          s,
        )

  -- a bad state refuses every frame with its own number and stays as it is
  idle : eqb (first_of (state_checks senders known R)).number 0 ≡ false → (frames : List Frame)
      → (answers_of senders known R frames ≡ ledger_answers senders known R [] frames) × (run_of senders known R frames ≡ R)
      × (ledger_of senders known R [] frames ≡ [])
  unfolding answers_of run_of ledger_answers ledger_of
  idle n [] = (refl, refl, refl)
  idle n (f ∷ frames) =
      let same : first_of (frame_checks senders known R [] f) ≡ first_of (state_checks senders known R) = sym
      (first-decides (state_checks senders known R) (own_checks senders R [] f) n) in
      let no : eqb (first_of (frame_checks senders known R [] f)).number 0 ≡ false = ap (λ (c : Code). eqb c.number 0) same ∙ n in
      let stays : stepped senders known R f ≡ R = ap (λ (t : Bool). cond t (after R (f ∷ [])) R) no in
      let none : noted senders known R [] f ≡ [] = ap (λ (t : Bool). cond t (f ∷ []) []) no in
      let (a, r, l) = idle n frames in (
        ap (λ (x : List Code). step_code senders known R f ∷ x)
            (ap (λ (X : Round). answers_of senders known X frames) stays ∙ a ∙ ap (λ (x : List Frame). ledger_answers senders known R x frames) (sym none)),
        ap (λ (X : Round). run_of senders known X frames) stays ∙ r,
        ap (λ (x : List Frame). ledger_of senders known R x frames) none ∙ l,
      )

  -- a good state and its ledger
  pub good-run : accepted ≡ first_of (state_checks senders known R) → length R.sums ≡ max_length → (frames : List Frame)
      → (answers_of senders known R frames ≡ ledger_answers senders known R [] frames)
      × (run_of senders known R frames ≡ after R (ledger_of senders known R [] frames))
      × Sound senders R (ledger_of senders known R [] frames)
  good-run e sixty-four frames =
      let g : Good senders R = good-state senders known R e in
      let z : R ≡ after R [] = after_none g sixty-four in
      let (a, r, s) = run-same e frames [] (sound_none senders R g) in
      (ap (λ (X : Round). answers_of senders known X frames) z ∙ a, ap (λ (X : Round). run_of senders known X frames) z ∙ r, s)

  -- ---- for every state, good or bad

  module _ (sixty-four : length R.sums ≡ max_length) (frames : List Frame) where
    -- the answers, and the round after the frames
    pub ledger-run : (answers_of senders known R frames ≡ ledger_answers senders known R [] frames)
        × (run_of senders known R frames ≡ if_accepted (first_of (state_checks senders known R)) (after R (ledger_of senders known R [] frames)) R)
    ledger-run = go (eqb (first_of (state_checks senders known R)).number 0) refl
      where
        go : (t : Bool) → eqb (first_of (state_checks senders known R)).number 0 ≡ t
            → (answers_of senders known R frames ≡ ledger_answers senders known R [] frames)
            × (run_of senders known R frames ≡ if_accepted (first_of (state_checks senders known R)) (after R (ledger_of senders known R [] frames)) R)
        go true n =
            let (a, r, s) = good-run (number-accepts (state_checks senders known R) tt n) sixty-four frames in
            (a, r ∙ sym (ap (λ (t : Bool). cond t (after R (ledger_of senders known R [] frames)) R) n))
        go false n =
            let (a, r, l) = idle n frames in
            (a, r ∙ sym (ap (λ (t : Bool). cond t (after R (ledger_of senders known R [] frames)) R) n))

    -- what is answered when the sums are wanted after the frames, and what the lent buffer holds then
    pub ledger-give : (out : List ℕ)
        → (give_code senders known (run_of senders known R frames) out ≡ ledger_give_code senders known R (ledger_of senders known R [] frames) out)
        × (sums_after senders known (run_of senders known R frames) out ≡ ledger_sums senders known R (ledger_of senders known R [] frames) out)
    ledger-give out = go (eqb (first_of (state_checks senders known R)).number 0) refl
      where
        go : (t : Bool) → eqb (first_of (state_checks senders known R)).number 0 ≡ t
            → (give_code senders known (run_of senders known R frames) out ≡ ledger_give_code senders known R (ledger_of senders known R [] frames) out)
            × (sums_after senders known (run_of senders known R frames) out ≡ ledger_sums senders known R (ledger_of senders known R [] frames) out)
        go true n =
            let e : accepted ≡ first_of (state_checks senders known R) = number-accepts (state_checks senders known R) tt n in
            let (a, r, s) = good-run e sixty-four frames in
            let same = give-same e (ledger_of senders known R [] frames) s out in (
              ap (λ (X : Round). give_code senders known X out) r ∙ same,
              ap (λ (X : Round). sums_after senders known X out) r
                  ∙ ap (λ (c : Code). if_accepted c (take R.length (after R (ledger_of senders known R [] frames)).sums) out) same,
            )
        go false n =
            let (a, r, l) = idle n frames in
            let here = sym (first-decides (state_checks senders known R) (lent_checks senders R [] (length out)) n) in
            let no : eqb (give_code senders known R out).number 0 ≡ false = ap (λ (c : Code). eqb c.number 0) here ∙ n in (
              ap (λ (X : Round). give_code senders known X out) r ∙ sym (ap (λ (x : List Frame). ledger_give_code senders known R x out) l),
              ap (λ (X : Round). sums_after senders known X out) r
                  ∙ ap (λ (t : Bool). cond t (take R.length R.sums) out) no
                  ∙ sym (ap (λ (t : Bool). cond t (take R.length (after R []).sums) out) no)
                  ∙ sym (ap (λ (x : List Frame). ledger_sums senders known R x out) l),
            )
