-- A relay from its opening (request Q-6): "each round's gateway sums are those that the counted frames, sorted by round, give", whatever events came, and in
-- whatever order; and what is held for the next round is the same of its frames.
use Prim.Native.Nat.{ℕ, suc, ◌+◌, ◌%◌, ◌^◌}
use mathlib.Core.Path.{◌≡◌, refl, sym, ap, ◌∙◌, subst}
use mathlib.Core.Bool.{Bool, true, false, cond, not}
use mathlib.Core.List.{List, [], ◌∷◌, ◌++◌}
use native.Mathlib.Decide.{ℕ_discrete}
use lib.Dec.{eqb}
use lib.ListN.{length, take}
use lib.Pow.{pow_pos}
use borrow.Author.Tests.{eq-eqb, lt-ltb}
use Rattle.refusals.specs.Codes.{code, accepted, is_accepted, first_of, if_accepted}
use Rattle.refusals.proofs.CodeLaws.{none-holds, accepted-takes}
use Rattle.refusals.proofs.Orders.{rest-decides, number-accepts}
use Rattle.residues.proofs.PrimeLaws.{prime-pos}
use Rattle.lists.specs.Lists.{at, tab}
use Rattle.lists.specs.Sums.{sum_to}
use Rattle.lists.proofs.ListLaws.{length-zeros}
use Rattle.rounds.specs.declared.Round.{Round}
use Rattle.rounds.specs.declared.RelayRound.{RelayRound}
use Rattle.rounds.specs.Ledger.{Frame, named, counted_at, frames_of, everyone, Heard}
use Rattle.rounds.specs.Machine.{Opening}
use Rattle.rounds.specs.Rounds.{one_of, open_checks, opened, after, is_full, has_reported}
use Rattle.rounds.specs.Relays.{relay_round, held_of, held_as, nothing, relay_checks, relay_give_code, relay_sums}
use Rattle.rounds.specs.Relays.{Event, heard, moves, asks, relay_answers, relay_run}
use Rattle.rounds.specs.Relays.{Log, log, base_of, relay_at, log_checks, log_code, log_next, log_answers, log_after, log_of}
use Rattle.rounds.proofs.CheckLaws.{opening-known}
use Rattle.rounds.proofs.RelayLedger.{frames-own, frames-other, Noted, noted-known, good-events, log-give}
use Rattle.rounds.proofs.RoundLaws.{Tidy, tidy-none, tidy-more, heard-named, full-named, counted-block, heard-block, turn-given}
use Rattle.rounds.proofs.Zeros.{zeros-fit}
use Rattle.plans.specs.Plans.{max_length}

module _ (clusters size q L cluster number : ℕ) (pass : accepted ≡ first_of (open_checks clusters size q L (one_of clusters cluster))) where
  abbrev pub R : RelayRound
  R = relay_round cluster (opened clusters size q L number) nothing

  known-opening : Opening clusters size q L
  known-opening = opening-known clusters size q L (one_of clusters cluster) pass

  -- an opened round is a good state
  pub opened-good : accepted ≡ first_of (relay_checks R)
  opened-good =
      let w = none-holds (open_checks clusters size q L (one_of clusters cluster)) tt pass in
      sym
      (simp (
        w.0,
        w.1.0,
        w.1.1.0,
        w.1.1.1.0,
        lt-ltb 0 (2 ^ size) (pow_pos size),
        zeros-fit q L max_length (prime-pos known-opening.prime),
      ))

  -- it held nothing, for whatever round
  base-is : (n : ℕ) → base_of R n ≡ opened clusters size q L n
  base-is n = go (eqb n number) (eqb n (number + 1))
    where
      go : (s t : Bool) → held_as (opened clusters size q L number) n (cond s (held_of (opened clusters size q L number)) (cond t nothing nothing))
          ≡ opened clusters size q L n
      go true t = refl
      go false true = refl
      go false false = refl

  -- each round's part of the log names each sender once
  tidy-log : (events : List Event) (l : Log) → ((n : ℕ) → Tidy size (frames_of n l.counted)) → (n : ℕ) → Tidy size (frames_of n (log_after R l events).counted)
  unfolding log_after
  tidy-log [] l tidy = tidy
  tidy-log (e ∷ events) l tidy = tidy-log events (log_next R l e) (step e)
    where
      heard-step : (f : Frame) (t : Bool) → is_accepted (log_code R l (heard f)) ≡ t → (n : ℕ) → Tidy size
          (frames_of n (cond t (log l.number (l.counted ++ (f ∷ []))) l).counted)
      heard-step f false e n = tidy n
      heard-step f true e n = go (ℕ_discrete f.number n)
        where
          noted : Noted R l f
          noted = noted-known R l f (number-accepts (relay_checks R ++ log_checks R l (heard f)) tt e)

          new : named (frames_of f.number l.counted) f.sender ≡ false
          new =
              sym (heard-named clusters size q L f.number (frames_of f.number l.counted) f.sender)
              ∙ ap (λ (X : Round). has_reported X (frames_of f.number l.counted) f.sender) (sym (base-is f.number))
              ∙ noted.new

          go : Dec (f.number ≡ n) → Tidy size (frames_of n (l.counted ++ (f ∷ [])))
          go (yes d) =
              subst (Tidy size) (sym (frames-own n l.counted f d))
              (subst (λ (m : ℕ). Tidy size (frames_of m l.counted ++ (f ∷ []))) d
              (tidy-more size (frames_of f.number l.counted) f (tidy f.number) noted.sender-some noted.sender-few new))
          go (no d) = subst (Tidy size) (sym (frames-other n l.counted f d)) (tidy n)

      moves-step : (t : Bool) (n : ℕ) → Tidy size (frames_of n (cond t (log (l.number + 1) l.counted) l).counted)
      moves-step true n = tidy n
      moves-step false n = tidy n

      step : (e : Event) (n : ℕ) → Tidy size (frames_of n (log_next R l e).counted)
      step (heard f) n = heard-step f (is_accepted (log_code R l (heard f))) refl n
      step moves n = moves-step (is_accepted (log_code R l moves)) n
      step (asks out) n = tidy n

  module _ (events : List Event) where
    -- the number of the round after them, and the frames counted of round n
    abbrev pub now : ℕ
    now = (log_of R events).number

    abbrev pub counted : ℕ → List Frame
    counted n = frames_of n (log_of R events).counted

    pub answers-are : relay_answers R events ≡ log_answers R (log number []) events
    answers-are =
        let (a, x, s) = good-events R opened-good (length-zeros max_length) (length-zeros max_length) events in
        a

    pub run_is : relay_run R events ≡ relay_at R (log_of R events)
    run_is =
        let (a, x, s) = good-events R opened-good (length-zeros max_length) (length-zeros max_length) events in
        x

    pub tidy-counted : (n : ℕ) → Tidy size (counted n)
    unfolding frames_of
    tidy-counted n = tidy-log events (log number []) (λ m. tidy-none size) n

    -- the sums of the round, and those held for the next
    pub sums-sorted : take L (relay_run R events).round.sums ≡ tab L (λ p. counted_at (counted now) p % q)
    sums-sorted =
        ap (λ (X : RelayRound). take L X.round.sums) run_is
        ∙ ap (λ (X : Round). take L (after X (counted now)).sums) (base-is now)
        ∙ counted-block clusters size q L now known-opening.few-length (counted now)

    pub ahead-sorted : take L (relay_run R events).ahead.sums ≡ tab L (λ p. counted_at (counted (now + 1)) p % q)
    ahead-sorted =
        ap (λ (X : RelayRound). take L X.ahead.sums) run_is
        ∙ ap (λ (X : Round). take L (after X (counted (now + 1))).sums) (base-is (now + 1))
        ∙ counted-block clusters size q L (now + 1) known-opening.few-length (counted (now + 1))

    -- 12 exactly where not everyone is named among the frames counted of this round
    pub relay-give-code : (out : List ℕ) → relay_give_code (relay_run R events) out ≡ cond (everyone size (counted now))
        (cond (eqb (length out) L) accepted (code 4)) (code 12)
    relay-give-code out =
        log-give R opened-good (length-zeros max_length) (length-zeros max_length) events out
        ∙ sym (rest-decides (relay_checks R) (log_checks R (log_of R events) (asks out)) tt opened-good)
        ∙ ap (λ (t : Bool). cond (not t) (code 12) (cond (not (eqb (length out) L)) (code 4) accepted))
        (ap (λ (X : Round). is_full size X (counted now)) (base-is now) ∙ full-named clusters size q L now size (counted now))
        ∙ turn-given (everyone size (counted now)) (eqb (length out) L)

    -- what is written where the sums are given out
    pub relay-sums-sorted : (out : List ℕ) → relay_sums (relay_run R events) out ≡ if_accepted (relay_give_code (relay_run R events) out)
        (tab L (λ p. counted_at (counted now) p % q)) out
    relay-sums-sorted out =
        let X : RelayRound = relay_run R events in
        ap (λ (s : List ℕ). if_accepted (relay_give_code X out) s out)
        (ap (λ (n : ℕ). take n X.round.sums) (ap (λ (Y : RelayRound). Y.round.length) run_is) ∙ sums-sorted)

    module _ (full : everyone size (counted now) ≡ true) (out : List ℕ) (room : length out ≡ L) where
      relay-told : relay_give_code (relay_run R events) out ≡ accepted
      relay-told =
          relay-give-code out
          ∙ ap (λ (t : Bool). cond t (cond (eqb (length out) L) accepted (code 4)) (code 12)) full
          ∙ ap (λ (t : Bool). cond t accepted (code 4)) (eq-eqb (length out) L room)

      -- what is given out once everyone is counted
      pub relay-given : (relay_give_code (relay_run R events) out ≡ accepted) × (relay_sums (relay_run R events) out ≡ tab L (λ p. counted_at (counted now) p % q))
      relay-given = (
        relay-told,
        relay-sums-sorted out
            ∙ accepted-takes (relay_give_code (relay_run R events) out) (tab L (λ p. counted_at (counted now) p % q)) out (sym relay-told),
      )

    -- where the frames counted of this round carry their senders' blocks, these are the sums of everyone's block
    pub relay-heard : (B : ℕ → List ℕ) → Heard size B (counted now) → take L (relay_run R events).round.sums ≡ tab L
        (λ p. sum_to size (λ v. at (B (suc v)) p) % q)
    relay-heard B h =
        ap (λ (X : RelayRound). take L X.round.sums) run_is
        ∙ ap (λ (X : Round). take L (after X (counted now)).sums) (base-is now)
        ∙ heard-block clusters size q L now known-opening.few-length size B (counted now) (tidy-counted now) h

    pub relay-heard-given : (B : ℕ → List ℕ) → Heard size B (counted now) → (out : List ℕ) → length out ≡ L
        → (relay_give_code (relay_run R events) out ≡ accepted) × (relay_sums (relay_run R events) out ≡ tab L (λ p. sum_to size (λ v. at (B (suc v)) p) % q))
    relay-heard-given B h out room =
        let (told, given) = relay-given h.full out room in
        (told, given ∙ sym sums-sorted ∙ relay-heard B h)
