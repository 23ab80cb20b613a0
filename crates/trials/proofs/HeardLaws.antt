-- Frames that are all good: each is counted, or its sender was counted before, so that after them everyone who sent is on the ledger. Of any machine that
-- counts so, and then of a relay's round and the server's.
use Prim.Native.Nat.{ℕ, suc, ◌%◌, ◌≤◌, ◌<◌}
use mathlib.Core.Path.{◌≡◌, refl, sym, ap, ◌∙◌, subst}
use mathlib.Core.Bool.{Bool, true, false, cond, ◌||◌}
use mathlib.Core.List.{List, [], ◌∷◌, ◌++◌, map}
use mathlib.Core.Logic.{⊎_elim}
use lib.Dec.{T, eqb, eqb→eq}
use lib.ListN.{length}
use borrow.Author.Tests.{eq-eqb, le-leb}
use Rattle.refusals.specs.declared.Code.{Code}
use Rattle.refusals.specs.Codes.{code, accepted, first_of, if_accepted}
use Rattle.refusals.proofs.Orders.{rest-decides}
use Rattle.residues.specs.Primes.{all_below}
use Rattle.lists.specs.Lists.{at, All, tab}
use Rattle.lists.specs.Sums.{sum_to}
use Rattle.lists.proofs.Members.{all_snoc}
use Rattle.lists.proofs.Searches.{T→true, true→T, T-or, or_left, or_right, all_made}
use Rattle.rounds.specs.declared.Round.{Round}
use Rattle.rounds.specs.declared.RelayRound.{RelayRound}
use Rattle.rounds.specs.Ledger.{Frame, named, frames_of, everyone, Carries, Heard}
use Rattle.rounds.specs.Rounds.{one_of, open_checks, opened, has_reported, state_checks, own_checks, frame_checks, noted, ledger_of, give_code, sums_after, run_of}
use Rattle.rounds.specs.Relays.{relay_round, nothing, relay_checks, heard, Log, log, log_checks, log_code, log_next, log_after, base_of, is_reported, relay_run, relay_give_code, relay_sums}
use Rattle.rounds.proofs.LedgerLaws.{named_more}
use Rattle.rounds.proofs.RelayLedger.{frames-own}
use Rattle.rounds.proofs.RoundLaws.{heard-named, opened-state, full-given}
use Rattle.rounds.proofs.RelaySums.{opened-good, relay-heard-given}

-- what is asked of a frame of block length 1
pub record Fine (senders q number : ℕ) (B : ℕ → List ℕ) (f : Frame) : Type 0 where
  pub some : 1 ≤ f.sender
  pub few : f.sender ≤ senders
  pub same : f.number ≡ number
  pub long : length f.block ≡ 1
  pub below : all_below q f.block ≡ true
  pub carries : Carries B f

module _ {S : Type 0} (step : S → Frame → S) (ledger : S → List Frame) (Good : S → Type 0) (senders q number : ℕ) (B : ℕ → List ℕ) where
  unfoldable steps : S → List Frame → S
  steps s [] = s
  steps s (f ∷ frames) = steps (step s f) frames

  -- a good frame is counted, unless its sender was
  abbrev Counts : Type 0
  Counts =
      (s : S) (f : Frame) → Good s → Fine senders q number B f
      → Good (step s f) × (ledger (step s f) ≡ cond (named (ledger s) f.sender) (ledger s) (ledger s ++ (f ∷ [])))

  module _ (counts : Counts) where
    -- who was on the ledger stays, and the sender is on it
    kept : (s : S) (f : Frame) → Good s → Fine senders q number B f
        → All (Carries B) (ledger s) → All (Carries B) (ledger (step s f))
    kept s f g fine all = go (named (ledger s) f.sender) (counts s f g fine).1
      where
        go : (b : Bool) → ledger (step s f) ≡ cond b (ledger s) (ledger s ++ (f ∷ [])) → All (Carries B) (ledger (step s f))
        go true e = subst (All (Carries B)) (sym e) all
        go false e = subst (All (Carries B)) (sym e) (all_snoc (Carries B) (ledger s) f all fine.carries)

    grows : (s : S) (f : Frame) → Good s → Fine senders q number B f → (k : ℕ)
        → T (named (ledger s) k || eqb f.sender k) → T (named (ledger (step s f)) k)
    grows s f g fine k t = go (named (ledger s) f.sender) refl (counts s f g fine).1
      where
        go : (b : Bool) → named (ledger s) f.sender ≡ b → ledger (step s f) ≡ cond b (ledger s) (ledger s ++ (f ∷ []))
            → T (named (ledger (step s f)) k)
        go true n e =
            subst (λ (l : List Frame). T (named l k)) (sym e)
            (⊎_elim (λ w. w) (λ w. subst (λ (i : ℕ). T (named (ledger s) i)) (eqb→eq f.sender k w) (true→T (named (ledger s) f.sender) n))
            (T-or (named (ledger s) k) (eqb f.sender k) t))
        go false n e = subst (λ (l : List Frame). T (named l k)) (sym e) (subst T (sym (named_more (ledger s) f k)) t)

    all-heard : (frames : List Frame) (s : S) → Good s → All (Carries B) (ledger s) → All (Fine senders q number B) frames
        → Good (steps s frames)
        × All (Carries B) (ledger (steps s frames))
        × ((k : ℕ) → T (named (ledger s) k || named frames k) → T (named (ledger (steps s frames)) k))
    unfolding steps named
    all-heard [] s g all fine = (g, all, (λ k t. ⊎_elim (λ w. w) (λ w. absurd w) (T-or (named (ledger s) k) false t)))
    all-heard (f ∷ frames) s g all fine =
        let (good, carried, who) = all-heard frames (step s f) (counts s f g fine.0).0 (kept s f g fine.0 all) fine.1 in (
          good,
          carried,
          (λ k t.
              who k
              (⊎_elim (λ w. or_left (named (ledger (step s f)) k) (named frames k) (grows s f g fine.0 k (or_left (named (ledger s) k) (eqb f.sender k) w)))
              (λ w.
              ⊎_elim (λ x. or_left (named (ledger (step s f)) k) (named frames k) (grows s f g fine.0 k (or_right (named (ledger s) k) (eqb f.sender k) x)))
              (λ x. or_right (named (ledger (step s f)) k) (named frames k) x) (T-or (eqb f.sender k) (named frames k) w))
              (T-or (named (ledger s) k) (eqb f.sender k || named frames k) t))),
        )

-- ---- a relay's round

module _ (clusters size q cluster number : ℕ) (pass : accepted ≡ first_of (open_checks clusters size q 1 (one_of clusters cluster))) (B : ℕ → List ℕ) where
  abbrev R : RelayRound
  R = relay_round cluster (opened clusters size q 1 number) nothing

  abbrev counted : Log → List Frame
  counted l = frames_of number l.counted

  abbrev next : Log → Frame → Log
  next l f = log_next R l (heard f)

  abbrev Here : Log → Type 0
  Here l = l.number ≡ number

  -- nobody had reported, so that who has is who is named
  base : base_of R number ≡ opened clusters size q 1 number
  base = rw (eq-eqb number number refl)

  reported-is : (ledger : List Frame) (s : ℕ) → is_reported R ledger number s ≡ named (frames_of number ledger) s
  reported-is ledger s =
      ap (λ (X : Round). has_reported X (frames_of number ledger) s) base ∙ heard-named clusters size q 1 number (frames_of number ledger) s

  module _ (l : Log) (f : Frame) (here : Here l) (fine : Fine size q number B f) where
    code_is : log_code R l (heard f) ≡ cond (named (counted l) f.sender) (code 11) accepted
    code_is =
        sym (rest-decides (relay_checks R) (log_checks R l (heard f)) tt (opened-good clusters size q 1 cluster number pass))
        ∙ rw (
          le-leb 1 f.sender fine.some,
          le-leb f.sender size fine.few,
          eq-eqb f.number l.number (fine.same ∙ sym here),
          eq-eqb (length f.block) 1 fine.long,
          fine.below,
        ) (ap (λ (b : Bool). cond b (code 11) accepted) (ap (λ (n : ℕ). is_reported R l.counted n f.sender) fine.same ∙ reported-is l.counted f.sender))

    next-is : (b : Bool) → named (counted l) f.sender ≡ b
        → Here (next l f) × (counted (next l f) ≡ cond b (counted l) (counted l ++ (f ∷ [])))
    next-is b n =
        let more : Log = log l.number (l.counted ++ (f ∷ [])) in
        let is : log_next R l (heard f) ≡ if_accepted (cond b (code 11) accepted) more l =
        ap (λ (c : Code). if_accepted c more l) (code_is ∙ ap (λ (t : Bool). cond t (code 11) accepted) n) in
        go b is
      where
        go : (b : Bool) → log_next R l (heard f) ≡ if_accepted (cond b (code 11) accepted) (log l.number (l.counted ++ (f ∷ []))) l
            → ((log_next R l (heard f)).number ≡ number)
            × (frames_of number (log_next R l (heard f)).counted ≡ cond b (frames_of number l.counted) (frames_of number l.counted ++ (f ∷ [])))
        go true e = (ap (λ (x : Log). x.number) e ∙ here, ap (λ (x : Log). frames_of number x.counted) e)
        go false e = (
          ap (λ (x : Log). x.number) e ∙ here,
          ap (λ (x : Log). frames_of number x.counted) e ∙ frames-own number l.counted f fine.same,
        )

  log-counts : Counts next counted Here size q number B
  log-counts l f here fine = next-is l f here fine (named (counted l) f.sender) refl

  steps-log : (frames : List Frame) (l : Log) → steps next counted Here size q number B l frames ≡ log_after R l (map heard frames)
  unfolding steps log_after
  steps-log [] l = refl
  steps-log (f ∷ frames) l = steps-log frames (log_next R l (heard f))

  -- everyone's frame was heard: the relay gives out the sum of all blocks
  pub relay-gives : (frames : List Frame) → All (Fine size q number B) frames → ((v : ℕ) → v < size → T (named frames (suc v)))
      → (out : List ℕ) → length out ≡ 1
      → (relay_give_code (relay_run R (map heard frames)) out ≡ accepted)
      × (relay_sums (relay_run R (map heard frames)) out ≡ tab 1 (λ p. sum_to size (λ v. at (B (suc v)) p) % q))
  unfolding frames_of
  relay-gives frames fine all out room =
      let X : Log = steps next counted Here size q number B (log number []) frames in
      let (here, carried, who) = all-heard next counted Here size q number B log-counts frames (log number []) refl tt fine in
      let h : Heard size B (frames_of number X.counted) =
      record {
        carried = carried;
        full =
            T→true (everyone size (counted X))
            (all_made size (λ i. named (counted X) (suc i)) (λ v l. who (suc v) (or_right (named (counted (log number [])) (suc v)) (named frames (suc v)) (all v l))));
      } in
      let moved : Heard size B (frames_of X.number X.counted) = subst (λ (n : ℕ). Heard size B (frames_of n X.counted)) (sym here) h in
      relay-heard-given clusters size q 1 cluster number pass (map heard frames) B
      (subst (λ (x : Log). Heard size B (frames_of x.number x.counted)) (steps-log frames (log number [])) moved) out room

-- ---- the server's round

module _ (clusters size q number : ℕ) (pass : accepted ≡ first_of (open_checks clusters size q 1 true)) (B : ℕ → List ℕ) where
  abbrev D : Round
  D = opened clusters size q 1 number

  abbrev note : List Frame → Frame → List Frame
  note = noted clusters true D

  abbrev whole : List Frame → List Frame
  whole l = l

  abbrev Any : List Frame → Type 0
  Any l = Unit {0}

  note-counts : Counts note whole Any clusters q number B
  note-counts l f g fine = (tt, ap (λ (c : Code). if_accepted c (l ++ (f ∷ [])) l) code_is ∙ turned (named l f.sender))
    where
      code_is : first_of (frame_checks clusters true D l f) ≡ cond (named l f.sender) (code 11) accepted
      code_is =
          sym (rest-decides (state_checks clusters true D) (own_checks clusters D l f) tt (opened-state clusters true clusters size q 1 number pass))
          ∙ rw (
            le-leb 1 f.sender fine.some,
            le-leb f.sender clusters fine.few,
            eq-eqb f.number number fine.same,
            eq-eqb (length f.block) 1 fine.long,
            fine.below,
          ) (ap (λ (b : Bool). cond b (code 11) accepted) (heard-named clusters size q 1 number l f.sender))

      turned : (b : Bool) → if_accepted (cond b (code 11) accepted) (l ++ (f ∷ [])) l ≡ cond b l (l ++ (f ∷ []))
      turned true = refl
      turned false = refl

  steps-note : (frames l : List Frame) → steps note whole Any clusters q number B l frames ≡ ledger_of clusters true D l frames
  unfolding steps ledger_of
  steps-note [] l = refl
  steps-note (f ∷ frames) l = steps-note frames (note l f)

  -- every relay's frame was heard: the server gives out the sum of all blocks
  pub server-gives : (frames : List Frame) → All (Fine clusters q number B) frames → ((v : ℕ) → v < clusters → T (named frames (suc v)))
      → (out : List ℕ) → length out ≡ 1
      → (give_code clusters true (run_of clusters true D frames) out ≡ accepted)
      × (sums_after clusters true (run_of clusters true D frames) out ≡ tab 1 (λ p. sum_to clusters (λ v. at (B (suc v)) p) % q))
  server-gives frames fine all out room =
      let X : List Frame = steps note whole Any clusters q number B [] frames in
      let (any, carried, who) = all-heard note whole Any clusters q number B note-counts frames [] tt tt fine in
      let h : Heard clusters B X =
      record {
        carried = carried;
        full =
            T→true (everyone clusters X)
            (all_made clusters (λ i. named X (suc i)) (λ v l. who (suc v) (or_right (named [] (suc v)) (named frames (suc v)) (all v l))));
      } in
      full-given clusters true clusters size q 1 number pass frames B (subst (Heard clusters B) (steps-note frames []) h) out room
