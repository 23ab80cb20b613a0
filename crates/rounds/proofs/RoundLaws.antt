-- A round from its opening: once everyone is counted, its sums are the sums of everyone's block, in whatever order the frames came, however often, and with
-- whatever bad, late or forged frames among them that were not counted.
use Prim.Native.Nat.{ℕ, suc, ◌+◌, ◌-◌, ◌%◌, ◌^◌, ◌≤◌, ◌<◌}
use mathlib.Core.Path.{◌≡◌, refl, sym, ap, ap₂, ◌∙◌, subst}
use mathlib.Core.Bool.{Bool, true, false, cond, not, ◌||◌}
use mathlib.Core.Logic.{◌≢◌}
use mathlib.Core.List.{List, [], ◌∷◌, ◌++◌}
use native.Mathlib.Nat.{zero-add}
use native.Mathlib.Omega.{arith}
use lib.Dec.{ltb, eqb}
use lib.ListN.{length, take}
use lib.Pow.{pow_pos}
use lib.Seq.{get_or-take, length-take-le}
use borrow.Author.Tests.{eq-eqb, ne_eqb, lt-ltb}
use Rattle.refusals.specs.Codes.{code, accepted, first_of}
use Rattle.refusals.proofs.CodeLaws.{none-holds, accepted-takes}
use Rattle.refusals.proofs.Orders.{rest-decides, number-accepts}
use Rattle.lists.proofs.Searches.{T→true, true→T, all-at, all-cong}
use Rattle.residues.proofs.PrimeLaws.{prime-pos}
use Rattle.lists.specs.Lists.{at, All, zeros, tab}
use Rattle.lists.specs.Sums.{sum_to}
use Rattle.lists.proofs.Sums.{sum-cong, sum-zero, sum-but-one}
use Rattle.lists.proofs.ListLaws.{at-tab, tab-at, tab-cong, length-tab, el-zeros, length-zeros}
use Rattle.rounds.specs.declared.Round.{Round}
use Rattle.rounds.specs.Ledger.{Frame, named, counted_at, everyone, Carries, Heard}
use Rattle.rounds.specs.Machine.{Opening}
use Rattle.rounds.specs.Rounds.{open_checks, opened, after, is_full, state_checks, has_reported, lent_checks, frame_checks, give_code, sums_after, run_of}
use Rattle.rounds.specs.Rounds.{noted, ledger_of}
use Rattle.rounds.proofs.CheckLaws.{opening-known, Passed, frame-known}
use Rattle.rounds.proofs.ReportedLaws.{no_bits}
use Rattle.rounds.proofs.StepLaws.{or-none}
use Rattle.rounds.proofs.LedgerLaws.{named_more, counted-more, good-run, ledger-give}
use Rattle.rounds.proofs.Zeros.{zeros-fit}
use Rattle.plans.specs.Plans.{max_length}

-- ---- sums of those who are named

-- one more is named
sum_more : (n : ℕ) (b c : ℕ → Bool) (g : ℕ → ℕ) (i : ℕ) → i < n → b i ≡ false → c i ≡ true → ((k : ℕ) → k < n → k ≢ i → c k ≡ b k)
    → sum_to n (λ v. cond (c v) (g v) 0) ≡ sum_to n (λ v. cond (b v) (g v) 0) + g i
sum_more n b c g i h out is others =
    let of : (ℕ → Bool) → ℕ → ℕ = λ s v. cond (s v) (g v) 0 in
    let new : of c i ≡ g i = ap (λ (t : Bool). cond t (g i) 0) is in
    let old : of b i ≡ 0 = ap (λ (t : Bool). cond t (g i) 0) out in
    omega (arith, sum-but-one n (of c) (of b) i h (λ k l d. ap (λ (t : Bool). cond t (g k) 0) (others k l d)), new, old)

all-front : {A : Type 0} (P : A → Type 0) (l : List A) (x : A) → All P (l ++ (x ∷ [])) → All P l × P x
all-front P [] x a = (tt, a.0)
all-front P (y ∷ l) x a =
    let (front, last) = all-front P l x a.1 in
    ((a.0, front), last)

-- a ledger that names each sender once: whatever their blocks are, what was counted is the blocks of those who are named
abbrev pub Tidy : ℕ → List Frame → Type 0
Tidy senders ledger =
    (B : ℕ → List ℕ) → All (Carries B) ledger → (p : ℕ) → counted_at ledger p ≡ sum_to senders (λ v. cond (named ledger (suc v)) (at (B (suc v)) p) 0)

module _ (senders : ℕ) where
  pub tidy-none : Tidy senders []
  unfolding counted_at named
  tidy-none B c p = sym (sum-zero senders (λ v. 0) (λ k l. refl))

  pub tidy-more : (ledger : List Frame) (f : Frame) → Tidy senders ledger → 1 ≤ f.sender → f.sender ≤ senders → named ledger f.sender ≡ false
      → Tidy senders (ledger ++ (f ∷ []))
  tidy-more ledger f tidy some few new B c p =
      let i : ℕ = f.sender - 1 in
      let s : suc i ≡ f.sender = omega arith in
      let out : named ledger (suc i) ≡ false = ap (named ledger) s ∙ new in
      let (front, carries) = all-front (Carries B) ledger f c in
      counted-more ledger f p
      ∙ ap₂ ◌+◌ (tidy B front p) (ap (λ (l : List ℕ). at l p) carries ∙ ap (λ (n : ℕ). at (B n) p) (sym s))
      ∙ sym
      (sum_more senders (λ v. named ledger (suc v)) (λ v. named (ledger ++ (f ∷ [])) (suc v)) (λ v. at (B (suc v)) p) i (omega arith) out
      (named_more ledger f (suc i) ∙ ap₂ ◌||◌ out (eq-eqb f.sender (suc i) (sym s)))
      (λ k l ne. named_more ledger f (suc k) ∙ ap (λ (t : Bool). named ledger (suc k) || t) (ne_eqb f.sender (suc k) (λ e. ne (omega arith))) ∙ or-none
      (named ledger (suc k))))

  -- the order does not matter: where the same senders are counted, each with the same block, so is the same
  pub order-free : (B : ℕ → List ℕ) (a b : List Frame) → Tidy senders a → Tidy senders b → All (Carries B) a → All (Carries B) b
      → ((s : ℕ) → named a s ≡ named b s) → (p : ℕ) → counted_at a p ≡ counted_at b p
  order-free B a b tidy tidy' c c' same p =
      tidy B c p
      ∙ sum-cong senders (λ v. cond (named a (suc v)) (at (B (suc v)) p) 0) (λ v. cond (named b (suc v)) (at (B (suc v)) p) 0)
      (λ v l. ap (λ (t : Bool). cond t (at (B (suc v)) p) 0) (same (suc v)))
      ∙ sym (tidy' B c' p)

  -- everyone is counted
  pub heard-counted : (B : ℕ → List ℕ) (ledger : List Frame) → Tidy senders ledger → Heard senders B ledger → (p : ℕ) → counted_at ledger p ≡ sum_to senders
      (λ v. at (B (suc v)) p)
  heard-counted B ledger tidy h p =
      tidy B h.carried p
      ∙ sum-cong senders (λ v. cond (named ledger (suc v)) (at (B (suc v)) p) 0) (λ v. at (B (suc v)) p)
      (λ v l. ap (λ (t : Bool). cond t (at (B (suc v)) p) 0)
      (T→true (named ledger (suc v)) (all-at senders (λ i. named ledger (suc i)) (true→T (everyone senders ledger) h.full) v l)))

-- ---- an opened round and a ledger

module _ (clusters size q L number : ℕ) where
  -- nobody had reported, so that who has is who is named
  pub heard-named : (ledger : List Frame) (s : ℕ) → has_reported (opened clusters size q L number) ledger s ≡ named ledger s
  heard-named ledger s = ap (λ (t : Bool). t || named ledger s) (no_bits (s - 1))

  pub full-named : (senders : ℕ) (ledger : List Frame) → is_full senders (opened clusters size q L number) ledger ≡ everyone senders ledger
  full-named senders ledger =
      all-cong senders (λ i. has_reported (opened clusters size q L number) ledger (suc i)) (λ i. named ledger (suc i)) (λ i l. heard-named ledger (suc i))

  -- the sums were 0, so that they are what was counted
  pub counted-block : L ≤ max_length → (ledger : List Frame) → take L (after (opened clusters size q L number) ledger).sums ≡ tab L
      (λ p. counted_at ledger p % q)
  counted-block few ledger =
      let S : List ℕ = (after (opened clusters size q L number) ledger).sums in
      sym
      (tab-at L (λ p. counted_at ledger p % q) (take L S) (length-take-le L S (omega (arith, length-tab max_length entry)))
      (λ k h.
      sym
      (get_or-take L S k 0 h
      ∙ at-tab max_length entry k (omega arith)
      ∙ ap (λ (t : Bool). cond t ((at (zeros max_length) k + counted_at ledger k) % q) 0) (lt-ltb k L h)
      ∙ ap (λ (z : ℕ). (z + counted_at ledger k) % q) (el-zeros max_length k)
      ∙ ap (λ (z : ℕ). z % q) (zero-add (counted_at ledger k)))))
    where
      entry : ℕ → ℕ
      entry k = cond (ltb k L) ((at (zeros max_length) k + counted_at ledger k) % q) 0

  -- and once everyone is counted they are the sums of everyone's block
  pub heard-block : L ≤ max_length → (senders : ℕ) (B : ℕ → List ℕ) (ledger : List Frame) → Tidy senders ledger → Heard senders B ledger
      → take L (after (opened clusters size q L number) ledger).sums ≡ tab L (λ p. sum_to senders (λ v. at (B (suc v)) p) % q)
  heard-block few senders B ledger tidy h =
      counted-block few ledger
      ∙ tab-cong L (λ p. counted_at ledger p % q) (λ p. sum_to senders (λ v. at (B (suc v)) p) % q)
      (λ p l. ap (λ (z : ℕ). z % q) (heard-counted senders B ledger tidy h p))

-- the answer when sums are wanted
pub turn-given : (a b : Bool) → cond (not a) (code 12) (cond (not b) (code 4) accepted) ≡ cond a (cond b accepted (code 4)) (code 12)
turn-given true true = refl
turn-given true false = refl
turn-given false b = refl

-- ---- frames into an opened round

module _ (senders : ℕ) (known : Bool) (clusters size q L number : ℕ) (pass : accepted ≡ first_of (open_checks clusters size q L known)) where
  abbrev R : Round
  R = opened clusters size q L number

  known-opening : Opening clusters size q L
  known-opening = opening-known clusters size q L known pass

  -- an opened round is a good state
  pub opened-state : accepted ≡ first_of (state_checks senders known R)
  opened-state =
      let w = none-holds (open_checks clusters size q L known) tt pass in
      sym
      (simp (
        w.0,
        w.1.0,
        w.1.1.0,
        w.1.1.1.0,
        lt-ltb 0 (2 ^ senders) (pow_pos senders),
        zeros-fit q L max_length (prime-pos known-opening.prime),
      ))

  tidy-run : (frames ledger : List Frame) → Tidy senders ledger → Tidy senders (ledger_of senders known R ledger frames)
  unfolding ledger_of
  tidy-run [] ledger tidy = tidy
  tidy-run (f ∷ frames) ledger tidy =
      tidy-run frames (noted senders known R ledger f) (step (eqb (first_of (frame_checks senders known R ledger f)).number 0) refl)
    where
      step : (t : Bool) → eqb (first_of (frame_checks senders known R ledger f)).number 0 ≡ t → Tidy senders (noted senders known R ledger f)
      step true n =
          let p : Passed senders R ledger f = frame-known senders known R ledger f (number-accepts (frame_checks senders known R ledger f) tt n) in
          subst (Tidy senders) (sym (ap (λ (t : Bool). cond t (ledger ++ (f ∷ [])) ledger) n))
          (tidy-more senders ledger f tidy p.sender-some p.sender-few (sym (heard-named clusters size q L number ledger f.sender) ∙ p.new))
      step false n = subst (Tidy senders) (sym (ap (λ (t : Bool). cond t (ledger ++ (f ∷ [])) ledger) n)) tidy

  module _ (frames : List Frame) where
    abbrev counted : List Frame
    counted = ledger_of senders known R [] frames

    run_is : run_of senders known R frames ≡ after R counted
    run_is =
        let (a, r, s) = good-run senders known R opened-state (length-zeros max_length) frames in
        r

    -- 12 exactly where not everyone is named on the ledger
    pub give-code : (out : List ℕ) → give_code senders known (run_of senders known R frames) out ≡ cond (everyone senders counted)
        (cond (eqb (length out) L) accepted (code 4)) (code 12)
    give-code out =
        (ledger-give senders known R (length-zeros max_length) frames out).0
        ∙ sym (rest-decides (state_checks senders known R) (lent_checks senders R counted (length out)) tt opened-state)
        ∙ ap (λ (t : Bool). cond (not t) (code 12) (cond (not (eqb (length out) L)) (code 4) accepted)) (full-named clusters size q L number senders counted)
        ∙ turn-given (everyone senders counted) (eqb (length out) L)

    -- the sums are those of everyone's block
    pub full_block : (B : ℕ → List ℕ) → Heard senders B counted → take L (run_of senders known R frames).sums ≡ tab L
        (λ p. sum_to senders (λ v. at (B (suc v)) p) % q)
    full_block B h =
        ap (λ (X : Round). take L X.sums) run_is
        ∙ heard-block clusters size q L number known-opening.few-length senders B counted (tidy-run frames [] (tidy-none senders)) h

    -- and are given out, into any buffer of L symbols
    pub full-given : (B : ℕ → List ℕ) → Heard senders B counted → (out : List ℕ) → length out ≡ L
        → (give_code senders known (run_of senders known R frames) out ≡ accepted)
        × (sums_after senders known (run_of senders known R frames) out ≡ tab L (λ p. sum_to senders (λ v. at (B (suc v)) p) % q))
    full-given B h out room =
        let X : Round = run_of senders known R frames in
        let told : give_code senders known X out ≡ accepted =
        give-code out
        ∙ ap (λ (t : Bool). cond t (cond (eqb (length out) L) accepted (code 4)) (code 12)) h.full
        ∙ ap (λ (t : Bool). cond t accepted (code 4)) (eq-eqb (length out) L room) in (
          told,
          accepted-takes (give_code senders known X out) (take X.length X.sums) out (sym told)
              ∙ ap (λ (n : ℕ). take n X.sums) (ap (λ (Y : Round). Y.length) run_is)
              ∙ full_block B h,
        )
