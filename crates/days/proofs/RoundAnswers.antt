-- The server's round answers without regard to the symbols: with other sums, fit ones too, it gives the same answers, and is after a step once more such a
-- round. Nothing here names an order of checks: the answers' equations are found by `simp`.
use Prim.Native.Nat.{ℕ, ◌+◌, ◌-◌, ◌^◌, ◌<◌}
use mathlib.Core.Path.{◌≡◌, refl, sym, ap, ◌∙◌, subst, subst₂}
use mathlib.Core.Bool.{Bool, true, false, cond}
use mathlib.Core.Logic.{◌⊎◌, inl, inr}
use mathlib.Core.List.{List, [], ◌∷◌}
use Rattle.refusals.specs.Codes.{is_accepted}
use Rattle.lists.specs.Lists.{at, zeros}
use Rattle.residues.specs.Primes.{all_below}
use Rattle.secrecy.specs.Model.{Pool}
use Rattle.plans.specs.Plans.{max_length}
use Rattle.rounds.specs.declared.Round.{Round}
use Rattle.rounds.specs.declared.ServerRound.{ServerRound}
use Rattle.rounds.specs.Ledger.{Frame, frame, bits_of, counted_at}
use Rattle.rounds.specs.Machine.{with_sums}
use Rattle.rounds.specs.Rounds.{open_code, opened, no_round, sums_fit, after, step_code, stepped, give_code, server_round, server_give_code}
use Rattle.rounds.proofs.Zeros.{zeros-fit}
use Rattle.rounds.proofs.FitSums.{sums-fit}
use Rattle.days.specs.Observers.{ServerCall, begins, counts, gives, server_machine}
use Rattle.days.proofs.Outlines.{Alike, Blind}

-- ---- a round, and the same with other sums

-- it is a round of the prime q, and its sums and the others fit
pub record Kept (q : ℕ) (R : Round) (S : List ℕ) : Type 0 where
  pub prime : R.q ≡ q
  pub fit : sums_fit R.q R.length R.sums ≡ true
  pub fit' : sums_fit R.q R.length S ≡ true

-- a round just opened
pub opened-kept : (clusters size q L number : ℕ) → 0 < q → Kept q (opened clusters size q L number) (zeros max_length)
opened-kept clusters size q L number pos = record { prime = refl; fit = zeros-fit q L max_length pos; fit' = zeros-fit q L max_length pos }

-- what became of a round and of the same with other sums
pub record StillKept (q : ℕ) (X X' : Round) : Type 0 where
  pub sums : List ℕ
  pub is : X' ≡ with_sums X sums
  pub kept : Kept q X sums

-- a frame is like itself
pub alike-itself : (q : ℕ) (f : Frame) → Alike q f f
alike-itself q f = record { sender = refl; number = refl; long = refl; below = refl }

module _ (q : ℕ) (pos : 0 < q) (R : Round) (S : List ℕ) (kept : Kept q R S) where
  give-same : (senders : ℕ) (known : Bool) (out : List ℕ) → give_code senders known R out ≡ give_code senders known (with_sums R S) out
  give-same senders known out = simp (kept.fit, kept.fit')

  module _ (f f' : Frame) (alike : Alike q f f') where
    -- the blocks are symbols of the round, or both are not
    pub below-same : all_below R.q f.block ≡ all_below R.q f'.block
    below-same =
        ap (λ (m : ℕ). all_below m f.block) kept.prime ∙ alike.below ∙ sym (ap (λ (m : ℕ). all_below m f'.block) kept.prime)

    -- a frame counted
    pub after_same : StillKept q (after R (f ∷ [])) (after (with_sums R S) (f' ∷ []))
    unfolding bits_of
    after_same =
        let sums' : List ℕ = (after (with_sums R S) (f' ∷ [])).sums in
        let pos_r : 0 < R.q = subst (λ (m : ℕ). 0 < m) (sym kept.prime) pos in
        record {
          sums = sums';
          is = ap (λ (s : ℕ). record {
            clusters = R.clusters;
            size = R.size;
            q = R.q;
            length = R.length;
            number = R.number;
            reported = R.reported + (2 ^ (s - 1) + 0);
            sums = sums';
          })
              (sym alike.sender);
          kept = record {
            prime = kept.prime;
            fit = sums-fit R.q R.length max_length (λ p. at R.sums p + counted_at (f ∷ []) p) pos_r;
            fit' = sums-fit R.q R.length max_length (λ p. at S p + counted_at (f' ∷ []) p) pos_r;
          };
        }

    module _ (senders : ℕ) (known : Bool) where
      code_same : step_code senders known R f ≡ step_code senders known (with_sums R S) f'
      code_same = simp (kept.fit, kept.fit', alike.sender, alike.number, alike.long, below-same)

      step_same : StillKept q (stepped senders known R f) (stepped senders known (with_sums R S) f')
      step_same =
          subst (λ (t : Bool). StillKept q (stepped senders known R f) (cond t (after (with_sums R S) (f' ∷ [])) (with_sums R S))) (ap is_accepted code_same)
          (go (is_accepted (step_code senders known R f)))
        where
          go : (t : Bool) → StillKept q (cond t (after R (f ∷ [])) R) (cond t (after (with_sums R S) (f' ∷ [])) (with_sums R S))
          go true = after_same
          go false = record { sums = S; is = refl; kept = kept }

-- ---- the server: both before any opening, or rounds that differ in their sums alone

abbrev none : ServerRound
none = server_round no_round

abbrev over : ServerRound → List ℕ → ServerRound
over R S = server_round (with_sums R.round S)

record Other (q : ℕ) (R R' : ServerRound) : Type 0 where
  sums : List ℕ
  is : R' ≡ over R sums
  kept : Kept q R.round sums

abbrev Same : ℕ → ServerRound → ServerRound → Type 0
Same q R R' = ((R ≡ none) × (R' ≡ none)) ⊎ Other q R R'

-- what holds of the one and of the others holds of all that are the same
cases : (q : ℕ) (Q : ServerRound → ServerRound → Type 0) → Q none none → ((R : ServerRound) (S : List ℕ) → Kept q R.round S → Q R (over R S))
    → (R R' : ServerRound) → Same q R R' → Q R R'
cases q Q base step R R' (inl (e, e')) = subst₂ Q (sym e) (sym e') base
cases q Q base step R R' (inr o) = subst (Q R) (sym o.is) (step R o.sums o.kept)

module _ (P : Pool) (pos : 0 < P.q) where
  abbrev Alright : ServerRound → ServerRound → ServerCall → ServerCall → Type 0
  Alright R R' c c' =
      (((server_machine P).reply R c).0 ≡ ((server_machine P).reply R' c').0) × Same P.q ((server_machine P).next R c) ((server_machine P).next R' c')

  server-opened : (t : Bool) (number L : ℕ)
      → Same P.q (server_round (cond t (opened P.clusters P.size P.q L number) no_round))
      (server_round (cond t (opened P.clusters P.size P.q L number) no_round))
  server-opened true number L = inr (record { sums = zeros max_length; is = refl; kept = opened-kept P.clusters P.size P.q L number pos })
  server-opened false number L = inl (refl, refl)

  server-heard : (R R' : ServerRound) → Same P.q R R' → (f f' : Frame) → Alike P.q f f' → Alright R R' (counts f) (counts f')
  server-heard R R' r f f' a =
      cases P.q (λ R R'. Alright R R' (counts f) (counts f')) (refl, inl (refl, refl))
      (λ R S k.
      let n = step_same P.q pos R.round S k f f' a R.round.clusters true in (
        code_same P.q pos R.round S k f f' a R.round.clusters true,
        inr (record { sums = n.sums; is = ap server_round n.is; kept = n.kept }),
      ))
      R R' r

  server-called : (R R' : ServerRound) → Same P.q R R' → (c : ServerCall) → Alright R R' c c
  server-called R R' r (begins number L) = (refl, server-opened (is_accepted (open_code P.clusters P.size P.q L true)) number L)
  server-called R R' r (counts f) = server-heard R R' r f f (alike-itself P.q f)
  server-called R R' r (gives out) = (
    cases P.q (λ R R'. server_give_code R out ≡ server_give_code R' out) refl (λ R S k. give-same P.q pos R.round S k R.round.clusters true out)
        R R' r,
    r,
  )

  pub server-blind : Blind P.q (server_machine P)
  server-blind =
      record {
        Same = Same P.q;
        first = inl (refl, refl);
        headed = λ f f' a i. counts (frame (a.sender i) (a.number i) []);
        called = server-called;
        heard = server-heard;
      }
