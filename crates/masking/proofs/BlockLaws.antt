-- Laws of blocks: what holds where their checks accept, and that taking the key off an upload gives the readings back.
use Prim.Native.Nat.{ℕ, ◌+◌, ◌<◌}
use mathlib.Core.Path.{◌≡◌, sym, ap, ◌∙◌, subst}
use mathlib.Core.Bool.{◌&&◌}
use mathlib.Core.List.{List}
use native.Mathlib.Nat.{mod-lt}
use lib.ListN.{length}
use lib.Dec.{T, eqb, eqb→eq}
use borrow.Author.Tests.{not-false, eq-eqb}
use Rattle.refusals.specs.Codes.{accepted, first_of, if_accepted}
use Rattle.refusals.proofs.CodeLaws.{none-holds, accepted-takes}
use Rattle.residues.specs.Primes.{is_prime, all_below}
use Rattle.residues.specs.Field.{sum_of, difference_of}
use Rattle.lists.proofs.Searches.{true→T, T→true, T_and}
use Rattle.residues.proofs.PrimeLaws.{prime-pos, true-prime, at-below, below_at}
use Rattle.residues.proofs.Congruence.{residue-mod}
use Rattle.residues.proofs.FieldLaws.{sum-difference}
use Rattle.lists.specs.Lists.{at}
use Rattle.matrices.specs.Linear.{Vector}
use Rattle.lists.proofs.ListLaws.{at-tab, tab-at}
use Rattle.matrices.proofs.MadeVectors.{tab-vector}
use Rattle.plans.specs.Plans.{length_fits}
use Rattle.masking.specs.Blocks.{upload_of, unmasked_of, block_checks, block_code, unmask_after}
use Rattle.refusals.proofs.Answers.{filled}

-- ---- the checks

-- what holds where they accept
pub record Fitting (q L : ℕ) (a b out : List ℕ) : Type 0 where
  pub positive : 0 < q
  pub first : length a ≡ L
  pub second : length b ≡ L
  pub room : length out ≡ L
  pub first_below : T (all_below q a)
  pub second_below : T (all_below q b)

pub fitting : (q L : ℕ) (a b out : List ℕ) → accepted ≡ first_of (block_checks q L a b out) → Fitting q L a b out
fitting q L a b out e =
    let w = none-holds (block_checks q L a b out) tt e in
    let (both, room) = T_and (eqb (length a) L && eqb (length b) L) (eqb (length out) L)
    (true→T (eqb (length a) L && eqb (length b) L && eqb (length out) L) (not-false (eqb (length a) L && eqb (length b) L && eqb (length out) L) w.1.1.0))
    in
    let (first, second) = T_and (eqb (length a) L) (eqb (length b) L) both in
    let (low, below) = T_and (all_below q a) (all_below q b) (true→T (all_below q a && all_below q b) (not-false (all_below q a && all_below q b) w.1.1.1.0)) in
    record {
      positive = prime-pos (true-prime q (not-false (is_prime q) w.0));
      first = eqb→eq (length a) L first;
      second = eqb→eq (length b) L second;
      room = eqb→eq (length out) L room;
      first_below = low;
      second_below = below;
    }

-- so an upload, and an unmasking, may write, and what they write is what the lent block is to hold
pub writable : (q L : ℕ) (a b out : List ℕ) → accepted ≡ first_of (block_checks q L a b out)
    → (0 < q) × (length a ≡ length out) × (length b ≡ length out) × T (all_below q a) × T (all_below q b)
writable q L a b out e =
    let f = fitting q L a b out e in
    (f.positive, f.first ∙ sym f.room, f.second ∙ sym f.room, f.first_below, f.second_below)

pub written : (q L : ℕ) (a b out : List ℕ) (block : ℕ → List ℕ) → accepted ≡ first_of (block_checks q L a b out) → block (length out) ≡ if_accepted
    (block_code q L a b out) (block L) out
written q L a b out block e = filled (block_code q L a b out) L block out (fitting q L a b out e).room e

-- ---- there and back

-- an upload is a block of symbols
pub upload-vector : (q L : ℕ) (W K : List ℕ) → 0 < q → Vector q L (upload_of q L W K)
upload-vector q L W K h =
    tab-vector q L (λ p. sum_of q (at W p) (at K p))
    (λ p _. subst (λ (n : ℕ). n < q) (sym (residue-mod q (at W p + at K p) h)) (mod-lt (at W p + at K p) h))

-- taking the key off an upload gives the readings back; of q and the key it asks nothing
pub unmask-upload : (q L : ℕ) (W K : List ℕ) → Vector q L W → unmasked_of q L (upload_of q L W K) K ≡ W
unmask-upload q L W K w =
    tab-at L (λ p. difference_of q (at (upload_of q L W K) p) (at K p)) W w.size
    (λ p l.
    ap (λ (x : ℕ). difference_of q x (at K p)) (at-tab L (λ p. sum_of q (at W p) (at K p)) p l)
    ∙ sum-difference q (at W p) (at K p) (w.small p l))

-- and that call is not refused, whatever buffer of L symbols is lent to it
pub unmask-accepts : (q L : ℕ) (W K out back : List ℕ) → accepted ≡ first_of (block_checks q L W K out) → length back ≡ L
    → accepted ≡ first_of (block_checks q L (upload_of q L W K) K back)
unmask-accepts q L W K out back e room =
    let w = none-holds (block_checks q L W K out) tt e in
    let f = fitting q L W K out e in
    let v : Vector q L (upload_of q L W K) = upload-vector q L W K f.positive in
    let below : T (all_below q (upload_of q L W K)) = at-below q (upload_of q L W K) (λ i l. v.small i (subst (λ (n : ℕ). i < n) v.size l)) in
    simp (
      not-false (is_prime q) w.0,
      not-false (length_fits L) w.1.0,
      eq-eqb (length (upload_of q L W K)) L v.size,
      eq-eqb (length K) L f.second,
      eq-eqb (length back) L room,
      T→true (all_below q (upload_of q L W K)) below,
      T→true (all_below q K) f.second_below,
    )

-- so that it writes the readings there
pub unmask-gives-back : (q L : ℕ) (W K out back : List ℕ) → accepted ≡ block_code q L W K out → length back ≡ L
    → (accepted ≡ block_code q L (upload_of q L W K) K back) × (unmask_after q L (upload_of q L W K) K back ≡ W)
unmask-gives-back q L W K out back e room =
    let f = fitting q L W K out e in
    let told = unmask-accepts q L W K out back e room in (
      told,
      accepted-takes (block_code q L (upload_of q L W K) K back) (unmasked_of q L (upload_of q L W K) K) back told
          ∙ unmask-upload q L W K (record { size = f.first; small = λ i _. below_at q W f.positive f.first_below i }),
    )
