-- What is picked by a test: equal tests, no test that passes, a range in two parts; and rows put one after the other.
use mathlib.Core.Path.{◌≡◌, refl, sym, ap, ap₂, ◌∙◌, subst}
use mathlib.Core.Bool.{Bool, true, false, cond}
use mathlib.Core.List.{List, [], ◌∷◌, ◌++◌, append-nil, append_assoc}
use Prim.Native.Nat.{ℕ, zero, suc, ◌+◌, ◌*◌, ◌<◌}
use native.Mathlib.Nat.{lt-suc_self, add-zero}
use native.Mathlib.Omega.{arith}
use lib.ListN.{length, length-append}
use lib.Seq.{take_at, drop_at}
use lib.Dec.{T, ltb}
use Rattle.residues.specs.Primes.{all_below}
use Rattle.lists.proofs.Searches.{T_and, and_T}
use Rattle.residues.proofs.PrimeLaws.{at-below}
use Rattle.lists.specs.Lists.{All, join_to, picked}
use Rattle.matrices.specs.Linear.{Vector}
use Rattle.matrices.specs.Tables.{rows_of}

module _ {A : Type 0} where
  -- equal tests pick the same, and equal lists are the same where they are picked
  pub picked-cong : (n : ℕ) (b c : ℕ → Bool) (f g : ℕ → List A) → ((i : ℕ) → i < n → b i ≡ c i) → ((i : ℕ) → i < n → f i ≡ g i) → picked n b f ≡ picked n c g
  unfolding picked join_to
  picked-cong zero b c f g h e = refl
  picked-cong (suc n) b c f g h e =
      ap₂ ◌++◌
      (picked-cong n b c f g (λ i l. h i (omega arith)) (λ i l. e i (omega arith)))
      (ap₂ (λ (t : Bool) (x : List A). cond t x []) (h n (lt-suc_self n)) (e n (lt-suc_self n)))

  -- nothing is picked
  pub picked-nothing : (n : ℕ) (b : ℕ → Bool) (f : ℕ → List A) → ((i : ℕ) → i < n → b i ≡ false) → picked n b f ≡ []
  unfolding picked join_to
  picked-nothing zero b f h = refl
  picked-nothing (suc n) b f h =
      ap₂ (λ (x : List A) (t : Bool). x ++ cond t (f n) []) (picked-nothing n b f (λ i l. h i (omega arith))) (h n (lt-suc_self n))

  -- the first m, and those after them
  pub picked-split : (m n : ℕ) (b : ℕ → Bool) (f : ℕ → List A) → picked (m + n) b f ≡ picked m b f ++ picked n (λ i. b (m + i)) (λ i. f (m + i))
  unfolding picked join_to
  picked-split m zero b f = ap (λ (k : ℕ). picked k b f) (add-zero m) ∙ sym (append-nil (picked m b f))
  picked-split m (suc n) b f =
      ap (λ (k : ℕ). picked k b f) {x = m + suc n} {y = suc (m + n)} (omega arith)
      ∙ ap (λ (x : List A). x ++ cond (b (m + n)) (f (m + n)) []) (picked-split m n b f)
      ∙ append_assoc (picked m b f) (picked n (λ i. b (m + i)) (λ i. f (m + i))) (cond (b (m + n)) (f (m + n)) [])

-- ---- rows one after the other

abbrev pub flat : List (List ℕ) → List ℕ
flat [] = []
flat (r ∷ S) = r ++ flat S

flat_append : (S S' : List (List ℕ)) → flat (S ++ S') ≡ flat S ++ flat S'
flat_append [] S' = refl
flat_append (r ∷ S) S' = ap (λ (x : List ℕ). r ++ x) (flat_append S S') ∙ sym (append_assoc r (flat S) (flat S'))

-- what is picked, put one after the other
pub flat-picked : (n : ℕ) (b : ℕ → Bool) (f : ℕ → List ℕ) → picked n b f ≡ flat (picked n b (λ i. f i ∷ []))
unfolding picked join_to
flat-picked zero b f = refl
flat-picked (suc n) b f =
    ap₂ ◌++◌ (flat-picked n b f) (one (b n)) ∙ sym (flat_append (picked n b (λ i. f i ∷ [])) (cond (b n) (f n ∷ []) []))
  where
    one : (t : Bool) → cond t (f n) [] ≡ flat (cond t (f n ∷ []) [])
    one true = sym (append-nil (f n))
    one false = refl

module _ (q cols : ℕ) where
  pub length-flat : (S : List (List ℕ)) → All (Vector q cols) S → length (flat S) ≡ length S * cols
  length-flat [] h = omega arith
  length-flat (r ∷ S) h = omega (arith, length-append r (flat S), h.0.size, length-flat S h.1)

  -- their rows are these rows
  pub rows-flat : (S : List (List ℕ)) → All (Vector q cols) S → rows_of (length S) cols (flat S) ≡ S
  unfolding rows_of
  rows-flat [] h = refl
  rows-flat (r ∷ S) h =
      ap₂ ◌∷◌ (take_at r (flat S) cols h.0.size) (ap (rows_of (length S) cols) (drop_at r (flat S) cols h.0.size) ∙ rows-flat S h.1)

  below-append : (a b : List ℕ) → T (all_below q a) → T (all_below q b) → T (all_below q (a ++ b))
  unfolding all_below
  below-append [] b h k = k
  below-append (x ∷ a) b h k =
      let (f, s) = T_and (ltb x q) (all_below q a) h in
      and_T (ltb x q) (all_below q (a ++ b)) f (below-append a b s k)

  pub below-flat : (S : List (List ℕ)) → All (Vector q cols) S → T (all_below q (flat S))
  unfolding all_below
  below-flat [] h = tt
  below-flat (r ∷ S) h =
      below-append r (flat S) (at-below q r (λ i l. h.0.small i (subst (λ (z : ℕ). i < z) h.0.size l))) (below-flat S h.1)
