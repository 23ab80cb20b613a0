-- Rows that do not depend on those picked before them: they have the same span, are independent, and so their combinations are unique.
use Prim.Native.Nat.{ℕ, zero, suc, ◌<◌}
use mathlib.Core.Path.{◌≡◌, refl, sym, ap, ◌∙◌, subst}
use mathlib.Core.Bool.{Bool, true, false, cond, not, ◌&&◌}
use mathlib.Core.Logic.{◌↔◌}
use mathlib.Core.List.{List, [], ◌∷◌, ◌++◌, map, append-nil, append_assoc}
use native.Mathlib.Nat.{mod-eq_of_lt}
use native.Mathlib.Omega.{arith}
use lib.ListN.{length}
use lib.Seq.{ext_get_or}
use lib.Dec.{T, T_not}
use Rattle.residues.specs.Primes.{Prime}
use Rattle.residues.proofs.PrimeLaws.{prime-pos}
use Rattle.residues.proofs.Congruence.{to-mod, of_eq, c_sym, c-trans}
use Rattle.lists.specs.Lists.{at, All, zeros, join_to, picked}
use Rattle.lists.proofs.Searches.{T_and}
use Rattle.lists.proofs.Members.{all_append, all_snoc, all_map}
use Rattle.lists.proofs.ListLaws.{all-picked}
use Rattle.matrices.specs.Linear.{Vector, reduce, comb_n, comb}
use Rattle.matrices.specs.Rank.{in_span}
use Rattle.matrices.proofs.Notions.{dot_n, dot, InSpan, Independent, Solution}
use Rattle.matrices.proofs.Vectors.{dot-reduce, dot-reduced, dot-combined, fit, vector-fit, dot-fit}
use Rattle.matrices.proofs.Rows.{dot-pick}
use Rattle.matrices.proofs.Spans.{in-span-iff, span_last, span-more-after}
use Rattle.matrices.proofs.Duality.{span-trans}
use Rattle.matrices.proofs.Solvability.{solvable-iff}

-- one row more at the end
independent-snoc : (q n : ℕ) (G A : List (List ℕ)) (c : List ℕ) → Independent q n G A → ¬ (InSpan q n (G ++ A) c) → Independent q n G (A ++ (c ∷ []))
independent-snoc q n G [] c i out = (subst (λ (S : List (List ℕ)). ¬ (InSpan q n S c)) (append-nil G) out, tt)
independent-snoc q n G (a ∷ A) c i out =
    (i.0, independent-snoc q n (G ++ (a ∷ [])) A c i.1 (subst (λ (S : List (List ℕ)). ¬ (InSpan q n S c)) (sym (append_assoc G (a ∷ []) A)) out))

-- ---- rows that do not depend on those before them

module _ (q : ℕ) (p : Prime q) (n : ℕ) (b : ℕ → Bool) (row : ℕ → List ℕ) (valid : (i : ℕ) → Vector q n (row i)) where
  pos : 0 < q
  pos = prime-pos p

  -- the rows picked before row i, and those of them that do not depend on others before them
  abbrev before : ℕ → List (List ℕ)
  before i = picked i b (λ j. row j ∷ [])

  abbrev fresh : ℕ → Bool
  fresh i = b i && not (in_span q n (before i) (row i))

  abbrev keeps : ℕ → List (List ℕ)
  keeps i = picked i fresh (λ j. row j ∷ [])

  pub before-vectors : (k : ℕ) → All (Vector q n) (before k)
  before-vectors k = all-picked (Vector q n) k b row (λ i l t. valid i)

  pub keeps-vectors : (k : ℕ) → All (Vector q n) (keeps k)
  keeps-vectors k = all-picked (Vector q n) k fresh row (λ i l t. valid i)

  -- the same members, with the last row or without
  with-last : (c : Bool) (S : List (List ℕ)) (i : ℕ) → Type 0
  with-last c S i = All (InSpan q n (S ++ cond c (row i ∷ []) [])) (before i ++ cond (b i) (row i ∷ []) [])

  grow : (S : List (List ℕ)) (i : ℕ) (c : Bool) → All (Vector q n) S → (r : List ℕ) → InSpan q n S r → InSpan q n (S ++ cond c (row i ∷ []) []) r
  grow S i true h_s r w = span-more-after q n pos S (row i ∷ []) r h_s (valid i, tt) w
  grow S i false h_s r w = subst (λ (S : List (List ℕ)). InSpan q n S r) (sym (append-nil S)) w

  grow-all : (S : List (List ℕ)) (i : ℕ) (c : Bool) → All (Vector q n) S → (R : List (List ℕ)) → All (InSpan q n S) R
      → All (InSpan q n (S ++ cond c (row i ∷ []) [])) R
  grow-all S i c h_s R = all_map (InSpan q n S) (InSpan q n (S ++ cond c (row i ∷ []) [])) (grow S i c h_s) R

  -- each row before k is in the span of the kept ones
  pub before-kept : (k : ℕ) → All (InSpan q n (keeps k)) (before k)
  unfolding picked join_to
  before-kept zero = tt
  before-kept (suc k) = go (before-kept k) (b k) (in_span q n (before k) (row k)) refl refl
    where
      go : All (InSpan q n (keeps k)) (before k) → (x y : Bool) → b k ≡ x → in_span q n (before k) (row k) ≡ y
          → All (InSpan q n (keeps k ++ cond (fresh k) (row k ∷ []) [])) (before k ++ cond (b k) (row k ∷ []) [])
      go ih false y e f =
          rw e (all_append (InSpan q n (keeps k ++ [])) (before k) [] (grow-all (keeps k) k false (keeps-vectors k) (before k) ih) tt)
      go ih true true e f =
          rw (e, f)
          (all_append (InSpan q n (keeps k ++ [])) (before k) (row k ∷ [])
          (grow-all (keeps k) k false (keeps-vectors k) (before k) ih) (
            grow (keeps k) k false (keeps-vectors k) (row k)
                (span-trans q p n (before k) (keeps k) (row k) (keeps-vectors k) ih
                ((in-span-iff q n pos (before k) (row k) (before-vectors k)).0 (subst T (sym f) tt))),
            tt,
          ))
      go ih true false e f =
          rw (e, f)
          (all_append (InSpan q n (keeps k ++ (row k ∷ []))) (before k) (row k ∷ [])
          (grow-all (keeps k) k true (keeps-vectors k) (before k) ih)
          (span_last q n pos (keeps k) (row k) (all_snoc (Vector q n) (keeps k) (row k) (keeps-vectors k) (valid k)), tt))

  -- and each kept row is one of them
  kept-before : (k : ℕ) → All (InSpan q n (before k)) (keeps k)
  unfolding picked join_to
  kept-before zero = tt
  kept-before (suc k) = go (kept-before k) (b k) (fresh k) refl refl
    where
      go : All (InSpan q n (before k)) (keeps k) → (x y : Bool) → b k ≡ x → fresh k ≡ y
          → All (InSpan q n (before k ++ cond (b k) (row k ∷ []) [])) (keeps k ++ cond (fresh k) (row k ∷ []) [])
      go ih x false e f =
          rw f (all_append (InSpan q n (before k ++ cond (b k) (row k ∷ []) [])) (keeps k) [] (grow-all (before k) k (b k) (before-vectors k) (keeps k) ih) tt)
      go ih true true e f =
          rw (f, e)
          (all_append (InSpan q n (before k ++ (row k ∷ []))) (keeps k) (row k ∷ [])
          (grow-all (before k) k true (before-vectors k) (keeps k) ih)
          (span_last q n pos (before k) (row k) (all_snoc (Vector q n) (before k) (row k) (before-vectors k) (valid k)), tt))
      go ih false true e f = absurd (subst T e (T_and (b k) (not (in_span q n (before k) (row k))) (subst T (sym f) tt)).0)

  -- so leaving out changes no span
  pub kept-span : (k : ℕ) (r : List ℕ) → InSpan q n (keeps k) r ↔ InSpan q n (before k) r
  kept-span k r = (
    span-trans q p n (keeps k) (before k) r (before-vectors k) (kept-before k),
    span-trans q p n (before k) (keeps k) r (keeps-vectors k) (before-kept k),
  )

  -- and what is kept is independent
  pub kept-independent : (k : ℕ) → Independent q n [] (keeps k)
  unfolding picked join_to
  kept-independent zero = tt
  kept-independent (suc k) = go (kept-independent k) (fresh k) refl
    where
      go : Independent q n [] (keeps k) → (y : Bool) → fresh k ≡ y → Independent q n [] (keeps k ++ cond (fresh k) (row k ∷ []) [])
      go ih false f = rw f (subst (Independent q n []) (sym (append-nil (keeps k))) ih)
      go ih true f =
          rw f
          (independent-snoc q n [] (keeps k) (row k) ih
          (λ w. T_not (in_span q n (before k) (row k)) (T_and (b k) (not (in_span q n (before k) (row k))) (subst T (sym f) tt)).1
          ((in-span-iff q n pos (before k) (row k) (before-vectors k)).1 ((kept-span k (row k)).0 w))))

-- ---- combinations of independent rows

-- the same combination of the products with N
pub combined : (q n : ℕ) (S : List (List ℕ)) (r cs N : List ℕ) → comb q n cs S ≡ r → dot q cs (map (λ s. dot q s N) S) ≡ dot q r N
combined q n S r cs N e =
    to-mod
    (c-trans (c-trans (of_eq (ap (dot_n cs) (sym (reduced S)))) (dot-reduced q cs (map (λ s. dot_n s N) S)))
    (c-trans (of_eq (sym (dot-combined n cs S N)))
    (c-trans (c_sym (dot-reduce q (comb_n n cs S) N)) (of_eq (ap (λ (x : List ℕ). dot_n x N) e)))))
  where
    reduced : (S : List (List ℕ)) → reduce q (map (λ s. dot_n s N) S) ≡ map (λ s. dot q s N) S
    reduced [] = refl
    reduced (s ∷ S) = ap (λ (l : List ℕ). dot q s N ∷ l) (reduced S)

-- coefficients below q that make the same row are the same
pub combination-unique : (q : ℕ) (p : Prime q) (n : ℕ) (S : List (List ℕ)) → All (Vector q n) S → Independent q n [] S
    → (r cs ds : List ℕ) → Vector q (length S) cs → Vector q (length S) ds → comb q n cs S ≡ r → comb q n ds S ≡ r → cs ≡ ds
combination-unique q p n S h_s i r cs ds v v' e e' =
    ext_get_or 0 cs ds (v.size ∙ sym v'.size)
    (λ k l.
    let b : k < length S = omega (arith, v.size) in
    let one : List ℕ = fit q (length S) (zeros k ++ (1 ∷ [])) in
    let s : Solution q n [] S one = (solvable-iff q p n [] S tt h_s).1 i one (vector-fit q (length S) (zeros k ++ (1 ∷ [])) (prime-pos p)) in
    let entry : (xs : List ℕ) → Vector q (length S) xs → comb q n xs S ≡ r → at xs k ≡ dot q r s.N
    = λ xs w c.
    sym (mod-eq_of_lt (w.small k b))
    ∙ sym (to-mod (c-trans (dot-fit q xs (length S) (zeros k ++ (1 ∷ [])) (omega (arith, w.size))) (of_eq (dot-pick k xs))))
    ∙ ap (dot q xs) (sym s.hits)
    ∙ combined q n S r xs s.N c in
    entry cs v e ∙ sym (entry ds v' e'))
