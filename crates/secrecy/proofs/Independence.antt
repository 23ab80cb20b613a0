-- Rows that are picked are independent over others, or one of them depends on these and the picked rows before it; and independent ones can be given
-- any products.
use Prim.Native.Nat.{ℕ, zero, suc, ◌%◌, ◌<◌}
use mathlib.Core.Path.{◌≡◌, sym, ◌∙◌, subst}
use mathlib.Core.Bool.{Bool, true, false, cond}
use mathlib.Core.Logic.{◌⊎◌, inl, inr, ⊎_elim, ◌↔◌}
use mathlib.Core.List.{List, [], ◌∷◌, ◌++◌, append-nil, append_assoc}
use native.Mathlib.Nat.{mod-lt, lt-suc_self}
use native.Mathlib.Omega.{arith}
use lib.Dec.{T}
use Rattle.residues.specs.Primes.{Prime}
use Rattle.residues.proofs.PrimeLaws.{prime-pos}
use Rattle.lists.proofs.Searches.{T-decide}
use Rattle.lists.specs.Lists.{All, join_to, picked}
use Rattle.matrices.specs.Linear.{Vector}
use Rattle.matrices.proofs.Notions.{dot, InSpan, Independent, Solution}
use Rattle.matrices.specs.Rank.{in_span}
use Rattle.lists.proofs.Members.{all_append}
use Rattle.matrices.proofs.Spans.{in-span-iff}
use Rattle.matrices.proofs.Solvability.{solvable-iff}
use Rattle.lists.proofs.ListLaws.{all-picked, length-picked, map-picked, picked-inj}
use Rattle.matrices.proofs.MadeVectors.{vector-picked}

-- one row more at the end
independent-snoc : (q n : ℕ) (G C : List (List ℕ)) (c : List ℕ) → Independent q n G C → ¬ (InSpan q n (G ++ C) c) → Independent q n G (C ++ (c ∷ []))
independent-snoc q n G [] c i out = (rw append-nil at out, tt)
independent-snoc q n G (x ∷ C) c i out =
    (i.0, independent-snoc q n (G ++ (x ∷ [])) C c i.1 (rw append_assoc out))

-- rows that are picked are independent where none depends on the picked rows before it
pub independent-picked : (q n : ℕ) (G : List (List ℕ)) (b : ℕ → Bool) (row : ℕ → List ℕ) (k : ℕ)
    → ((j : ℕ) → j < k → T (b j) → ¬ (InSpan q n (G ++ picked j b (λ i. row i ∷ [])) (row j)))
    → Independent q n G (picked k b (λ i. row i ∷ []))
unfolding picked join_to
independent-picked q n G b row zero h = tt
independent-picked q n G b row (suc k) h = go (b k) (h k (lt-suc_self k)) (independent-picked q n G b row k (λ j l. h j (omega arith)))
  where
    go : (c : Bool) → (T c → ¬ (InSpan q n (G ++ picked k b (λ i. row i ∷ [])) (row k)))
        → Independent q n G (picked k b (λ i. row i ∷ []))
        → Independent q n G (picked k b (λ i. row i ∷ []) ++ cond c (row k ∷ []) [])
    go true f i = independent-snoc q n G (picked k b (λ i. row i ∷ [])) (row k) i (f tt)
    go false f i = rw append-nil i

-- row i below k is picked, and in the span of G and the picked rows before it
pub record Dependent (q n : ℕ) (G : List (List ℕ)) (b : ℕ → Bool) (row : ℕ → List ℕ) (k : ℕ) : Type 0 where
  pub i : ℕ
  pub inside : i < k
  pub taken : T (b i)
  pub depends : InSpan q n (G ++ picked i b (λ j. row j ∷ [])) (row i)

-- N has the product 0 with each of G, and the product v i with each row i below k that is picked
pub record Solved (q n : ℕ) (G : List (List ℕ)) (b : ℕ → Bool) (row : ℕ → List ℕ) (v : ℕ → ℕ) (k : ℕ) : Type 0 where
  pub N : List ℕ
  pub valid : Vector q n N
  pub none : All (λ g. dot q g N ≡ 0) G
  pub hits : (i : ℕ) → i < k → T (b i) → dot q (row i) N ≡ v i % q

module _ (q : ℕ) (prime : Prime q) (n : ℕ) (G : List (List ℕ)) (b : ℕ → Bool) (row : ℕ → List ℕ)
    (h_g : All (Vector q n) G) (hrow : (i : ℕ) → Vector q n (row i)) where
  abbrev rows : ℕ → List (List ℕ)
  rows k = picked k b (λ i. row i ∷ [])

  rows-vectors : (k : ℕ) → All (Vector q n) (rows k)
  rows-vectors k = all-picked (Vector q n) k b row (λ i l t. hrow i)

  next_row : (k : ℕ) → Independent q n G (rows k) → Independent q n G (rows (suc k)) ⊎ Dependent q n G b row (suc k)
  unfolding picked join_to
  next_row k i = go (b k) (λ t. t) (T-decide (in_span q n (G ++ rows k) (row k)))
    where
      test : T (in_span q n (G ++ rows k) (row k)) ↔ InSpan q n (G ++ rows k) (row k)
      test = in-span-iff q n (prime-pos prime) (G ++ rows k) (row k) (all_append (Vector q n) G (rows k) h_g (rows-vectors k))

      go : (c : Bool) → (T c → T (b k)) → Dec (T (in_span q n (G ++ rows k) (row k)))
          → Independent q n G (rows k ++ cond c (row k ∷ []) []) ⊎ Dependent q n G b row (suc k)
      go false t y = inl (rw append-nil i)
      go true t (yes y) = inr (record { i = k; inside = lt-suc_self k; taken = t tt; depends = test.0 y })
      go true t (no y) = inl (independent-snoc q n G (rows k) (row k) i (λ w. y (test.1 w)))

  -- either none depends, or one does
  pub independent-or-dependent : (k : ℕ) → Independent q n G (picked k b (λ i. row i ∷ [])) ⊎ Dependent q n G b row k
  unfolding picked join_to
  independent-or-dependent zero = inl tt
  independent-or-dependent (suc k) =
      ⊎_elim (next_row k) (λ d. inr (record { i = d.i; inside = omega (arith, d.inside); taken = d.taken; depends = d.depends }))
      (independent-or-dependent k)

  -- independent rows can be given any products
  pub solved : (v : ℕ → ℕ) (k : ℕ) → Independent q n G (picked k b (λ i. row i ∷ [])) → Solved q n G b row v k
  solved v k i =
      let d : List ℕ = picked k b (λ i. v i % q ∷ []) in
      let s : Solution q n G (rows k) d
      = (solvable-iff q prime n G (rows k) h_g (rows-vectors k)).1 i d
      (subst (λ (z : ℕ). Vector q z d) (sym (length-picked k b row)) (vector-picked q k b (λ i. v i % q) (λ i l t. mod-lt (v i) (prime-pos prime)))) in
      record {
        N = s.N;
        valid = s.valid;
        none = s.none;
        hits = picked-inj k b (λ i. dot q (row i) s.N) (λ i. v i % q) (sym (map-picked k b (λ r. dot q r s.N) row) ∙ s.hits);
      }
