-- Laws of counts; and of the counts of two views: a translation of the source keys that carries one view to the other makes them equal, and a
-- view that only one of them shows makes them differ.
use Prim.Native.Nat.{ℕ, zero, suc, ◌+◌, ◌%◌, ◌<◌}
use mathlib.Core.Path.{◌≡◌, refl, sym, ap, ◌∙◌}
use mathlib.Core.Bool.{Bool, cond}
use mathlib.Core.Logic.{◌≢◌}
use mathlib.Core.List.{List, [], ◌∷◌}
use native.Mathlib.Nat.{suc-ne-zero, lt_of_lt_of_le}
use native.Mathlib.Omega.{arith}
use lib.ListN.{length}
use lib.Dec.{T}
use Rattle.lists.proofs.Searches.{T→true, not-T→false, T-decide}
use Rattle.matrices.specs.Linear.{Vector}
use Rattle.matrices.specs.Rank.{any_list, same_list}
use Rattle.matrices.proofs.Vectors.{vector-nil, vector-cons, vector-head, vector-tail}
use Rattle.matrices.proofs.Spans.{any-list-found, any-list-at, same→eq, eq→same}
use Rattle.secrecy.specs.Counts.{count}
use Rattle.lists.proofs.Sums.{sum-cong, sum-zero, sum-le, sum-shift}
use Rattle.secrecy.proofs.Units.{shift}

-- ---- the count

-- tests that are equal at the lists counted have equal counts
count-cong : (q n : ℕ) (p r : List ℕ → Bool) → ((l : List ℕ) → Vector q n l → p l ≡ r l) → count q n p ≡ count q n r
unfolding count
count-cong q zero p r h = ap (λ (b : Bool). cond b 1 0) (h [] (vector-nil q))
count-cong q (suc n) p r h =
    sum-cong q (λ x. count q n (λ l. p (x ∷ l))) (λ x. count q n (λ l. r (x ∷ l)))
    (λ x b. count-cong q n (λ l. p (x ∷ l)) (λ l. r (x ∷ l)) (λ l v. h (x ∷ l) (vector-cons q n x l b v)))

-- where one list passes the count is not 0
count-pos : (q n : ℕ) (p : List ℕ → Bool) (l : List ℕ) → Vector q n l → T (p l) → 0 < count q n p
unfolding count
count-pos q zero p [] v t = rw (T→true (p []) t) (omega arith)
count-pos q zero p (x ∷ l) v t = absurd (suc-ne-zero (length l) v.size)
count-pos q (suc n) p [] v t = absurd (suc-ne-zero n (sym v.size))
count-pos q (suc n) p (x ∷ l) v t =
    lt_of_lt_of_le
    (count-pos q n (λ m. p (x ∷ m)) l (vector-tail q n x l v) t)
    (sum-le q (λ y. count q n (λ m. p (y ∷ m))) x (vector-head q n x l v))

-- where none passes it is 0
count_none : (q n : ℕ) (p : List ℕ → Bool) → ((l : List ℕ) → Vector q n l → ¬ (T (p l))) → count q n p ≡ 0
unfolding count
count_none q zero p h = rw (not-T→false (p []) (h [] (vector-nil q)))
count_none q (suc n) p h =
    sum-zero q (λ x. count q n (λ l. p (x ∷ l)))
    (λ x b. count_none q n (λ l. p (x ∷ l)) (λ l v. h (x ∷ l) (vector-cons q n x l b v)))

-- so where it is not 0 some list passes
pub count-found : (q n : ℕ) (p : List ℕ → Bool) → count q n p ≢ 0 → (l : List ℕ) × Vector q n l × T (p l)
count-found q n p h = go (T-decide (any_list q n p))
  where
    go : Dec (T (any_list q n p)) → (l : List ℕ) × Vector q n l × T (p l)
    go (yes t) = any-list-found q n p t
    go (no f) = absurd (h (count_none q n p (λ l v t. f (any-list-at q n p l v t))))

-- a translation changes no count
count-shift : (q n : ℕ) (p : List ℕ → Bool) (t : List ℕ) → Vector q n t → count q n (λ l. p (shift q l t)) ≡ count q n p
unfolding count
count-shift q zero p [] v = refl
count-shift q zero p (c ∷ t) v = absurd (suc-ne-zero (length t) v.size)
count-shift q (suc n) p [] v = absurd (suc-ne-zero n (sym v.size))
count-shift q (suc n) p (c ∷ t) v =
    sum-cong q (λ x. count q n (λ l. p ((x + c) % q ∷ shift q l t))) (λ x. count q n (λ l. p ((x + c) % q ∷ l)))
    (λ x b. count-shift q n (λ l. p ((x + c) % q ∷ l)) t (vector-tail q n c t v))
    ∙ sum-shift q c (λ x. count q n (λ l. p (x ∷ l))) (vector-head q n c t v)

-- ---- of two views of n source symbols

-- where a translation carries one view to the other, each test of the view has the same count
pub same-counts : {A : Type 0} (q n : ℕ) (see see' : List ℕ → A) (t : List ℕ) → Vector q n t
    → ((N : List ℕ) → Vector q n N → see' (shift q N t) ≡ see N)
    → (test : A → Bool) → count q n (λ N. test (see N)) ≡ count q n (λ N. test (see' N))
same-counts q n see see' t v h test =
    count-cong q n (λ N. test (see N)) (λ N. test (see' (shift q N t))) (λ N w. ap test (sym (h N w)))
    ∙ count-shift q n (λ N. test (see' N)) t v

-- a view that only one of them shows has unequal counts
pub counts-differ : (q n : ℕ) (see see' : List ℕ → List ℕ) (s N₀ : List ℕ) → Vector q n N₀ → see N₀ ≡ s → ((N : List ℕ) → Vector q n N → see' N ≢ s)
    → count q n (λ N. same_list (see N) s) ≢ count q n (λ N. same_list (see' N) s)
counts-differ q n see see' s N₀ v e h same =
    omega (
      arith,
      count-pos q n (λ N. same_list (see N) s) N₀ v (eq→same (see N₀) s e),
      count_none q n (λ N. same_list (see' N) s) (λ N w t. h N w (same→eq (see' N) s t)),
    )
