-- Sums over all lists of n symbols below q, of which counts are a case. Two views with equal counts for each thing seen have equal sums of everything that is
-- worked out from what is seen.
use Prim.Native.Nat.{ℕ, zero, suc, ◌+◌, ◌*◌, ◌<◌}
use mathlib.Core.Path.{◌≡◌, refl, sym, ap, ap₂, ◌∙◌}
use mathlib.Core.Bool.{Bool, true, false, cond, ◌&&◌}
use mathlib.Core.Logic.{◌≢◌, ⊎_elim}
use mathlib.Core.List.{List, [], ◌∷◌, ◌++◌}
use native.Mathlib.Nat.{zero-add, suc-add, add-zero, suc-ne-zero, lt-suc_self, not-suc-le-zero, eq-or-lt_of_le, le_of_suc-le-suc}
use native.Mathlib.Omega.{arith}
use lib.ListN.{length}
use lib.Dec.{eqb}
use borrow.Author.Tests.{eq-eqb, ne_eqb}
use Rattle.matrices.specs.Linear.{Vector}
use Rattle.matrices.specs.Rank.{same_list}
use Rattle.matrices.proofs.Vectors.{vector-nil, vector-cons, vector-head, vector-tail}
use Rattle.lists.specs.Sums.{sum_to}
use Rattle.secrecy.specs.Counts.{count}
use Rattle.lists.proofs.Sums.{sum-cong, sum-zero, sum-add}

-- ---- sums

sum-swap : (m n : ℕ) (f : ℕ → ℕ → ℕ) → sum_to m (λ i. sum_to n (f i)) ≡ sum_to n (λ j. sum_to m (λ i. f i j))
unfolding sum_to
sum-swap zero n f = sym (sum-zero n (λ j. 0) (λ j l. refl))
sum-swap (suc m) n f =
    ap (λ (z : ℕ). z + sum_to n (f m)) (sum-swap m n f) ∙ sym (sum-add n (λ j. sum_to m (λ i. f i j)) (f m))

sum-times : (n c : ℕ) (f : ℕ → ℕ) → sum_to n (λ i. f i * c) ≡ sum_to n f * c
unfolding sum_to
sum-times zero c f = omega arith
sum-times (suc n) c f = omega (arith, sum-times n c f)

-- one summand, and 0 elsewhere
sum-single : (n : ℕ) (f : ℕ → ℕ) (k : ℕ) → k < n → ((i : ℕ) → i < n → i ≢ k → f i ≡ 0) → sum_to n f ≡ f k
unfolding sum_to
sum-single zero f k h z = absurd (not-suc-le-zero h)
sum-single (suc n) f k h z =
    ⊎_elim
    (λ e. ap (λ (x : ℕ). x + f n) (sum-zero n f (λ i l. z i (omega arith) (omega arith))) ∙ zero-add (f n) ∙ ap f (sym e))
    (λ c. ap₂ ◌+◌ (sum-single n f k c (λ i l. z i (omega arith))) (z n (lt-suc_self n) (omega arith)) ∙ add-zero (f k))
    (eq-or-lt_of_le (le_of_suc-le-suc h))

-- ---- over all lists

-- the sum of f over all lists of n symbols below q
pub over_all : ℕ → ℕ → (List ℕ → ℕ) → ℕ
unfolding sum_to
over_all q zero f = f []
over_all q (suc n) f = sum_to q (λ x. over_all q n (λ l. f (x ∷ l)))

-- a count is such a sum
pub count-over : (q n : ℕ) (p : List ℕ → Bool) → count q n p ≡ over_all q n (λ l. cond (p l) 1 0)
unfolding count over_all
count-over q zero p = refl
count-over q (suc n) p =
    sum-cong q (λ x. count q n (λ l. p (x ∷ l))) (λ x. over_all q n (λ l. cond (p (x ∷ l)) 1 0)) (λ x b. count-over q n (λ l. p (x ∷ l)))

pub over-cong : (q n : ℕ) (f g : List ℕ → ℕ) → ((l : List ℕ) → Vector q n l → f l ≡ g l) → over_all q n f ≡ over_all q n g
unfolding over_all
over-cong q zero f g h = h [] (vector-nil q)
over-cong q (suc n) f g h =
    sum-cong q (λ x. over_all q n (λ l. f (x ∷ l))) (λ x. over_all q n (λ l. g (x ∷ l)))
    (λ x b. over-cong q n (λ l. f (x ∷ l)) (λ l. g (x ∷ l)) (λ l v. h (x ∷ l) (vector-cons q n x l b v)))

over_zero : (q n : ℕ) (f : List ℕ → ℕ) → ((l : List ℕ) → f l ≡ 0) → over_all q n f ≡ 0
unfolding over_all
over_zero q zero f h = h []
over_zero q (suc n) f h = sum-zero q (λ x. over_all q n (λ l. f (x ∷ l))) (λ x b. over_zero q n (λ l. f (x ∷ l)) (λ l. h (x ∷ l)))

-- over the first a symbols, and the b after them
pub over-split : (q a b : ℕ) (f : List ℕ → ℕ) → over_all q (a + b) f ≡ over_all q a (λ x. over_all q b (λ y. f (x ++ y)))
unfolding over_all
over-split q zero b f = ap (λ (n : ℕ). over_all q n f) (zero-add b)
over-split q (suc a) b f =
    ap (λ (n : ℕ). over_all q n f) (suc-add a b)
    ∙ sum-cong q (λ x. over_all q (a + b) (λ l. f (x ∷ l))) (λ x. over_all q a (λ l. over_all q b (λ y. f (x ∷ (l ++ y)))))
    (λ x l. over-split q a b (λ l. f (x ∷ l)))

-- in whichever order
sum_over : (q n m : ℕ) (f : ℕ → List ℕ → ℕ) → sum_to m (λ i. over_all q n (f i)) ≡ over_all q n (λ l. sum_to m (λ i. f i l))
unfolding over_all
sum_over q zero m f = refl
sum_over q (suc n) m f =
    sum-swap m q (λ i x. over_all q n (λ l. f i (x ∷ l)))
    ∙ sum-cong q (λ x. sum_to m (λ i. over_all q n (λ l. f i (x ∷ l)))) (λ x. over_all q n (λ l. sum_to m (λ i. f i (x ∷ l))))
    (λ x b. sum_over q n m (λ i l. f i (x ∷ l)))

over-swap : (q a b : ℕ) (f : List ℕ → List ℕ → ℕ) → over_all q a (λ x. over_all q b (f x)) ≡ over_all q b (λ y. over_all q a (λ x. f x y))
unfolding over_all
over-swap q zero b f = refl
over-swap q (suc a) b f =
    sum-cong q (λ c. over_all q a (λ x. over_all q b (f (c ∷ x)))) (λ c. over_all q b (λ y. over_all q a (λ x. f (c ∷ x) y)))
    (λ c l. over-swap q a b (λ x. f (c ∷ x)))
    ∙ sum_over q b q (λ c y. over_all q a (λ x. f (c ∷ x) y))

-- c for each list that passes
over-times : (q n c : ℕ) (p : List ℕ → Bool) → over_all q n (λ l. cond (p l) c 0) ≡ count q n p * c
unfolding over_all count
over-times q zero c p = go (p [])
  where
    go : (t : Bool) → cond t c 0 ≡ cond t 1 0 * c
    go true = omega arith
    go false = omega arith
over-times q (suc n) c p =
    sum-cong q (λ x. over_all q n (λ l. cond (p (x ∷ l)) c 0)) (λ x. count q n (λ l. p (x ∷ l)) * c) (λ x b. over-times q n c (λ l. p (x ∷ l)))
    ∙ sum-times q c (λ x. count q n (λ l. p (x ∷ l)))

-- the list s alone
over-single : (q n : ℕ) (f : List ℕ → ℕ) (s : List ℕ) → Vector q n s → over_all q n (λ t. cond (same_list s t) (f t) 0) ≡ f s
unfolding over_all same_list
over-single q zero f [] v = refl
over-single q zero f (x ∷ s) v = absurd (suc-ne-zero (length s) v.size)
over-single q (suc n) f [] v = absurd (suc-ne-zero n (sym v.size))
over-single q (suc n) f (x ∷ s) v =
    sum-single q (λ y. over_all q n (λ t. cond (eqb x y && same_list s t) (f (y ∷ t)) 0)) x (vector-head q n x s v)
    (λ y l ne.
    over_zero q n (λ t. cond (eqb x y && same_list s t) (f (y ∷ t)) 0)
    (λ t. ap (λ (b : Bool). cond (b && same_list s t) (f (y ∷ t)) 0) (ne_eqb x y (λ e. ne (sym e)))))
    ∙ over-cong q n (λ t. cond (eqb x x && same_list s t) (f (x ∷ t)) 0) (λ t. cond (same_list s t) (f (x ∷ t)) 0)
    (λ t w. ap (λ (b : Bool). cond (b && same_list s t) (f (x ∷ t)) 0) (eq-eqb x x refl))
    ∙ over-single q n (λ t. f (x ∷ t)) s (vector-tail q n x s v)

-- ---- of two views

-- the sum of what is worked out from a view, sorted by what is seen
by-seen : (q a m : ℕ) (see : List ℕ → List ℕ) → ((N : List ℕ) → Vector q a N → Vector q m (see N)) → (f : List ℕ → ℕ)
    → over_all q a (λ N. f (see N)) ≡ over_all q m (λ t. count q a (λ N. same_list (see N) t) * f t)
by-seen q a m see v f =
    over-cong q a (λ N. f (see N)) (λ N. over_all q m (λ t. cond (same_list (see N) t) (f t) 0)) (λ N w. sym (over-single q m f (see N) (v N w)))
    ∙ over-swap q a m (λ N t. cond (same_list (see N) t) (f t) 0)
    ∙ over-cong q m (λ t. over_all q a (λ N. cond (same_list (see N) t) (f t) 0)) (λ t. count q a (λ N. same_list (see N) t) * f t)
    (λ t w. over-times q a (f t) (λ N. same_list (see N) t))

-- equal counts of each thing seen have equal sums
pub same-sums : (q a m : ℕ) (see see' : List ℕ → List ℕ)
    → ((N : List ℕ) → Vector q a N → Vector q m (see N)) → ((N : List ℕ) → Vector q a N → Vector q m (see' N))
    → ((s : List ℕ) → count q a (λ N. same_list (see N) s) ≡ count q a (λ N. same_list (see' N) s))
    → (f : List ℕ → ℕ) → over_all q a (λ N. f (see N)) ≡ over_all q a (λ N. f (see' N))
same-sums q a m see see' v v' h f =
    by-seen q a m see v f
    ∙ over-cong q m (λ t. count q a (λ N. same_list (see N) t) * f t) (λ t. count q a (λ N. same_list (see' N) t) * f t) (λ t w. ap (λ (z : ℕ). z * f t) (h t))
    ∙ sym (by-seen q a m see' v' f)
