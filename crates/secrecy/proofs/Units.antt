-- Units, sums and differences of rows modulo q, and sums of several rows: their entries, their products, and that they are numbers below q.
use Prim.Native.Nat.{ℕ, zero, suc, ◌+◌, ◌-◌, ◌*◌, ◌%◌, ◌≤◌, ◌<◌}
use mathlib.Core.Path.{◌≡◌, refl, ap, ap₂, ◌∙◌, subst}
use mathlib.Core.Logic.{◌≢◌, ◌⊎◌, inl, inr, ⊎_elim}
use mathlib.Core.List.{List, [], ◌∷◌}
use native.Mathlib.Nat.{le_of_suc-le-suc, not-suc-le-zero, mod-eq_of_lt}
use native.Mathlib.Decide.{ℕ_discrete}
use native.Mathlib.Omega.{arith}
use lib.ListN.{length, set, length-set}
use lib.Seq.{get_or-set_same, get_or-set_other}
use Rattle.residues.proofs.Congruence.{Cong, of_eq, c-refl, c-trans, c-add, c-mul-right}
use Rattle.lists.specs.Lists.{at, zeros, tab}
use Rattle.matrices.specs.Linear.{Vector, add, scale, reduce}
use Rattle.matrices.proofs.Notions.{dot_n}
use Rattle.matrices.proofs.Vectors.{dot-add, dot-added, dot-zeros, dot-right, dot-reduced, el-add, el-left, el-reduce}
use Rattle.lists.proofs.ListLaws.{el-zeros, length-zeros}
use Rattle.matrices.proofs.Vectors.{length-add, length-scale, vector-reduce}
use Rattle.lists.specs.Sums.{sum_to}
use Rattle.lists.proofs.Sums.{sum-cong, sum-zero, sum_one}

-- m numbers, a 1 at index i and 0 elsewhere
abbrev pub unit : ℕ → ℕ → List ℕ
unit m i = set (zeros m) i 1

-- the sum and the difference of two rows, modulo q
abbrev pub shift : ℕ → List ℕ → List ℕ → List ℕ
shift q x y = reduce q (add x y)

abbrev pub minus : ℕ → List ℕ → List ℕ → List ℕ
minus q x y = reduce q (add x (scale (q - 1) y))

-- the sum of the rows f 0, .., f (k - 1) of n numbers
abbrev pub add_to : ℕ → ℕ → (ℕ → List ℕ) → List ℕ
add_to n zero f = zeros n
add_to n (suc k) f = add (add_to n k f) (f k)

-- ---- units

-- a unit has 1 at its index
pub at-unit-same : (m i : ℕ) → i < m → at (unit m i) i ≡ 1
at-unit-same m i h = get_or-set_same (zeros m) i 1 0 (omega (arith, length-zeros m))

-- and 0 elsewhere
pub at-unit-other : (m i j : ℕ) → j ≢ i → at (unit m i) j ≡ 0
at-unit-other m i j ne = get_or-set_other (zeros m) i j 1 0 ne ∙ el-zeros m j

-- so it has 0 and 1 only
pub unit-cases : (m i k : ℕ) → i < m → (at (unit m i) k ≡ 0) ⊎ (at (unit m i) k ≡ 1)
unit-cases m i k h = go (ℕ_discrete k i)
  where
    go : Dec (k ≡ i) → (at (unit m i) k ≡ 0) ⊎ (at (unit m i) k ≡ 1)
    go (yes e) = inr (ap (at (unit m i)) e ∙ at-unit-same m i h)
    go (no e) = inl (at-unit-other m i k e)

length-unit : (m i : ℕ) → length (unit m i) ≡ m
length-unit m i = length-set (zeros m) i 1 ∙ length-zeros m

-- it has m numbers below q
pub unit-vector : (q m i : ℕ) → 2 ≤ q → i < m → Vector q m (unit m i)
unit-vector q m i two h =
    record { size = length-unit m i; small = λ k l. ⊎_elim (λ e. omega arith) (λ e. omega arith) (unit-cases m i k h) }

-- its product with a row is an entry of that
pub dot-unit : (m i : ℕ) (y : List ℕ) → i < m → dot_n (unit m i) y ≡ at y i
dot-unit zero i y h = absurd (not-suc-le-zero h)
dot-unit (suc m) zero [] h = refl
dot-unit (suc m) zero (b ∷ y) h = omega (arith, dot-zeros m y)
dot-unit (suc m) (suc i) [] h = refl
dot-unit (suc m) (suc i) (b ∷ y) h = omega (arith, dot-unit m i y (le_of_suc-le-suc h))

-- ---- sums and differences of two rows

-- an entry of a sum
pub el-shift : (q : ℕ) (x y : List ℕ) (i : ℕ) → at (shift q x y) i ≡ (at x i + at y i) % q
el-shift q x y i = el-reduce q (add x y) i ∙ ap (λ (z : ℕ). z % q) (el-add x y i)

-- the sum of two lists made of their entries
pub tab-shift : (q n : ℕ) (f g : ℕ → ℕ) → shift q (tab n f) (tab n g) ≡ tab n (λ k. (f k + g k) % q)
unfolding tab
tab-shift q zero f g = refl
tab-shift q (suc n) f g = ap (λ (l : List ℕ). (f 0 + g 0) % q ∷ l) (tab-shift q n (λ k. f (suc k)) (λ k. g (suc k)))

-- the product with a sum
pub dot-shift : (q : ℕ) (a x y : List ℕ) → Cong q (dot_n a (shift q x y)) (dot_n a x + dot_n a y)
dot-shift q a x y = c-trans (dot-reduced q a (add x y)) (of_eq (dot-added a x y))

-- an entry of a difference
el-minus : (q : ℕ) (x y : List ℕ) (i : ℕ) → at (minus q x y) i ≡ (at x i + (q - 1) * at y i) % q
el-minus q x y i = el-reduce q (add x (scale (q - 1) y)) i ∙ ap (λ (z : ℕ). z % q) (el-left x y (q - 1) i)

-- the product with a difference
pub dot-minus : (q : ℕ) (a x y : List ℕ) → Cong q (dot_n a (minus q x y)) (dot_n a x + (q - 1) * dot_n a y)
dot-minus q a x y = c-trans (dot-reduced q a (add x (scale (q - 1) y))) (of_eq (dot-right a x y (q - 1)))

-- from the products with the two rows
pub dot-minus-is : (q : ℕ) (a x y : List ℕ) (r s : ℕ) → dot_n a x ≡ r → dot_n a y ≡ s → Cong q (dot_n a (minus q x y)) (r + (q - 1) * s)
dot-minus-is q a x y r s e f = c-trans (dot-minus q a x y) (of_eq (ap₂ (λ (r s : ℕ). r + (q - 1) * s) e f))

-- a difference has m numbers below q
pub minus-vector : (q m : ℕ) (x y : List ℕ) → 0 < q → length x ≡ m → length y ≡ m → Vector q m (minus q x y)
minus-vector q m x y pos e f =
    vector-reduce q m (add x (scale (q - 1) y)) pos (length-add x (scale (q - 1) y) m e (length-scale (q - 1) y ∙ f))

-- ---- a 1 and a minus 1

module _ (q m i j : ℕ) (two : 2 ≤ q) where
  -- it has m numbers below q
  pub units-vector : Vector q m (minus q (unit m i) (unit m j))
  units-vector = minus-vector q m (unit m i) (unit m j) (omega arith) (length-unit m i) (length-unit m j)

  -- a difference of two units has 0, 1 and q - 1 only
  pub units-cases : (k : ℕ) → i < m → j < m → i ≢ j
      → (at (minus q (unit m i) (unit m j)) k ≡ 0) ⊎ ((at (minus q (unit m i) (unit m j)) k ≡ 1) ⊎ (at (minus q (unit m i) (unit m j)) k ≡ q - 1))
  units-cases k hi hj ne = go (ℕ_discrete k j)
    where
      entry : (x y z : ℕ) → at (unit m i) k ≡ x → at (unit m j) k ≡ y → x + (q - 1) * y ≡ z → z < q → at (minus q (unit m i) (unit m j)) k ≡ z
      entry x y z e f s l =
          el-minus q (unit m i) (unit m j) k
          ∙ ap (λ (z : ℕ). z % q) (ap₂ (λ (x y : ℕ). x + (q - 1) * y) e f ∙ s)
          ∙ mod-eq_of_lt l

      go : Dec (k ≡ j) → (at (minus q (unit m i) (unit m j)) k ≡ 0) ⊎
          ((at (minus q (unit m i) (unit m j)) k ≡ 1) ⊎ (at (minus q (unit m i) (unit m j)) k ≡ q - 1))
      go (yes e) =
          inr (inr (entry 0 1 (q - 1) (at-unit-other m i k (omega arith)) (ap (at (unit m j)) e ∙ at-unit-same m j hj) (omega arith) (omega arith)))
      go (no e) =
          ⊎_elim
          (λ f. inl (entry 0 0 0 f (at-unit-other m j k e) (omega arith) (omega arith)))
          (λ f. inr (inl (entry 1 0 1 f (at-unit-other m j k e) (omega arith) two)))
          (unit-cases m i k hi)

-- ---- sums of several rows

-- the product of a sum of rows
pub dot-add_to : (n k : ℕ) (f : ℕ → List ℕ) (y : List ℕ) → dot_n (add_to n k f) y ≡ sum_to k (λ v. dot_n (f v) y)
unfolding sum_to
dot-add_to n zero f y = dot-zeros n y
dot-add_to n (suc k) f y = dot-add (add_to n k f) (f k) y ∙ ap (λ (z : ℕ). z + dot_n (f k) y) (dot-add_to n k f y)

-- that of a sum of units is a sum of entries
dot-units : (m k : ℕ) (f : ℕ → ℕ) (y : List ℕ) → ((v : ℕ) → v < k → f v < m) → dot_n (add_to m k (λ v. unit m (f v))) y ≡ sum_to k (λ v. at y (f v))
dot-units m k f y h =
    dot-add_to m k (λ v. unit m (f v)) y ∙ sum-cong k (λ v. dot_n (unit m (f v)) y) (λ v. at y (f v)) (λ v l. dot-unit m (f v) y (h v l))

-- a sum of units has with another the product 1, where this is one of them
pub dot-units-one : (m k : ℕ) (f : ℕ → ℕ) (i : ℕ) → ((v : ℕ) → v < k → f v < m) → (v : ℕ) → v < k → f v ≡ i
    → ((x : ℕ) → x < k → x ≢ v → f x ≢ i) → dot_n (add_to m k (λ v. unit m (f v))) (unit m i) ≡ 1
dot-units-one m k f i h v l e ne =
    dot-units m k f (unit m i) h
    ∙ sum_one k (λ v. at (unit m i) (f v)) v l (ap (at (unit m i)) e ∙ at-unit-same m i (subst (λ (j : ℕ). j < m) e (h v l)))
    (λ x c d. at-unit-other m i (f x) (ne x c d))

-- and 0, where it is none
pub dot-units-none : (m k : ℕ) (f : ℕ → ℕ) (i : ℕ) → ((v : ℕ) → v < k → f v < m) → ((v : ℕ) → v < k → f v ≢ i)
    → dot_n (add_to m k (λ v. unit m (f v))) (unit m i) ≡ 0
dot-units-none m k f i h ne =
    dot-units m k f (unit m i) h ∙ sum-zero k (λ v. at (unit m i) (f v)) (λ v l. at-unit-other m i (f v) (ne v l))

-- an entry of it
pub el-add_to : (n k : ℕ) (f : ℕ → List ℕ) (j : ℕ) → at (add_to n k f) j ≡ sum_to k (λ v. at (f v) j)
unfolding sum_to
el-add_to n zero f j = el-zeros n j
el-add_to n (suc k) f j = el-add (add_to n k f) (f k) j ∙ ap (λ (z : ℕ). z + at (f k) j) (el-add_to n k f j)

-- its length
pub length-add_to : (n k : ℕ) (f : ℕ → List ℕ) → ((v : ℕ) → length (f v) ≡ n) → length (add_to n k f) ≡ n
length-add_to n zero f h = length-zeros n
length-add_to n (suc k) f h = length-add (add_to n k f) (f k) n (length-add_to n k f h) (h k)

-- numbers that are all 0 have the product 0
pub dot-null : {q : ℕ} (x y : List ℕ) → ((i : ℕ) → Cong q (at x i) 0) → Cong q (dot_n x y) 0
dot-null [] y h = c-refl
dot-null (a ∷ x) [] h = c-refl
dot-null (a ∷ x) (b ∷ y) h =
    c-trans (c-add (c-mul-right b (h 0)) (dot-null x y (λ i. h (suc i)))) (of_eq (omega arith))
