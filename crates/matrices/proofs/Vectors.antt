-- Laws of rows: what holds of each member, entries, lengths, validity, and the product, which is linear on both sides.
use mathlib.Core.Path.{◌≡◌, refl, sym, ap, ap₂, ◌∙◌, subst}
use mathlib.Core.List.{List, [], ◌∷◌, ◌++◌, map}
use Prim.Native.Nat.{ℕ, zero, suc, ◌+◌, ◌*◌, ◌%◌, ◌≤◌, ◌<◌, suc-le-suc}
use native.Mathlib.Nat.{le_of_suc-le-suc, not-suc-le-zero, zero-lt-suc, zero-mod, mod-lt, suc_inj, suc-ne-zero}
use native.Mathlib.Omega.{arith}
use lib.ListN.{length, length-map}
use Rattle.residues.proofs.Congruence.{Cong, of_eq, of-rem, c-refl, c-trans, c-add, c-mul-left, c-mul-right}
use Rattle.lists.specs.Lists.{at, All, zeros}
use Rattle.matrices.specs.Linear.{Vector, add, scale, reduce, comb_n, comb}
use Rattle.matrices.proofs.Notions.{dot_n}
use Rattle.lists.proofs.ListLaws.{el-zeros, length-zeros}

-- ---- the product is linear on both sides

-- the empty row has the product 0
pub dot-nil : (x : List ℕ) → dot_n x [] ≡ 0
dot-nil [] = refl
dot-nil (a ∷ x) = refl

-- the two sides may be exchanged
pub dot-comm : (x y : List ℕ) → dot_n x y ≡ dot_n y x
dot-comm [] y = sym (dot-nil y)
dot-comm (a ∷ x) [] = refl
dot-comm (a ∷ x) (b ∷ y) = omega (arith, dot-comm x y)

-- the product of a sum
pub dot-add : (x y m : List ℕ) → dot_n (add x y) m ≡ dot_n x m + dot_n y m
dot-add [] y m = omega arith
dot-add (a ∷ x) [] m = omega arith
dot-add (a ∷ x) (b ∷ y) [] = omega arith
dot-add (a ∷ x) (b ∷ y) (c ∷ m) = omega (arith, dot-add x y m)

-- the product of a multiple
pub dot-scale : (k : ℕ) (x m : List ℕ) → dot_n (scale k x) m ≡ k * dot_n x m
dot-scale k [] m = omega arith
dot-scale k (a ∷ x) [] = omega arith
dot-scale k (a ∷ x) (c ∷ m) = omega (arith, dot-scale k x m)

-- the product of a row and a multiple of another
pub dot-left : (x y m : List ℕ) (k : ℕ) → dot_n (add x (scale k y)) m ≡ dot_n x m + k * dot_n y m
dot-left x y m k = omega (arith, dot-add x (scale k y) m, dot-scale k y m)

-- the product with a sum
pub dot-added : (m x y : List ℕ) → dot_n m (add x y) ≡ dot_n m x + dot_n m y
dot-added m x y = dot-comm m (add x y) ∙ dot-add x y m ∙ ap₂ ◌+◌ (dot-comm x m) (dot-comm y m)

-- the product with a multiple
pub dot-scaled : (k : ℕ) (m x : List ℕ) → dot_n m (scale k x) ≡ k * dot_n m x
dot-scaled k m x = dot-comm m (scale k x) ∙ dot-scale k x m ∙ ap (λ (z : ℕ). k * z) (dot-comm x m)

-- the product with a row and a multiple of another
pub dot-right : (m x y : List ℕ) (k : ℕ) → dot_n m (add x (scale k y)) ≡ dot_n m x + k * dot_n m y
dot-right m x y k = omega (arith, dot-added m x (scale k y), dot-scaled k m y)

-- the product of zeros
pub dot-zeros : (n : ℕ) (m : List ℕ) → dot_n (zeros n) m ≡ 0
dot-zeros zero m = refl
dot-zeros (suc n) [] = refl
dot-zeros (suc n) (b ∷ m) = omega (arith, dot-zeros n m)

-- the product with zeros
pub dot-zeroed : (m : List ℕ) (n : ℕ) → dot_n m (zeros n) ≡ 0
dot-zeroed m n = dot-comm m (zeros n) ∙ dot-zeros n m

-- modulo q the product of the remainders is that of the row
pub dot-reduce : (q : ℕ) (x m : List ℕ) → Cong q (dot_n (reduce q x) m) (dot_n x m)
dot-reduce q [] m = c-refl
dot-reduce q (a ∷ x) [] = c-refl
dot-reduce q (a ∷ x) (b ∷ m) = c-add (c-mul-right b (of-rem q a)) (dot-reduce q x m)

-- and so with the remainders
pub dot-reduced : (q : ℕ) (m x : List ℕ) → Cong q (dot_n m (reduce q x)) (dot_n m x)
dot-reduced q m x = c-trans (of_eq (dot-comm m (reduce q x))) (c-trans (dot-reduce q x m) (of_eq (dot-comm x m)))

-- the product of a combination is the combination of the products
pub dot-combined : (n : ℕ) (cs : List ℕ) (S : List (List ℕ)) (m : List ℕ) → dot_n (comb_n n cs S) m ≡ dot_n cs (map (λ s. dot_n s m) S)
dot-combined n [] S m = dot-zeros n m
dot-combined n (c ∷ cs) [] m = dot-zeros n m
dot-combined n (c ∷ cs) (s ∷ S) m =
    omega (arith, dot-add (scale c s) (comb_n n cs S) m, dot-scale c s m, dot-combined n cs S m)

-- what is orthogonal to each row is orthogonal to their combinations
pub dot-comb : (q n : ℕ) (cs : List ℕ) (S : List (List ℕ)) (m : List ℕ) → All (λ s. Cong q (dot_n s m) 0) S → Cong q (dot_n (comb_n n cs S) m) 0
dot-comb q n cs S m h = c-trans (of_eq (dot-combined n cs S m)) (null cs S h)
  where
    null : (cs : List ℕ) (S : List (List ℕ)) → All (λ s. Cong q (dot_n s m) 0) S → Cong q (dot_n cs (map (λ s. dot_n s m) S)) 0
    null [] S h = c-refl
    null (c ∷ cs) [] h = c-refl
    null (c ∷ cs) (s ∷ S) h = c-trans (c-add (c-mul-left c h.0) (null cs S h.1)) (of_eq (omega arith))

-- the product of two rows side by side is the sum of the products of the parts
pub dot-append : (a c x y : List ℕ) → length a ≡ length x → dot_n (a ++ c) (x ++ y) ≡ dot_n a x + dot_n c y
dot-append [] c [] y e = omega arith
dot-append [] c (z ∷ x) y e = absurd (suc-ne-zero (length x) (sym e))
dot-append (z ∷ a) c [] y e = absurd (suc-ne-zero (length a) e)
dot-append (z ∷ a) c (w ∷ x) y e = omega (arith, dot-append a c x y (suc_inj e))

-- ---- entries

-- an entry of a sum
pub el-add : (x y : List ℕ) (i : ℕ) → at (add x y) i ≡ at x i + at y i
el-add [] y i = omega arith
el-add (a ∷ x) [] i = omega arith
el-add (a ∷ x) (b ∷ y) zero = refl
el-add (a ∷ x) (b ∷ y) (suc i) = el-add x y i

-- an entry of a multiple
pub el-scale : (k : ℕ) (x : List ℕ) (i : ℕ) → at (scale k x) i ≡ k * at x i
el-scale k [] i = omega arith
el-scale k (a ∷ x) zero = refl
el-scale k (a ∷ x) (suc i) = el-scale k x i

-- an entry of a row and a multiple of another
pub el-left : (x y : List ℕ) (k i : ℕ) → at (add x (scale k y)) i ≡ at x i + k * at y i
el-left x y k i = omega (arith, el-add x (scale k y) i, el-scale k y i)

-- an entry of the remainders
pub el-reduce : (q : ℕ) (x : List ℕ) (i : ℕ) → at (reduce q x) i ≡ at x i % q
el-reduce q [] i = sym (zero-mod q)
el-reduce q (a ∷ x) zero = refl
el-reduce q (a ∷ x) (suc i) = el-reduce q x i

-- an entry of a combination, by its first row and the others
pub el-comb : (n c : ℕ) (cs s : List ℕ) (S : List (List ℕ)) (i : ℕ) → at (comb_n n (c ∷ cs) (s ∷ S)) i ≡ c * at s i + at (comb_n n cs S) i
el-comb n c cs s S i = omega (arith, el-add (scale c s) (comb_n n cs S) i, el-scale c s i)

-- an entry of a combination of rows after others
pub el-comb-append : (n : ℕ) (cs ds : List ℕ) (S T : List (List ℕ)) (i : ℕ) → length cs ≡ length S
    → at (comb_n n (cs ++ ds) (S ++ T)) i ≡ at (comb_n n cs S) i + at (comb_n n ds T) i
el-comb-append n [] ds [] T i e = omega (arith, el-zeros n i)
el-comb-append n [] ds (s ∷ S) T i e = absurd (suc-ne-zero (length S) (sym e))
el-comb-append n (c ∷ cs) ds [] T i e = absurd (suc-ne-zero (length cs) e)
el-comb-append n (c ∷ cs) ds (s ∷ S) T i e =
    omega (arith, el-comb n c (cs ++ ds) s (S ++ T) i, el-comb n c cs s S i, el-comb-append n cs ds S T i (suc_inj e))

-- an entry of a combination with the coefficients 0
pub el-comb-zeros : (n k : ℕ) (S : List (List ℕ)) (i : ℕ) → at (comb_n n (zeros k) S) i ≡ 0
el-comb-zeros n zero S i = el-zeros n i
el-comb-zeros n (suc k) [] i = el-zeros n i
el-comb-zeros n (suc k) (s ∷ S) i = omega (arith, el-comb n 0 (zeros k) s S i, el-comb-zeros n k S i)

-- modulo q a combination with the remainders of the coefficients is the same
pub el-comb-reduce : (q n : ℕ) (cs : List ℕ) (S : List (List ℕ)) (i : ℕ) → Cong q (at (comb_n n (reduce q cs) S) i) (at (comb_n n cs S) i)
el-comb-reduce q n [] S i = c-refl
el-comb-reduce q n (c ∷ cs) [] i = c-refl
el-comb-reduce q n (c ∷ cs) (s ∷ S) i =
    c-trans (of_eq (el-comb n (c % q) (reduce q cs) s S i))
    (c-trans (c-add (c-mul-right (at s i) (of-rem q c)) (el-comb-reduce q n cs S i)) (of_eq (sym (el-comb n c cs s S i))))

-- ---- lengths

-- the length of a sum
pub length-add : (x y : List ℕ) (n : ℕ) → length x ≡ n → length y ≡ n → length (add x y) ≡ n
length-add [] y n e f = f
length-add (a ∷ x) [] n e f = e
length-add (a ∷ x) (b ∷ y) zero e f = absurd (suc-ne-zero (length x) e)
length-add (a ∷ x) (b ∷ y) (suc n) e f = ap suc (length-add x y n (suc_inj e) (suc_inj f))

-- the length of a multiple
pub length-scale : (k : ℕ) (x : List ℕ) → length (scale k x) ≡ length x
length-scale k [] = refl
length-scale k (a ∷ x) = ap suc (length-scale k x)

-- the length of the remainders
pub length-reduce : (q : ℕ) (x : List ℕ) → length (reduce q x) ≡ length x
length-reduce q x = length-map x (λ (a : ℕ). a % q)

-- the length of a combination
pub length-comb : (q n : ℕ) (cs : List ℕ) (S : List (List ℕ)) → All (Vector q n) S → length (comb_n n cs S) ≡ n
length-comb q n [] S h = length-zeros n
length-comb q n (c ∷ cs) [] h = length-zeros n
length-comb q n (c ∷ cs) (s ∷ S) h =
    length-add (scale c s) (comb_n n cs S) n (length-scale c s ∙ h.0.size) (length-comb q n cs S h.1)

-- ---- rows of n numbers below q

-- the empty row
pub vector-nil : (q : ℕ) → Vector q 0 []
vector-nil q = record { size = refl; small = λ i l. absurd (not-suc-le-zero l) }

-- a number in front
pub vector-cons : (q n a : ℕ) (x : List ℕ) → a < q → Vector q n x → Vector q (suc n) (a ∷ x)
vector-cons q n a x h v = record { size = ap suc v.size; small = small }
  where
    small : (i : ℕ) → i < suc n → at (a ∷ x) i < q
    small zero l = h
    small (suc i) l = v.small i (le_of_suc-le-suc l)

-- the first number
pub vector-head : (q n a : ℕ) (x : List ℕ) → Vector q (suc n) (a ∷ x) → a < q
vector-head q n a x v = v.small 0 (zero-lt-suc n)

-- the numbers after the first
pub vector-tail : (q n a : ℕ) (x : List ℕ) → Vector q (suc n) (a ∷ x) → Vector q n x
vector-tail q n a x v = record { size = suc_inj v.size; small = λ i l. v.small (suc i) (suc-le-suc l) }

-- remainders
pub vector-reduce : (q n : ℕ) (x : List ℕ) → 0 < q → length x ≡ n → Vector q n (reduce q x)
vector-reduce q n x pos e =
    record {
      size = length-reduce q x ∙ e;
      small = λ i l. subst (λ (z : ℕ). z < q) (sym (el-reduce q x i)) (mod-lt (at x i) pos);
    }

-- zeros
pub vector-zeros : (q n : ℕ) → 0 < q → Vector q n (zeros n)
vector-zeros q n pos =
    record { size = length-zeros n; small = λ i l. subst (λ (z : ℕ). z < q) (sym (el-zeros n i)) pos }

-- 1 and then zeros
pub vector-one : (q n : ℕ) → 2 ≤ q → Vector q (suc n) (1 ∷ zeros n)
vector-one q n two = vector-cons q n 1 (zeros n) two (vector-zeros q n (omega arith))

-- a combination modulo q
pub vector-comb : (q n : ℕ) (cs : List ℕ) (S : List (List ℕ)) → 0 < q → All (Vector q n) S → Vector q n (comb q n cs S)
vector-comb q n cs S pos h = vector-reduce q n (comb_n n cs S) pos (length-comb q n cs S h)

-- ---- any list, cut or filled up with zeros to n numbers, modulo q

abbrev pub fit : ℕ → ℕ → List ℕ → List ℕ
fit q zero x = []
fit q (suc n) [] = 0 ∷ fit q n []
fit q (suc n) (a ∷ x) = (a % q) ∷ fit q n x

-- it has n numbers below q
pub vector-fit : (q n : ℕ) (x : List ℕ) → 0 < q → Vector q n (fit q n x)
vector-fit q zero x h = vector-nil q
vector-fit q (suc n) [] h = vector-cons q n 0 (fit q n []) h (vector-fit q n [] h)
vector-fit q (suc n) (a ∷ x) h = vector-cons q n (a % q) (fit q n x) (mod-lt a h) (vector-fit q n x h)

-- it changes no product with a row of at most n numbers
pub dot-fit : (q : ℕ) (r : List ℕ) (n : ℕ) (x : List ℕ) → length r ≤ n → Cong q (dot_n r (fit q n x)) (dot_n r x)
dot-fit q [] n x h = c-refl
dot-fit q (a ∷ r) zero x h = absurd (not-suc-le-zero h)
dot-fit q (a ∷ r) (suc n) [] h =
    c-trans (c-add (c-refl {a = a * 0}) (dot-fit q r n [] (le_of_suc-le-suc h))) (of_eq (omega (arith, dot-nil r)))
dot-fit q (a ∷ r) (suc n) (b ∷ x) h = c-add (c-mul-left a (of-rem q b)) (dot-fit q r n x (le_of_suc-le-suc h))
