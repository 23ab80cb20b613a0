-- The law of sweeping: the rows are those modulo the span of the rows swept by, and what a row has with M less its value is multiplied as the row is, where M
-- has with each row that clears others its value. So a row that ends as 0 has its combination of the values beside it, times what the row was multiplied by,
-- and that is itself a value that was carried along: nothing is ever solved for coefficients.
use Prim.Native.Nat.{ℕ, zero, suc, ◌+◌, ◌-◌, ◌*◌, ◌%◌, ◌≤◌, ◌<◌}
use mathlib.Core.Path.{◌≡◌, refl, sym, ap, ap₂, ◌∙◌, subst}
use mathlib.Core.Bool.{Bool, true, false, cond, not, ◌&&◌}
use mathlib.Core.List.{List, [], ◌∷◌, ◌++◌, append-nil}
use native.Mathlib.Decide.{dec_lt, ℕ_discrete}
use native.Mathlib.Omega.{arith}
use lib.Dec.{T, ltb, eqb, ltb→lt, lt→ltb}
use lib.ListN.{length}
use borrow.Author.Tests.{lt-ltb, le-ltb, eq-eqb, ne_eqb}
use Rattle.residues.specs.Field.{cross_of}
use Rattle.residues.specs.Primes.{Prime, all_below}
use Rattle.residues.proofs.PrimeLaws.{prime-pos}
use Rattle.residues.proofs.Congruence.{Cong, of_eq, of-mod, c-refl, c_sym, c-trans, c-add, c-mul-left, c-mul-right, minus_number, same_number}
use Rattle.residues.proofs.Crossings.{cross-number}
use Rattle.residues.proofs.Units.{IsUnit, unit-one, unit-product}
use Rattle.lists.specs.Lists.{at, All, join_to, picked}
use Rattle.lists.proofs.Searches.{T-ext}
use Rattle.lists.proofs.Fronts.{part_at}
use Rattle.lists.proofs.ListLaws.{at-tab, length-tab, all-picked}
use Rattle.matrices.specs.Linear.{Vector}
use Rattle.matrices.specs.Rank.{in_span}
use Rattle.matrices.specs.Tables.{row_of, pivot_of, has_pivot, eliminated_from, eliminated}
use Rattle.matrices.specs.Sweeps.{carried_by, carried, swept_table, swept_values}
use Rattle.matrices.proofs.Notions.{dot_n, dot}
use Rattle.matrices.proofs.Steps.{pivot-is}
use Rattle.matrices.proofs.Rows.{multiple_of}
use Rattle.matrices.proofs.Elimination.{Table, Reduced, reduced-none, eliminated-table, eliminated-reduced, eliminated-product, eliminated-length}
use Rattle.matrices.proofs.Elimination.{pivot-outside, pivot-unit, unit-multiple}

ltb_next : (m n : ℕ) → ltb (suc m) (suc n) ≡ ltb m n
ltb_next m n =
    T-ext (ltb (suc m) (suc n)) (ltb m n)
    (λ t. let l : suc m < suc n = ltb→lt (suc m) (suc n) t in lt→ltb m n (omega arith))
    (λ t. let l : m < n = ltb→lt m n t in lt→ltb (suc m) (suc n) (omega arith))

-- numbers that are all below 1 are a row without a pivot
pub below_one : (r : List ℕ) → all_below 1 r ≡ not (ltb (pivot_of r) (length r))
unfolding all_below pivot_of
below_one [] = refl
below_one (zero ∷ r) = below_one r ∙ ap not (sym (ltb_next (pivot_of r) (length r)))
below_one (suc x ∷ r) = rw (le-ltb (suc x) 1 (omega arith), ne_eqb (suc x) 0 (omega arith), lt-ltb 0 (suc (length r)) (omega arith))

-- values stay as many
pub length-carried : (q rows cols i : ℕ) (T vs : List ℕ) → length (carried q rows cols i T vs) ≡ length vs
unfolding carried carried_by
length-carried q rows cols i T vs = go (has_pivot rows cols i T && eqb (length vs) rows)
  where
    go : (c : Bool) → length (cond c (carried_by q cols i (pivot_of (row_of cols T i)) T vs) vs) ≡ length vs
    go true = length-tab (length vs) _
    go false = refl

-- a number crossed with another, or left alone where x is 0
crossed-number : (q : ℕ) → 0 < q → (y x a b : ℕ) → Cong q (cond (eqb x 0) a (cross_of q y a x b)) (multiple_of y x * a + (q - 1) * x * b)
crossed-number q pos y x a b = go (ℕ_discrete x 0)
  where
    go : Dec (x ≡ 0) → Cong q (cond (eqb x 0) a (cross_of q y a x b)) (multiple_of y x * a + (q - 1) * x * b)
    go (yes e) = rw (eq-eqb x 0 e) (of_eq (omega (arith, ap (λ (z : ℕ). (q - 1) * z * b) e)))
    go (no n) = rw (ne_eqb x 0 n) (c-trans (cross-number q y a x b pos) (of_eq (omega arith)))

-- minus x is f times minus 1
factor-number : (q m f x : ℕ) → q ≡ m + 1 → Cong q (0 + m * x) (f * (0 + m * 1)) → Cong q f x
factor-number q m f x e c =
    same_number q m f x e (c-trans (c-add (c-refl {a = f}) (c-trans (of_eq (omega arith)) (c-trans c (of_eq (omega arith))))) (minus_number q m f f e c-refl))

dot-nil : (r : List ℕ) → dot_n r [] ≡ 0
dot-nil [] = refl
dot-nil (x ∷ r) = refl

-- ---- sizes, whatever the numbers

module _ (q rows cols first : ℕ) (b : ℕ → Bool) (T : List ℕ) where
  pub swept-length : rows * cols ≡ length T → (k : ℕ) → length (swept_table q rows cols first b T k) ≡ length T
  unfolding swept_table
  swept-length e zero = refl
  swept-length e (suc k) = go (b k) (swept-length e k)
    where
      go : (c : Bool) → length (swept_table q rows cols first b T k) ≡ length T
          → length (cond c (eliminated q rows cols (first + k) (swept_table q rows cols first b T k)) (swept_table q rows cols first b T k)) ≡ length T
      go true f = eliminated-length q rows cols (first + k) (swept_table q rows cols first b T k) (e ∙ sym f) ∙ f
      go false f = f

  pub values_length : (vs : List ℕ) (k : ℕ) → length (swept_values q rows cols first b T vs k) ≡ length vs
  unfolding swept_values
  values_length vs zero = refl
  values_length vs (suc k) = go (b k) (values_length vs k)
    where
      go : (c : Bool) → length (swept_values q rows cols first b T vs k) ≡ length vs
          → length (cond c (carried q rows cols (first + k) (swept_table q rows cols first b T k) (swept_values q rows cols first b T vs k))
          (swept_values q rows cols first b T vs k)) ≡ length vs
      go true f = length-carried q rows cols (first + k) _ _ ∙ f
      go false f = f

-- ---- of a table of symbols modulo a prime

module _ (q : ℕ) (pr : Prime q) (rows cols first : ℕ) (b : ℕ → Bool) (T₀ : List ℕ) (tab₀ : Table q rows cols T₀) where
  pos : 0 < q
  pos = prime-pos pr

  -- the rows, and those of them that the sweep goes by
  abbrev row : ℕ → List ℕ
  row r = row_of cols T₀ r

  abbrev pub swept_by : ℕ → List (List ℕ)
  swept_by k = picked k b (λ i. row (first + i) ∷ [])

  abbrev after : ℕ → List ℕ
  after = swept_table q rows cols first b T₀

  has-pivot : (U : List ℕ) → Table q rows cols U → (i : ℕ) → i < rows → has_pivot rows cols i U ≡ ltb (pivot_of (row_of cols U i)) cols
  has-pivot U t i h = pivot-is q rows cols i U t.few-rows t.few-cols t.size h

  -- ---- the table

  pub swept-table : (k : ℕ) → first + k ≤ rows → Table q rows cols (after k)
  unfolding swept_table
  swept-table zero h = tab₀
  swept-table (suc k) h = go (b k) (swept-table k (omega arith))
    where
      go : (c : Bool) → Table q rows cols (after k) → Table q rows cols (cond c (eliminated q rows cols (first + k) (after k)) (after k))
      go true t = eliminated-table q pr rows cols 0 (after k) t (omega arith) (first + k) (omega arith)
      go false t = t

  swept-reduced : (k : ℕ) → first + k ≤ rows → Reduced q rows cols 0 row (swept_by k) (after k)
  unfolding swept_table picked join_to
  swept-reduced zero h = reduced-none q rows cols T₀
  swept-reduced (suc k) h = go (b k) (swept-table k (omega arith)) (swept-reduced k (omega arith))
    where
      go : (c : Bool) → Table q rows cols (after k) → Reduced q rows cols 0 row (swept_by k) (after k)
          → Reduced q rows cols 0 row (swept_by k ++ cond c (row (first + k) ∷ []) []) (cond c (eliminated q rows cols (first + k) (after k)) (after k))
      go true t R =
          eliminated-reduced q pr rows cols 0 (after k) t (omega arith) (first + k) (omega arith) 0 row (swept_by k) (omega arith) R 0 (omega arith)
          (omega arith)
      go false t R = subst (λ (S : List (List ℕ)). Reduced q rows cols 0 row S (after k)) (sym (append-nil (swept_by k))) R

  swept-vectors : (k : ℕ) → first + k ≤ rows → All (Vector q cols) (swept_by k)
  swept-vectors k h = all-picked (Vector q cols) k b (λ i. row (first + i)) (λ i l t. tab₀.valid (first + i) (omega arith))

  -- a row ends as 0 just where it is in the span of those swept by
  pub pivot-left : (k r : ℕ) → first + k ≤ rows → r < rows → not (ltb (pivot_of (row_of cols (after k) r)) cols) ≡ in_span q cols (swept_by k) (row r)
  pivot-left k r h l =
      turn (ltb (pivot_of (row_of cols (after k) r)) cols) (in_span q cols (swept_by k) (row r))
      (ap (λ (b : Bool). cond b 1 0) (sym (has-pivot (after k) (swept-table k h) r l))
      ∙ pivot-outside q pr rows cols 0 row (swept_by k) (after k) (swept-table k h) (swept-vectors k h) tab₀.valid (swept-reduced k h) r (omega arith) l)
    where
      turn : (x y : Bool) → ◌≡◌ {A = ℕ} (cond x 1 0) (cond y 0 1) → not x ≡ y
      turn true true e = absurd (omega arith)
      turn true false e = refl
      turn false true e = refl
      turn false false e = absurd (omega arith)

  -- ---- the values

  -- what row r is multiplied by where row i clears it, which is not 0 in column p
  abbrev multiple : List ℕ → ℕ → ℕ → ℕ
  multiple U i r = multiple_of (at (row_of cols U i) (pivot_of (row_of cols U i))) (at (row_of cols U r) (pivot_of (row_of cols U i)))

  multiple-unit : (U : List ℕ) → Table q rows cols U → (i r : ℕ) → i < rows → pivot_of (row_of cols U i) < cols → IsUnit q (multiple U i r)
  multiple-unit U t i r h d = unit-multiple (pivot-unit q pr rows cols 0 U t (omega arith) i h d) (at (row_of cols U r) (pivot_of (row_of cols U i)))

  -- one value, where the row has a pivot
  carried-at : (U vs : List ℕ) → length vs ≡ rows → (i r : ℕ) → r < rows → pivot_of (row_of cols U i) < cols
      → Cong q (at (carried_by q cols i (pivot_of (row_of cols U i)) U vs) r)
      (multiple U i r * at vs r + (q - 1) * at (row_of cols U r) (pivot_of (row_of cols U i)) * at vs i)
  unfolding carried_by
  carried-at U vs e i r l d =
      let p : ℕ = pivot_of (row_of cols U i) in
      let x : at U (r * cols + p) ≡ at (row_of cols U r) p = sym (part_at cols (r * cols) U p d) in
      let y : at U (i * cols + p) ≡ at (row_of cols U i) p = sym (part_at cols (i * cols) U p d) in
      c-trans
      (of_eq (at-tab (length vs) _ r (omega arith)
      ∙ ap₂ (λ (x y : ℕ). cond (eqb x 0) (at vs r) (cross_of q y (at vs r) x (at vs i))) x y))
      (crossed-number q pos (at (row_of cols U i) p) (at (row_of cols U r) p) (at vs r) (at vs i))

  -- what a row has with M, less its value
  abbrev pub Apart : List ℕ → List ℕ → List ℕ → ℕ → ℕ
  Apart M U vs r = dot_n (row_of cols U r) M + (q - 1) * at vs r

  carried_step : (M U vs : List ℕ) → Table q rows cols U → length vs ≡ rows → (i r : ℕ) → i < rows → r < rows → pivot_of (row_of cols U i) < cols
      → Cong q (Apart M U vs i) 0
      → Cong q (Apart M (eliminated q rows cols i U) (carried_by q cols i (pivot_of (row_of cols U i)) U vs) r) (multiple U i r * Apart M U vs r)
  carried_step M U vs t e i r h l d z =
      let x : ℕ = at (row_of cols U r) (pivot_of (row_of cols U i)) in
      c-trans
      (c-add (eliminated-product q pr rows cols 0 U t (omega arith) i h d r (omega arith) l M) (c-mul-left (q - 1) (carried-at U vs e i r l d)))
      (c-trans (of_eq (omega arith)) (c-trans (c-add (c-refl {a = multiple U i r * Apart M U vs r}) (c-mul-left ((q - 1) * x) z)) (of_eq (omega arith))))

  -- the values beside the rows, from v on
  abbrev values : List ℕ → ℕ → List ℕ
  values v = swept_values q rows cols first b T₀ v

  -- M has with each row that clears others its value
  abbrev pub Meets : List ℕ → List ℕ → Type 0
  Meets v M =
      (i : ℕ) → first + i < rows → T (b i && not (in_span q cols (swept_by i) (row (first + i)))) → dot q (row (first + i)) M ≡ at v (first + i) % q

  -- each row was multiplied by a number that has an inverse, and what it has with M less its value by the same, whatever the values and M
  record Multiplied (U : List ℕ) (ws : List ℕ → List ℕ) : Type 0 where
    factor : ℕ → ℕ
    unit : (r : ℕ) → r < rows → IsUnit q (factor r)
    apart : (v M : List ℕ) → length v ≡ rows → Meets v M → (r : ℕ) → r < rows → Cong q (Apart M U (ws v) r) (factor r * Apart M T₀ v r)

  multiplied : (k : ℕ) → first + k ≤ rows → Multiplied (after k) (λ v. values v k)
  unfolding swept_table swept_values carried eliminated_from
  multiplied zero h = record { factor = λ r. 1; unit = λ r l. unit-one; apart = λ v M e m r l. of_eq (omega arith) }
  multiplied (suc k) h =
      go (b k) refl (dec_lt (pivot_of (row_of cols (after k) (first + k))) cols) (swept-table k (omega arith)) (multiplied k (omega arith))
    where
      go : (x : Bool) → b k ≡ x → Dec (pivot_of (row_of cols (after k) (first + k)) < cols) → Table q rows cols (after k)
          → Multiplied (after k) (λ v. values v k)
          → Multiplied (cond x (eliminated q rows cols (first + k) (after k)) (after k))
          (λ v. cond x (carried q rows cols (first + k) (after k) (values v k)) (values v k))
      go false e d t w = w
      go true e (no n) t w =
          let none : has_pivot rows cols (first + k) (after k) ≡ false
          = has-pivot (after k) t (first + k) (omega arith) ∙ le-ltb (pivot_of (row_of cols (after k) (first + k))) cols (omega arith) in
          record { factor = w.factor; unit = w.unit; apart = λ v M s m r l. rw none (w.apart v M s m r l) }
      go true e (yes y) t w =
          record {
            factor = λ r. multiple (after k) (first + k) r * w.factor r;
            unit = λ r l. unit-product (multiple-unit (after k) t (first + k) r (omega arith) y) (w.unit r l);
            apart = λ v M s m r l.
                let some : has_pivot rows cols (first + k) (after k) ≡ true
                = has-pivot (after k) t (first + k) (omega arith) ∙ lt-ltb (pivot_of (row_of cols (after k) (first + k))) cols y in
                let many : length (values v k) ≡ rows = values_length q rows cols first b T₀ v k ∙ s in
                let changed : (has_pivot rows cols (first + k) (after k) && eqb (length (values v k)) rows) ≡ true
                = ap₂ ◌&&◌ some (eq-eqb (length (values v k)) rows many) in
                let out : in_span q cols (swept_by k) (row (first + k)) ≡ false
                = sym (pivot-left k (first + k) (omega arith) (omega arith))
                ∙ ap not (lt-ltb (pivot_of (row_of cols (after k) (first + k))) cols y) in
                let kept : T (b k && not (in_span q cols (swept_by k) (row (first + k)))) = subst T (sym (ap₂ (λ (x z : Bool). x && not z) e out)) tt in
                let met : Cong q (Apart M T₀ v (first + k)) 0
                = minus_number q (q - 1) (dot_n (row (first + k)) M) (at v (first + k)) (omega (arith, pos))
                (of-mod q (dot_n (row (first + k)) M) (at v (first + k)) (m k (omega arith) kept)) in
                let still : Cong q (Apart M (after k) (values v k) (first + k)) 0
                = c-trans (w.apart v M s m (first + k) (omega arith)) (c-trans (c-mul-left (w.factor (first + k)) met) (of_eq (omega arith))) in
                c-trans
                (subst
                (λ (x : Bool). Cong q
                (Apart M (eliminated q rows cols (first + k) (after k))
                (cond x (carried_by q cols (first + k) (pivot_of (row_of cols (after k) (first + k))) (after k) (values v k)) (values v k)) r)
                (multiple (after k) (first + k) r * Apart M (after k) (values v k) r))
                (sym changed)
                (carried_step M (after k) (values v k) t many (first + k) r (omega arith) l y still))
                (c-trans (c-mul-left (multiple (after k) (first + k) r) (w.apart v M s m r l)) (of_eq (omega arith)));
          }

  -- values u that start as 0 beside the rows that clear others end, beside a row where they start as 1, as what the row was multiplied by
  pub values-apart : (u v M : List ℕ) → length u ≡ rows → ((i : ℕ) → first + i < rows → at u (first + i) ≡ 0) → length v ≡ rows → Meets v M
      → (k : ℕ) → first + k ≤ rows → (r : ℕ) → r < rows → at u r ≡ 1
      → IsUnit q (at (values u k) r) × Cong q (Apart M (after k) (values v k) r) (at (values u k) r * Apart M T₀ v r)
  values-apart u v M su zu sv m k h r l one =
      let w : Multiplied (after k) (λ v. values v k) = multiplied k h in
      let f : ℕ = w.factor r in
      let x : ℕ = at (values u k) r in
      let same : Cong q f x
      = factor-number q (q - 1) f x (omega (arith, pos))
      (c-trans (of_eq (sym (ap (λ (z : ℕ). z + (q - 1) * x) (dot-nil (row_of cols (after k) r)))))
      (c-trans
      (w.apart u [] su (λ i l t. ap (λ (z : ℕ). z % q) (dot-nil (row (first + i)) ∙ sym (zu i l))) r l)
      (of_eq (ap₂ (λ (z y : ℕ). f * (z + (q - 1) * y)) (dot-nil (row r)) one)))) in (
        record { inverse = (w.unit r l).inverse; one = c-trans (c-mul-right (w.unit r l).inverse (c_sym same)) (w.unit r l).one },
        c-trans (w.apart v M sv m r l) (c-mul-right (Apart M T₀ v r) same),
      )
