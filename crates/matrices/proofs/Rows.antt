-- The rows of a table, before and after elimination by one row, and their products with any list.
use mathlib.Core.Path.{◌≡◌, refl, sym, ap, ◌∙◌, subst}
use mathlib.Core.Bool.{Bool, true, false, cond}
use mathlib.Core.List.{List, [], ◌∷◌, ◌++◌}
use Prim.Native.Nat.{ℕ, zero, suc, ◌+◌, ◌-◌, ◌*◌, ◌%◌, ◌≤◌, ◌<◌}
use native.Mathlib.Nat.{mod-lt, suc_inj, mul-le-mul}
use native.Mathlib.Decide.{ℕ_discrete}
use native.Mathlib.Omega.{arith}
use lib.Dec.{eqb, T}
use lib.ListN.{length, take, drop, length-drop, take-append-drop}
use lib.Seq.{take_at, drop-append-add, drop-append-le, take-append-le, drop-drop, length-take-le, get_or-take, get_or-drop}
use borrow.Author.Tests.{eq-eqb, ne_eqb}
use Rattle.residues.specs.Field.{opposite_of, cross_of}
use Rattle.residues.specs.Primes.{all_below}
use Rattle.residues.proofs.Congruence.{Cong, of_eq, of-rem, c-trans, c-add, c-mul-left, c-mul-right, of-residue}
use Rattle.residues.proofs.Crossings.{cross-number, cross-small}
use Rattle.residues.proofs.PrimeLaws.{below_at}
use Rattle.lists.specs.Lists.{at, zeros}
use Rattle.matrices.specs.Linear.{Vector}
use Rattle.matrices.proofs.Notions.{dot_n}
use Rattle.matrices.specs.Tables.{row_of, rows_of, pivot_of, crossed, cleared, each_row}
use Rattle.matrices.proofs.Vectors.{vector-nil, vector-cons}
use Rattle.matrices.proofs.Steps.{row_fits, length-row}

-- ---- the pivot

-- at the pivot a row is not 0
pub pivot-nonzero : (r : List ℕ) → pivot_of r < length r → at r (pivot_of r) ≡ 0 → ⊥
unfolding pivot_of
pivot-nonzero [] h e = omega arith
pivot-nonzero (x ∷ r) h e = go (ℕ_discrete x 0) h e (pivot-nonzero r)
  where
    go : Dec (x ≡ 0) → cond (eqb x 0) (suc (pivot_of r)) 0 < suc (length r) → at (x ∷ r) (cond (eqb x 0) (suc (pivot_of r)) 0) ≡ 0
        → (pivot_of r < length r → at r (pivot_of r) ≡ 0 → ⊥) → ⊥
    go (yes z) = rw (eq-eqb x 0 z) (λ h e ih. ih (omega arith) e)
    go (no n) = rw (ne_eqb x 0 n) (λ h e ih. n e)

-- a row without a pivot is 0
pub pivot-none : (r : List ℕ) → length r ≤ pivot_of r → (N : List ℕ) → dot_n r N ≡ 0
unfolding pivot_of
pivot-none [] h N = refl
pivot-none (x ∷ r) h [] = refl
pivot-none (x ∷ r) h (y ∷ N) = go (ℕ_discrete x 0) h (λ l. pivot-none r l N)
  where
    go : Dec (x ≡ 0) → suc (length r) ≤ cond (eqb x 0) (suc (pivot_of r)) 0 → (length r ≤ pivot_of r → dot_n r N ≡ 0) → x * y + dot_n r N ≡ 0
    go (yes z) = rw (eq-eqb x 0 z) (λ h ih. omega (arith, ih (omega arith), ap (λ (w : ℕ). w * y) z))
    go (no n) = rw (ne_eqb x 0 n) (λ h ih. absurd (omega arith))

-- ---- products with any list

-- what a row is multiplied by that is cleared by one with y in the pivot's column, where it has x there itself
abbrev pub multiple_of : ℕ → ℕ → ℕ
multiple_of y x = cond (eqb x 0) 1 y

module _ (q : ℕ) (pos : 0 < q) where
  dot-crossed : (y x : ℕ) (r s N : List ℕ) → length r ≡ length s → Cong q (dot_n (crossed q y x r s) N) (y * dot_n r N + (q - 1) * x * dot_n s N)
  unfolding crossed
  dot-crossed y x [] [] N e = of_eq (omega arith)
  dot-crossed y x [] (b ∷ s) N e = absurd (omega arith)
  dot-crossed y x (a ∷ r) [] N e = absurd (omega arith)
  dot-crossed y x (a ∷ r) (b ∷ s) [] e = of_eq (omega arith)
  dot-crossed y x (a ∷ r) (b ∷ s) (z ∷ N) e =
      c-trans (c-add (c-mul-right z (cross-number q y a x b pos)) (dot-crossed y x r s N (suc_inj e))) (of_eq (omega arith))

  -- what x lacks to a multiple of q is minus x
  pub minus : (x : ℕ) → Cong q (opposite_of q x) ((q - 1) * x)
  minus x =
      let l : x % q < q = mod-lt x pos in
      let m : (q - 1) + 1 ≡ q = omega arith in
      c-trans (of-residue q (q - x % q) pos)
      (c-trans
      (record { up = x % q; dn = 1; eq = omega (arith, ap (λ (z : ℕ). z * (x % q)) m) })
      (c-mul-left (q - 1) (of-rem q x)))

  -- a cleared row has the product of the row, times the pivot where it was not 0 there, less that of the multiple of s
  pub dot-cleared : (p : ℕ) (s r N : List ℕ) → length r ≡ length s
      → Cong q (dot_n (cleared q p s r) N) (multiple_of (at s p) (at r p) * dot_n r N + (q - 1) * at r p * dot_n s N)
  unfolding cleared
  dot-cleared p s r N l = go (ℕ_discrete (at r p) 0)
    where
      go : Dec (at r p ≡ 0)
          → Cong q (dot_n (cond (eqb (at r p) 0) r (crossed q (at s p) (at r p) r s)) N)
          (multiple_of (at s p) (at r p) * dot_n r N + (q - 1) * at r p * dot_n s N)
      go (yes e) = rw (eq-eqb (at r p) 0 e) (of_eq (omega (arith, ap (λ (z : ℕ). (q - 1) * z * dot_n s N) e)))
      go (no n) = rw (ne_eqb (at r p) 0 n) (dot-crossed (at s p) (at r p) r s N l)

  -- ---- validity

  vector-crossed : (y x : ℕ) (r s : List ℕ) → length r ≡ length s → Vector q (length r) (crossed q y x r s)
  unfolding crossed
  vector-crossed y x [] s e = vector-nil q
  vector-crossed y x (a ∷ r) [] e = absurd (omega arith)
  vector-crossed y x (a ∷ r) (b ∷ s) e =
      vector-cons q (length r) (cross_of q y a x b) (crossed q y x r s) (cross-small q y a x b pos) (vector-crossed y x r s (suc_inj e))

  pub vector-cleared : (n p : ℕ) (s r : List ℕ) → length s ≡ n → Vector q n r → Vector q n (cleared q p s r)
  unfolding cleared
  vector-cleared n p s r e v = go (eqb (at r p) 0)
    where
      go : (t : Bool) → Vector q n (cond t r (crossed q (at s p) (at r p) r s))
      go true = v
      go false =
          subst (λ (k : ℕ). Vector q k (crossed q (at s p) (at r p) r s)) v.size
          (vector-crossed (at s p) (at r p) r s (v.size ∙ sym e))

  -- the rows of a table of symbols
  pub vector_row : (rows cols : ℕ) (T : List ℕ) → rows * cols ≡ length T → lib.Dec.T (all_below q T) → (j : ℕ) → j < rows → Vector q cols (row_of cols T j)
  vector_row rows cols T e t j h =
      record {
        size = length-row cols j cols T refl (row_fits rows cols j (length T) h e);
        small = λ i l.
            subst (λ (z : ℕ). z < q) (sym (get_or-take cols (drop (j * cols) T) i 0 l ∙ get_or-drop (j * cols) T i 0)) (below_at q T pos t (j * cols + i));
      }

-- ---- a product that picks out one number

pub dot-pick : (p : ℕ) (r : List ℕ) → dot_n r (zeros p ++ (1 ∷ [])) ≡ at r p
dot-pick p [] = refl
dot-pick zero (x ∷ r) = nothing r
  where
    nothing : (r : List ℕ) → x * 1 + dot_n r [] ≡ x
    nothing [] = omega arith
    nothing (y ∷ r) = omega arith
dot-pick (suc p) (x ∷ r) = omega (arith, dot-pick p r)

-- ---- rows of tables put together

module _ (cols from : ℕ) (T : List ℕ) (fits : from * cols ≤ length T) where
  front : length (take (from * cols) T) ≡ from * cols
  front = length-take-le (from * cols) T fits

  -- a row before number `from` is that of the front
  in-front : (X : List ℕ) (j : ℕ) → j < from → row_of cols (take (from * cols) T ++ X) j ≡ take cols (drop (j * cols) (take (from * cols) T))
  in-front X j h =
      let m : suc j * cols ≤ from * cols = mul-le-mul {n₁ = suc j} {m₁ = cols} {n₂ = from} {m₂ = cols} h (omega arith) in
      let k : suc j * cols ≡ j * cols + cols = omega arith in
      ap (take cols) (drop-append-le (j * cols) (take (from * cols) T) X (omega (arith, front)))
      ∙ take-append-le cols (drop (j * cols) (take (from * cols) T)) X (omega (arith, front, length-drop (j * cols) (take (from * cols) T)))

  pub row_before : (X : List ℕ) (j : ℕ) → j < from → row_of cols (take (from * cols) T ++ X) j ≡ row_of cols T j
  row_before X j h =
      in-front X j h
      ∙ sym (in-front (drop (from * cols) T) j h)
      ∙ ap (λ (Y : List ℕ). row_of cols Y j) (take-append-drop (from * cols) T)

  -- a row from there on is that of the rest
  pub row-after : (X : List ℕ) (i : ℕ) → row_of cols (take (from * cols) T ++ X) (from + i) ≡ row_of cols X i
  row-after X i =
      ap (λ (k : ℕ). take cols (drop k (take (from * cols) T ++ X))) {x = (from + i) * cols} {y = length (take (from * cols) T) + i * cols}
      (omega (arith, front))
      ∙ ap (take cols) (drop-append-add (take (from * cols) T) X (i * cols))

pub row-rest : (cols from : ℕ) (T : List ℕ) (i : ℕ) → row_of cols (drop (from * cols) T) i ≡ row_of cols T (from + i)
row-rest cols from T i =
    ap (take cols) (drop-drop (i * cols) (from * cols) T)
    ∙ ap (λ (k : ℕ). take cols (drop k T)) {x = from * cols + i * cols} {y = (from + i) * cols} (omega arith)

pub row-each_row : (f : List ℕ → List ℕ) → ((r : List ℕ) → length (f r) ≡ length r) → (cols n : ℕ) (T : List ℕ) → n * cols ≡ length T → (j : ℕ) → j < n
    → row_of cols (each_row f n cols T) j ≡ f (row_of cols T j)
unfolding each_row
row-each_row f keeps cols zero T e j h = absurd (omega arith)
row-each_row f keeps cols (suc n) T e zero h =
    let t : length (take cols T) ≡ cols = length-take-le cols T (omega arith) in
    let z : 0 * cols ≡ 0 = omega arith in
    ap (λ (k : ℕ). take cols (drop k (f (take cols T) ++ each_row f n cols (drop cols T)))) z
    ∙ take_at (f (take cols T)) (each_row f n cols (drop cols T)) cols (keeps (take cols T) ∙ t)
    ∙ ap (λ (k : ℕ). f (take cols (drop k T))) (sym z)
row-each_row f keeps cols (suc n) T e (suc j) h =
    let t : length (take cols T) ≡ cols = length-take-le cols T (omega arith) in
    let d : length (drop cols T) ≡ length T - cols = length-drop cols T in
    let A : List ℕ = f (take cols T) in
    let B : List ℕ = each_row f n cols (drop cols T) in
    let k : suc j * cols ≡ length A + j * cols = omega (arith, keeps (take cols T)) in
    let m : cols + j * cols ≡ suc j * cols = omega arith in
    ap (λ (x : ℕ). take cols (drop x (A ++ B))) k
    ∙ ap (take cols) (drop-append-add A B (j * cols))
    ∙ row-each_row f keeps cols n (drop cols T) (omega arith) j (omega arith)
    ∙ ap (λ (x : List ℕ). f (take cols x)) (drop-drop (j * cols) cols T)
    ∙ ap (λ (x : ℕ). f (take cols (drop x T))) m

-- the list of the rows from number i on
pub rows-from : (cols k i : ℕ) (T : List ℕ) → rows_of (suc k) cols (drop (i * cols) T) ≡ row_of cols T i ∷ rows_of k cols (drop ((i + 1) * cols) T)
unfolding rows_of
rows-from cols k i T =
    ap (λ (X : List ℕ). row_of cols T i ∷ rows_of k cols X)
    (drop-drop cols (i * cols) T ∙ ap (λ (n : ℕ). drop n T) {x = i * cols + cols} {y = (i + 1) * cols} (omega arith))
