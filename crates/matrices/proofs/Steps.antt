-- One step of each loop over a row, over the rows of a table, and over the pivots.
use mathlib.Core.Path.{◌≡◌, refl, sym, ap, ap₂, ◌∙◌}
use mathlib.Core.Bool.{Bool, true, false, cond, ◌&&◌}
use mathlib.Core.List.{List, [], ◌∷◌, ◌++◌, append_assoc, append-nil}
use Prim.Native.Nat.{ℕ, zero, suc, ◌+◌, ◌-◌, ◌*◌, ◌≤◌, ◌<◌}
use native.Mathlib.Nat.{mul-le-mul}
use native.Mathlib.Numerals.{add-one}
use native.Mathlib.Omega.{arith}
use lib.Dec.{eqb, ltb}
use lib.ListN.{length, get_or, take, drop, set, drop_of_length-le, length-append, length-drop, take-append-drop}
use lib.Seq.{drop-cons, take-suc-set, drop-set-lt, take_all, take_at, drop_at, length-take-le}
use borrow.Author.Tests.{eq-eqb, ne_eqb, lt-ltb, le-ltb, le-leb}
use Rattle.residues.specs.Field.{cross_of}
use Rattle.matrices.specs.Tables.{row_of, shaped, pivot_of, crossed, cleared, each_row, has_pivot, cleared_by, eliminated_from, reduced_from, pivots_from}

-- ---- the next place of a loop over n places

-- k is a place of another list too, as long as the one that it is a place of
pub place_of : {k m n : ℕ} → k < m → m ≡ n → k < n
place_of h e = omega arith

-- ---- the pivot

pub pivot-miss : (r : List ℕ) (k : ℕ) → k < length r → get_or r k 0 ≡ 0 → pivot_of (drop k r) ≡ suc (pivot_of (drop (suc k) r))
unfolding pivot_of
pivot-miss r k h e = rw (drop-cons r k 0 h, eq-eqb (get_or r k 0) 0 e)

pub pivot-hit : (r : List ℕ) (k : ℕ) → k < length r → (get_or r k 0 ≡ 0 → ⊥) → pivot_of (drop k r) ≡ 0
unfolding pivot_of
pivot-hit r k h e = rw (drop-cons r k 0 h, ne_eqb (get_or r k 0) 0 e)

pub pivot-end : (r : List ℕ) (k : ℕ) → length r ≤ k → pivot_of (drop k r) ≡ 0
unfolding pivot_of
pivot-end r k h = rw (drop_of_length-le r h)

-- ---- a list filled from the front

filled : (out M W : List ℕ) (k v : ℕ) → k < length out → take k out ++ (v ∷ M) ≡ W → take (k + 1) (set out k v) ++ M ≡ W
filled out M W k v b e = rw (add-one, take-suc-set out k v b, append_assoc) e

pub full : (out W : List ℕ) (k : ℕ) → length out ≤ k → take k out ++ [] ≡ W → out ≡ W
full out W k h e = sym (take_all k out h) ∙ sym (append-nil (take k out)) ∙ e

cross-step : (q y x : ℕ) (r s : List ℕ) (k : ℕ) → k < length r → k < length s
    → crossed q y x (drop k r) (drop k s) ≡ cross_of q y (get_or r k 0) x (get_or s k 0) ∷ crossed q y x (drop (k + 1) r) (drop (k + 1) s)
unfolding crossed
cross-step q y x r s k h l = rw (drop-cons r k 0 h, drop-cons s k 0 l, add-one k)

pub cross-end : (q y x : ℕ) (r s : List ℕ) (k : ℕ) → length r ≤ k → crossed q y x (drop k r) s ≡ []
unfolding crossed
cross-end q y x r s k h = rw (drop_of_length-le r h)

-- one place of r is replaced, and what comes after it is as it was
pub cross-next : (q y x : ℕ) (r s W : List ℕ) (k : ℕ) → k < length r → k < length s → take k r ++ crossed q y x (drop k r) (drop k s) ≡ W
    → (let v : ℕ = cross_of q y (get_or r k 0) x (get_or s k 0) in take (k + 1) (set r k v) ++ crossed q y x (drop (k + 1) (set r k v)) (drop (k + 1) s) ≡ W)
cross-next q y x r s W k h l e =
    let v : ℕ = cross_of q y (get_or r k 0) x (get_or s k 0) in
    let t : drop (k + 1) (set r k v) ≡ drop (k + 1) r = drop-set-lt (k + 1) r k v (omega arith) in
    ap (λ (z : List ℕ). take (k + 1) (set r k v) ++ crossed q y x z (drop (k + 1) s)) t
    ∙ filled r (crossed q y x (drop (k + 1) r) (drop (k + 1) s)) W k v h (ap (λ (z : List ℕ). take k r ++ z) (sym (cross-step q y x r s k h l)) ∙ e)

-- ---- sizes

length-crossed : (q y x : ℕ) (r s : List ℕ) → length (crossed q y x r s) ≡ length r
unfolding crossed
length-crossed q y x [] s = refl
length-crossed q y x (a ∷ r) [] = refl
length-crossed q y x (a ∷ r) (b ∷ s) = ap suc (length-crossed q y x r s)

pub length-cleared : (q p : ℕ) (s r : List ℕ) → length (cleared q p s r) ≡ length r
unfolding cleared
length-cleared q p s r = go (eqb (get_or r p 0) 0)
  where
    go : (t : Bool) → length (cond t r (crossed q (get_or s p 0) (get_or r p 0) r s)) ≡ length r
    go true = refl
    go false = length-crossed q (get_or s p 0) (get_or r p 0) r s

pub length-row : (cols i k : ℕ) (T : List ℕ) → k ≡ cols → i * cols + cols ≤ length T → length (take k (drop (i * cols) T)) ≡ cols
length-row cols i k T e h = length-take-le k (drop (i * cols) T) (omega (arith, length-drop (i * cols) T)) ∙ e

-- row j lies in the table
pub row_fits : (rows cols j n : ℕ) → j < rows → rows * cols ≡ n → j * cols + cols ≤ n
row_fits rows cols j n h e = omega (arith, mul-le-mul {n₁ = suc j} {m₁ = cols} {n₂ = rows} {m₂ = cols} h (omega arith))

-- so do the rows before number j
pub rows_fit : (rows cols j n : ℕ) → j ≤ rows → rows * cols ≡ n → j * cols ≤ n
rows_fit rows cols j n h e = omega (arith, mul-le-mul {n₁ = j} {m₁ = cols} {n₂ = rows} {m₂ = cols} h (omega arith))

-- the rows from number j on
pub rest-size : (rows cols j : ℕ) (T : List ℕ) → j ≤ rows → rows * cols ≡ length T → (rows - j) * cols ≡ length (drop (j * cols) T)
rest-size rows cols j T h e =
    let k : rows ≡ (rows - j) + j = omega arith in
    omega (arith, length-drop (j * cols) T, ap (λ (x : ℕ). x * cols) k)

module _ (f : List ℕ → List ℕ) (keeps : (r : List ℕ) → length (f r) ≡ length r) (cols : ℕ) where
  pub length-each_row : (n : ℕ) (T : List ℕ) → n * cols ≡ length T → length (each_row f n cols T) ≡ length T
  unfolding each_row
  length-each_row zero T e = refl
  length-each_row (suc n) T e =
      let t : length (take cols T) ≡ cols = length-take-le cols T (omega arith) in
      let d : length (drop cols T) ≡ length T - cols = length-drop cols T in
      length-append (f (take cols T)) (each_row f n cols (drop cols T))
      ∙ (omega (arith, keeps (take cols T), length-each_row n (drop cols T) (omega arith)))

-- ---- one row of a table after the other

module _ (f : List ℕ → List ℕ) (keeps : (r : List ℕ) → length (f r) ≡ length r) (rows cols j k : ℕ) (T W : List ℕ) where
  -- row j is replaced; the rows after it are as they were
  pub rows_next : (y : List ℕ) → k ≡ cols → j < rows → j * cols + cols ≤ length T → y ≡ f (take k (drop (j * cols) T))
      → take (j * cols) T ++ each_row f (rows - j) cols (drop (j * cols) T) ≡ W
      → (let T' : List ℕ = take (j * cols) T ++ (y ++ drop k (drop (j * cols) T)) in
      take ((j + 1) * cols) T' ++ each_row f (rows - (j + 1)) cols (drop ((j + 1) * cols) T') ≡ W)
  unfolding each_row
  rows_next y ek h l ey e =
      let b : ℕ = j * cols in
      let R : List ℕ = drop k (drop b T) in
      let n : ℕ = rows - (j + 1) in
      let s : rows - j ≡ suc (rows - (j + 1)) = omega arith in
      let a : length (take b T) ≡ b = length-take-le b T (omega arith) in
      let d : length (drop b T) ≡ length T - b = length-drop b T in
      let t : length (take k (drop b T)) ≡ k = length-take-le k (drop b T) (omega arith) in
      let ly : length y ≡ cols = ap length ey ∙ keeps (take k (drop b T)) ∙ t ∙ ek in
      let m : (j + 1) * cols ≡ b + cols = omega arith in
      let g : length (take b T ++ y) ≡ (j + 1) * cols = length-append (take b T) y ∙ omega arith in
      let r : take b T ++ (y ++ R) ≡ (take b T ++ y) ++ R = sym (append_assoc (take b T) y R) in
      let p : take ((j + 1) * cols) (take b T ++ (y ++ R)) ≡ take b T ++ y = ap (take ((j + 1) * cols)) r ∙ take_at (take b T ++ y) R ((j + 1) * cols) g in
      let q : drop ((j + 1) * cols) (take b T ++ (y ++ R)) ≡ R = ap (drop ((j + 1) * cols)) r ∙ drop_at (take b T ++ y) R ((j + 1) * cols) g in
      ap₂ (λ (x z : List ℕ). x ++ each_row f n cols z) p q
      ∙ append_assoc (take b T) y (each_row f n cols R)
      ∙ ap (λ (x : List ℕ). take b T ++ (x ++ each_row f n cols R)) ey
      ∙ ap (λ (z : ℕ). take b T ++ (f (take z (drop b T)) ++ each_row f n cols (drop z (drop b T)))) ek
      ∙ ap (λ (z : ℕ). take b T ++ each_row f z cols (drop b T)) (sym s)
      ∙ e

  pub rows_end : rows ≤ j → take (j * cols) T ++ each_row f (rows - j) cols (drop (j * cols) T) ≡ W → T ≡ W
  unfolding each_row
  rows_end h e =
      let z : rows - j ≡ 0 = omega arith in
      sym (take-append-drop (j * cols) T) ∙ ap (λ (n : ℕ). take (j * cols) T ++ each_row f n cols (drop (j * cols) T)) (sym z) ∙ e

-- ---- the end of a table, lent and put back

module _ (b : ℕ) (T : List ℕ) where
  pub rest-whole : take (length T - b) (drop b T) ≡ drop b T
  rest-whole = take_all (length T - b) (drop b T) (omega (arith, length-drop b T))

-- ---- a list put in front of another

module _ (A B Z : List ℕ) (m : ℕ) (e : A ≡ B) (l : m ≡ length B) where
  pub copied-front : take m (A ++ drop m Z) ≡ B
  copied-front = take_at A (drop m Z) m (ap length e ∙ sym l) ∙ e

-- ---- elimination by row i

module _ (q rows cols i : ℕ) (T : List ℕ) where
  pub pivot-is : rows ≤ 48 → cols ≤ 48 → rows * cols ≡ length T → i < rows → has_pivot rows cols i T ≡ ltb (pivot_of (row_of cols T i)) cols
  pivot-is r k e h = rw (le-leb rows 48 r, le-leb cols 48 k, eq-eqb (rows * cols) (length T) e, lt-ltb i rows h)

  pub pivot-shaped : shaped rows cols T ≡ true → i < rows → has_pivot rows cols i T ≡ ltb (pivot_of (row_of cols T i)) cols
  pivot-shaped e h =
      ap (λ (t : Bool). t && ltb i rows && ltb (pivot_of (row_of cols T i)) cols) e ∙ ap (λ (t : Bool). t && ltb (pivot_of (row_of cols T i)) cols) (lt-ltb i rows h)

  pub no-shape : shaped rows cols T ≡ false → has_pivot rows cols i T ≡ false
  no-shape e = ap (λ (t : Bool). t && ltb i rows && ltb (pivot_of (row_of cols T i)) cols) e

  pub no-row : shaped rows cols T ≡ true → rows ≤ i → has_pivot rows cols i T ≡ false
  no-row e h =
      ap (λ (t : Bool). t && ltb i rows && ltb (pivot_of (row_of cols T i)) cols) e ∙ ap (λ (t : Bool). t && ltb (pivot_of (row_of cols T i)) cols) (le-ltb i rows h)

  -- nothing changes
  pub no-pivot : (from : ℕ) → has_pivot rows cols i T ≡ false → (false ≡ has_pivot rows cols i T) × (T ≡ eliminated_from q rows cols from i T)
  unfolding eliminated_from
  no-pivot from e = (sym e, sym (ap (λ (t : Bool). cond t (cleared_by q rows cols from (row_of cols T i) T) T) e))

  pub some-pivot : (from : ℕ) → has_pivot rows cols i T ≡ true → eliminated_from q rows cols from i T ≡ cleared_by q rows cols from (row_of cols T i) T
  unfolding eliminated_from
  some-pivot from e = ap (λ (t : Bool). cond t (cleared_by q rows cols from (row_of cols T i) T) T) e

  -- with no row left to clear nothing changes
  pub none_left : (from : ℕ) → from ≡ rows → has_pivot rows cols i T ≡ true → eliminated_from q rows cols from i T ≡ T
  unfolding each_row
  none_left from h e =
      let f : List ℕ → List ℕ = cleared q (pivot_of (row_of cols T i)) (row_of cols T i) in
      let z : rows - from ≡ 0 = omega (arith, h) in
      some-pivot from e ∙ ap (λ (n : ℕ). take (from * cols) T ++ each_row f n cols (drop (from * cols) T)) z ∙ take-append-drop (from * cols) T

  pub length-eliminated : (from : ℕ) → rows * cols ≡ length T → from ≤ rows → length (eliminated_from q rows cols from i T) ≡ length T
  unfolding eliminated_from
  length-eliminated from e h = go (has_pivot rows cols i T)
    where
      r : List ℕ
      r = row_of cols T i

      go : (t : Bool) → length (cond t (cleared_by q rows cols from r T) T) ≡ length T
      go true =
          let n : from * cols ≤ length T = rows_fit rows cols from (length T) h e in
          length-append (take (from * cols) T) (each_row (cleared q (pivot_of r) r) (rows - from) cols (drop (from * cols) T))
          ∙ omega (
            arith,
            length-take-le (from * cols) T n,
            length-drop (from * cols) T,
            length-each_row (cleared q (pivot_of r) r) (length-cleared q (pivot_of r) r) cols (rows - from) (drop (from * cols) T)
                (rest-size rows cols from T h e),
          )
      go false = refl

-- ---- the count of pivots, row by row

pub reduce-next : (q rows cols i : ℕ) (T W : List ℕ) → i < rows → reduced_from q rows cols (rows - i) i T ≡ W
    → reduced_from q rows cols (rows - (i + 1)) (i + 1) (eliminated_from q rows cols (i + 1) i T) ≡ W
unfolding reduced_from
reduce-next q rows cols i T W h e =
    let s : rows - i ≡ suc (rows - (i + 1)) = omega arith in
    sym (ap (λ (k : ℕ). reduced_from q rows cols k i T) s) ∙ e

pub reduce-end : (q rows cols i : ℕ) (T W : List ℕ) → rows ≤ i → reduced_from q rows cols (rows - i) i T ≡ W → T ≡ W
unfolding reduced_from
reduce-end q rows cols i T W h e =
    let s : rows - i ≡ 0 = omega arith in
    sym (ap (λ (k : ℕ). reduced_from q rows cols k i T) s) ∙ e

pub count_next : (q rows cols i n N : ℕ) (T : List ℕ) → i < rows → n + pivots_from q rows cols (rows - i) i T ≡ N
    → n + cond (has_pivot rows cols i T) 1 0 + pivots_from q rows cols (rows - (i + 1)) (i + 1) (eliminated_from q rows cols (i + 1) i T) ≡ N
unfolding pivots_from
count_next q rows cols i n N T h e =
    let s : rows - i ≡ suc (rows - (i + 1)) = omega arith in
    let f : pivots_from q rows cols (rows - i) i T ≡ cond (has_pivot rows cols i T) 1 0 + pivots_from q rows cols (rows - (i + 1)) (i + 1)
    (eliminated_from q rows cols (i + 1) i T) =
    ap (λ (k : ℕ). pivots_from q rows cols k i T) s in
    omega arith

pub count-end : (q rows cols i n N : ℕ) (T : List ℕ) → rows ≤ i → n + pivots_from q rows cols (rows - i) i T ≡ N → n ≡ N
unfolding pivots_from
count-end q rows cols i n N T h e =
    let s : rows - i ≡ 0 = omega arith in
    let f : pivots_from q rows cols (rows - i) i T ≡ 0 = ap (λ (k : ℕ). pivots_from q rows cols k i T) s in
    omega arith

-- ---- a table of another shape: no row has a pivot, and nothing changes

module _ (q rows cols : ℕ) (T : List ℕ) (none : (i : ℕ) → has_pivot rows cols i T ≡ false) where
  pub unshaped-reduced : (k i : ℕ) → T ≡ reduced_from q rows cols k i T
  unfolding reduced_from
  unshaped-reduced zero i = refl
  unshaped-reduced (suc k) i =
      unshaped-reduced k (i + 1) ∙ ap (reduced_from q rows cols k (i + 1)) (no-pivot q rows cols i T (i + 1) (none i)).1

  pub unshaped-count : (k i : ℕ) → 0 ≡ pivots_from q rows cols k i T
  unfolding pivots_from
  unshaped-count zero i = refl
  unshaped-count (suc k) i =
      unshaped-count k (i + 1)
      ∙ ap (pivots_from q rows cols k (i + 1)) (no-pivot q rows cols i T (i + 1) (none i)).1
      ∙ sym (native.Mathlib.Nat.zero-add _)
      ∙ sym (ap (λ (t : Bool). cond t 1 0 + pivots_from q rows cols k (i + 1) (eliminated_from q rows cols (i + 1) i T)) (none i))
