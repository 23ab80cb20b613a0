-- A grid of numbers is the list of its rows, which are those that the theorems speak of; and all its numbers are below q.
use Prim.Native.Nat.{ℕ, zero, suc, ◌+◌, ◌-◌, ◌*◌, ◌/◌, ◌%◌, ◌≤◌, ◌<◌}
use mathlib.Core.Path.{◌≡◌, refl, sym, ap, ap₂, ◌∙◌, subst}
use mathlib.Core.Bool.{Bool, true, false, cond}
use mathlib.Core.List.{List, ◌∷◌, ◌++◌}
use native.Mathlib.Nat.{mod-lt, add-mod_left, add-div_left}
use native.Mathlib.Numerals.{add-one}
use native.Mathlib.Omega.{arith}
use lib.ListN.{length, take, drop, length-drop}
use lib.Seq.{take_at, drop_at, get_or-take, get_or-drop, length-take-le}
use lib.Dec.{eqb, ltb}
use lib.Arith.{digits_lt, digits_div, digits_mod}
use borrow.Author.Tests.{eq-eqb, ne_eqb}
use Rattle.residues.proofs.PrimeLaws.{prime-pos}
use Rattle.lists.specs.Lists.{at, zeros, tab}
use Rattle.matrices.specs.Linear.{Vector}
use Rattle.matrices.specs.Tables.{row_of, rows_of}
use Rattle.matrices.proofs.Elimination.{Table}
use Rattle.lists.proofs.ListLaws.{el-zeros, length-zeros, at-tab, length-tab, tab-cong, tab-at, tab-append}
use Rattle.matrices.proofs.MadeVectors.{tab-vector, entry-below}
use Rattle.cyclic.specs.Network.{Network, symbols, heard, linked, link_of, weight}
use Rattle.cyclic.specs.Decoding.{columns, on_reading, on_source, relay_row, total_row}
use Rattle.cyclic.proofs.NetworkForms.{link_form}
use Rattle.cyclic.proofs.NetworkVerdicts.{Sound, upload_row, upload_source, relay_source}
use Rattle.networks.specs.Grids.{upload_entry, relay_entry, total_entry, entry_of, grid_of}
use Rattle.networks.proofs.GridLaws.{upload-in, upload-other, upload-out, relay-in, relay-out, total-in, total-out}

-- the rows of a grid
pub rows-grid : (rows width : ℕ) (e : ℕ → ℕ → ℕ) → 0 < width
    → rows_of rows width (tab (rows * width) (λ t. e (t / width) (t % width))) ≡ tab rows (λ i. tab width (e i))
unfolding rows_of tab
rows-grid zero width e pos = refl
rows-grid (suc rows) width e pos =
    let F : ℕ → ℕ = λ t. e (t / width) (t % width) in
    let n : suc rows * width ≡ width + rows * width = omega arith in
    let split : tab (suc rows * width) F ≡ tab width F ++ tab (rows * width) (λ k. F (width + k))
    = ap (λ (z : ℕ). tab z F) n ∙ tab-append width (rows * width) F in
    let here : tab width F ≡ tab width (e 0)
    = tab-cong width F (e 0) (λ k l.
    let z : 0 * width + k ≡ k = omega arith in
    ap₂ e (ap (λ (x : ℕ). x / width) (sym z) ∙ digits_div 0 l) (ap (λ (x : ℕ). x % width) (sym z) ∙ digits_mod 0 l)) in
    let there : tab (rows * width) (λ k. F (width + k)) ≡ tab (rows * width) (λ t. e (suc (t / width)) (t % width))
    = tab-cong (rows * width) (λ k. F (width + k)) (λ t. e (suc (t / width)) (t % width))
    (λ k l. ap₂ e (add-div_left k pos ∙ add-one (k / width)) (add-mod_left width k)) in
    ap₂ (λ (x : List ℕ) (y : List (List ℕ)). x ∷ y)
    (ap (take width) split ∙ take_at (tab width F) (tab (rows * width) (λ k. F (width + k))) width (length-tab width F) ∙ here)
    (ap (λ (T : List ℕ). rows_of rows width T)
    (ap (drop width) split ∙ drop_at (tab width F) (tab (rows * width) (λ k. F (width + k))) width (length-tab width F) ∙ there)
    ∙ rows-grid rows width (λ i. e (suc i)) pos)

-- one of them
pub row-grid : (rows width : ℕ) (e : ℕ → ℕ → ℕ) (j : ℕ) → j < rows → row_of width (tab (rows * width) (λ t. e (t / width) (t % width))) j ≡ tab width (e j)
row-grid rows width e j h =
    let T : List ℕ = tab (rows * width) (λ t. e (t / width) (t % width)) in
    let size : length T ≡ rows * width = length-tab (rows * width) (λ t. e (t / width) (t % width)) in
    let n : suc j * width ≤ rows * width = native.Mathlib.Nat.mul-le-mul {n₁ = suc j} {m₁ = width} {n₂ = rows} {m₂ = width} h (omega arith) in
    let d : length (drop (j * width) T) ≡ length T - j * width = length-drop (j * width) T in
    sym (tab-at width (e j) (row_of width T j) (length-take-le width (drop (j * width) T) (omega arith))
    (λ k l.
    sym (get_or-take width (drop (j * width) T) k 0 l
    ∙ get_or-drop (j * width) T k 0
    ∙ at-tab (rows * width) (λ t. e (t / width) (t % width)) (j * width + k) (digits_lt h l)
    ∙ ap₂ e (digits_div j l) (digits_mod j l))))

module _ (C : Network) where
  -- ---- the rows

  upload-front : (k l : ℕ) → tab (symbols C) (upload_entry C k l) ≡ (link_form C k l).on_readings
  upload-front k l = tab-cong (symbols C) (upload_entry C k l) _ (λ c b. go c b (native.Mathlib.Decide.ℕ_discrete (c / C.parts) k))
    where
      go : (c : ℕ) → c < symbols C → Dec (c / C.parts ≡ k) → upload_entry C k l c ≡ cond (eqb (c / C.parts) k) (weight C k l (c % C.parts)) 0
      go c b (yes e) = sym (upload-in C k l c b e) ∙ sym (ap (λ (x : Bool). cond x (weight C k l (c % C.parts)) 0) (eq-eqb (c / C.parts) k e))
      go c b (no e) = sym (upload-other C k l c b e) ∙ sym (ap (λ (x : Bool). cond x (weight C k l (c % C.parts)) 0) (ne_eqb (c / C.parts) k e))

  pub upload-source : (k l : ℕ) → tab C.rate (λ c. upload_entry C k l (symbols C + c)) ≡ upload_source C k l
  upload-source k l =
      tab-cong C.rate (λ c. upload_entry C k l (symbols C + c)) _
      (λ c b.
      sym (upload-out C k l (symbols C + c) (omega arith))
      ∙ (let e : symbols C + c - symbols C ≡ c = omega arith in
      ap (λ (x : ℕ). weight C k l C.parts * at C.table (k * C.rate + x) % C.q) e))

  pub upload-row : (k l : ℕ) → tab (columns C) (upload_entry C k l) ≡ upload_row C k l
  upload-row k l = tab-append (symbols C) C.rate (upload_entry C k l) ∙ ap₂ ◌++◌ (upload-front k l) (upload-source k l)

  pub relay-source : (j : ℕ) → tab C.rate (λ c. relay_entry C j (symbols C + c)) ≡ relay_source C j
  relay-source j =
      tab-cong C.rate (λ c. relay_entry C j (symbols C + c)) (on_source C j)
      (λ c b.
      sym (relay-out C j (symbols C + c) (omega arith))
      ∙ (let e : symbols C + c - symbols C ≡ c = omega arith in ap (on_source C j) e))

  pub relay-row : (j : ℕ) → tab (columns C) (relay_entry C j) ≡ relay_row C j
  unfolding relay_row
  relay-row j =
      tab-append (symbols C) C.rate (relay_entry C j)
      ∙ ap₂ ◌++◌
      (tab-cong (symbols C) (relay_entry C j) (λ c. on_reading C j (c / C.parts) (c % C.parts)) (λ c b. sym (relay-in C j c b)))
      (relay-source j)

  pub total-row : (s : ℕ) → tab (columns C) (total_entry C s) ≡ total_row C s
  unfolding total_row
  total-row s =
      tab-append (symbols C) C.rate (total_entry C s)
      ∙ ap₂ ◌++◌
      (tab-cong (symbols C) (total_entry C s) (λ c. cond (eqb (c % C.parts) s) 1 0) (λ c b. sym (total-in C s c (eqb (c % C.parts) s) b refl)))
      (tab-at C.rate (λ c. total_entry C s (symbols C + c)) (zeros C.rate) (length-zeros C.rate)
      (λ c b. sym (total-out C s (symbols C + c) (omega arith)) ∙ sym (el-zeros C.rate c)))

  -- ---- numbers below q

  module _ (ok : Sound C) where
    pos : 0 < C.q
    pos = prime-pos ok.prime

    weight-below : (k l s : ℕ) → weight C k l s < C.q
    unfolding weight
    weight-below k l s =
        entry-below C.q (C.size * C.links * (C.parts + 1)) C.weights pos ok.weights ((k * C.links + l) * (C.parts + 1) + s)

    pick-below : (b : Bool) (x y : ℕ) → x < C.q → y < C.q → cond b x y < C.q
    pick-below true x y h k = h
    pick-below false x y h k = k

    one_below : 1 < C.q
    one_below = ok.prime.two

    upload-below : (k l c : ℕ) → upload_entry C k l c < C.q
    unfolding upload_entry
    upload-below k l c =
        pick-below (ltb c (symbols C)) _ _ (pick-below (eqb (c / C.parts) k) _ 0 (weight-below k l (c % C.parts)) pos) (mod-lt _ pos)

    relay-below : (j c : ℕ) → relay_entry C j c < C.q
    unfolding relay_entry on_reading on_source
    relay-below j c =
        pick-below (ltb c (symbols C)) _ _
        (pick-below (linked C (c / C.parts) j) _ 0 (weight-below (c / C.parts) (link_of C (c / C.parts) j) (c % C.parts)) pos) (mod-lt _ pos)

    total-below : (s c : ℕ) → total_entry C s c < C.q
    unfolding total_entry
    total-below s c = pick-below (ltb c (symbols C)) _ 0 (pick-below (eqb (c % C.parts) s) 1 0 one_below pos) pos

    pub number-below : (w i c : ℕ) → entry_of C w i c < C.q
    number-below zero i c = pick-below (ltb i C.parts) _ _ (total-below i c) (relay-below (i - C.parts) c)
    number-below (suc j) i c = upload-below (heard C j i) i c

    -- ---- the grid is a table

    pub grid-table : (w first from rows : ℕ) → rows ≤ 48 → columns C ≤ 48 → from < columns C
        → Table C.q rows (columns C - from) (grid_of C w first from (rows * (columns C - from)))
    unfolding grid_of
    grid-table w first from rows h k b =
        let width : ℕ = columns C - from in
        let e : ℕ → ℕ → ℕ = λ i c. entry_of C w (first + i) (from + c) in
        record {
          few-rows = h;
          few-cols = omega arith;
          size = sym (length-tab (rows * width) (λ t. e (t / width) (t % width)));
          valid = λ j l.
              subst (Vector C.q width) (sym (row-grid rows width e j l)) (tab-vector C.q width (e j) (λ c d. number-below w (first + j) (from + c)));
        }

    pub grid-rows : (w first from rows : ℕ) → from < columns C
        → rows_of rows (columns C - from) (grid_of C w first from (rows * (columns C - from))) ≡ tab rows
        (λ i. tab (columns C - from) (λ c. entry_of C w (first + i) (from + c)))
    unfolding grid_of
    grid-rows w first from rows b = rows-grid rows (columns C - from) (λ i c. entry_of C w (first + i) (from + c)) (omega arith)
