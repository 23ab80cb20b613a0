-- What the decoder's sweep leaves: a total is decodable just where its row ends as 0, and then it is minus the value beside it, divided by the unit there.
use Prim.Native.Nat.{ℕ, ◌+◌, ◌-◌, ◌*◌, ◌/◌, ◌%◌, ◌≤◌, ◌<◌}
use mathlib.Core.Path.{◌≡◌, refl, sym, ap, ap₂, ◌∙◌, subst}
use mathlib.Core.Bool.{Bool, true, false, not, ◌&&◌, ◌||◌}
use mathlib.Core.List.{List, [], ◌∷◌, ◌++◌}
use native.Mathlib.Nat.{zero-add, sub-zero, mod-eq_of_lt}
use native.Mathlib.Omega.{arith}
use lib.Dec.{T, T_not, ltb, ltb→lt}
use lib.ListN.{length, length-append, get_or-append}
use lib.Seq.{get_or-append-add}
use borrow.Author.Tests.{ltb-false, not-true}
use Rattle.lists.specs.Bits.{has_bit}
use Rattle.residues.specs.Field.{opposite_of, product_of, inverse_of}
use Rattle.residues.specs.Primes.{Prime}
use Rattle.lists.specs.Search.{all_to}
use Rattle.residues.proofs.PrimeLaws.{prime-pos}
use Rattle.lists.proofs.Searches.{T-ext, T→true, all-at, T-or, all-cong}
use Rattle.residues.proofs.Congruence.{Cong, to-mod, of_eq, c_sym, c-trans, c-mul-left, c-mul-right, cong-zero, cong-one, zero-not-one, residue-mod}
use Rattle.residues.proofs.InverseLaws.{inverse-one}
use Rattle.residues.proofs.Units.{IsUnit}
use Rattle.lists.specs.Lists.{at, All, zeros, tab, picked}
use Rattle.matrices.specs.Linear.{Vector}
use Rattle.matrices.specs.Rank.{in_span}
use Rattle.matrices.specs.Tables.{row_of, pivot_of}
use Rattle.matrices.proofs.Notions.{dot_n, dot}
use Rattle.lists.proofs.ListLaws.{length-zeros, el-zeros, at-tab, length-tab, tab-cong, all-picked, picked-cong}
use Rattle.matrices.proofs.Rows.{pivot-none}
use Rattle.matrices.proofs.Spans.{in-span-iff}
use Rattle.matrices.proofs.Elimination.{Table}
use Rattle.matrices.proofs.MadeVectors.{tab-vector}
use Rattle.cyclic.specs.Network.{Network}
use Rattle.cyclic.specs.Decoding.{relay_row, total_row, kept, kept_rows, decodable, decoded}
use Rattle.cyclic.proofs.NetworkVerdicts.{Sound, relay-row-vector}
use Rattle.cyclic.proofs.DecodingLaws.{kept-vectors, leaving-out, decoded-by, sums-solved, kept-arrived}
use Rattle.networks.specs.Rings.{network_of, arrived_below}
use Rattle.networks.specs.Machine.{Ready}
use Rattle.networks.specs.Grids.{relay_entry, total_entry, entry_of, grid_of}
use Rattle.matrices.specs.Sweeps.{swept_table, swept_values}
use Rattle.networks.proofs.RingLaws.{sound, few-columns}
use Rattle.networks.proofs.GridLaws.{entry-total, entry-relay}
use Rattle.networks.proofs.ValueLaws.{unit_at, unit-low, unit-high}
use Rattle.networks.proofs.GridRows.{row-grid, relay-row, total-row, number-below}
use Rattle.matrices.proofs.Sweeping.{swept-table, pivot-left, values-apart}
use Rattle.matrices.proofs.Rows.{minus}
use Rattle.networks.specs.declared.Ring.{Ring}

-- t is minus v divided by u
quotient_is : (q : ℕ) → Prime q → (u v t : ℕ) → IsUnit q u → Cong q ((q - 1) * v) (u * t) → product_of q (opposite_of q v) (inverse_of q u) ≡ t % q
quotient_is q pr u v t unit e =
    let pos : 0 < q = prime-pos pr in
    let some : u % q ≡ 0 → ⊥
    = λ z. zero-not-one q pr.two (c-trans (of_eq (omega arith)) (c-trans (c_sym (c-mul-right unit.inverse (cong-zero q u z))) unit.one)) in
    let one : Cong q (u * inverse_of q u) 1 = cong-one q pr.two (u * inverse_of q u) (inverse-one q u pr some).1 in
    residue-mod q (opposite_of q v * inverse_of q u) pos
    ∙ to-mod
    (c-trans (c-mul-right (inverse_of q u) (c-trans (minus q pos v) e)) (c-trans (of_eq (omega arith)) (c-trans (c-mul-left t one) (of_eq (omega arith)))))

module _ (R : Ring) (K A : List ℕ) (ready : Ready R K A) (reported : ℕ) (Y : List ℕ) where
  abbrev C : Network
  C = network_of R K A

  ok : Sound (network_of R K A)
  ok = sound R K A ready

  abbrev rows : ℕ
  rows = R.parts + R.size

  abbrev cols : ℕ
  cols = R.size * R.parts + R.rate

  -- the table and the values that the sweep starts from
  abbrev start : List ℕ
  start = grid_of (network_of R K A) 0 0 0 (rows * cols)

  abbrev beside : List ℕ
  beside = zeros R.parts ++ Y

  abbrev units : List ℕ
  units = tab rows (unit_at R.parts)

  start_is : start ≡ tab (rows * cols) (λ t. entry_of (network_of R K A) 0 (t / cols) (t % cols))
  unfolding grid_of
  start_is =
      ap (λ (w : ℕ). tab (rows * cols) (λ t. entry_of (network_of R K A) 0 (0 + t / w) (0 + t % w))) (sub-zero cols)
      ∙ tab-cong (rows * cols) (λ t. entry_of (network_of R K A) 0 (0 + t / cols) (0 + t % cols)) (λ t. entry_of (network_of R K A) 0 (t / cols) (t % cols))
      (λ t l. ap₂ (entry_of (network_of R K A) 0) (zero-add (t / cols)) (zero-add (t % cols)))

  row_is : (r : ℕ) → r < rows → row_of cols start r ≡ tab cols (entry_of (network_of R K A) 0 r)
  row_is r l = ap (λ (T : List ℕ). row_of cols T r) start_is ∙ row-grid rows cols (entry_of (network_of R K A) 0) r l

  total_here : (s : ℕ) → s < R.parts → row_of cols start s ≡ total_row (network_of R K A) s
  total_here s l =
      row_is s (omega arith)
      ∙ tab-cong cols (entry_of (network_of R K A) 0 s) (total_entry (network_of R K A) s) (λ c b. sym (entry-total (network_of R K A) 0 s c refl l))
      ∙ total-row (network_of R K A) s

  relay-here : (j : ℕ) → j < R.size → row_of cols start (R.parts + j) ≡ relay_row (network_of R K A) j
  relay-here j l =
      row_is (R.parts + j) (omega arith)
      ∙ tab-cong cols (entry_of (network_of R K A) 0 (R.parts + j)) (relay_entry (network_of R K A) j)
      (λ c b.
      let z : R.parts + j - R.parts ≡ j = omega arith in
      sym (entry-relay (network_of R K A) 0 (R.parts + j) c refl (omega arith)) ∙ ap (λ (x : ℕ). relay_entry (network_of R K A) x c) z)
      ∙ relay-row (network_of R K A) j

  pub start-table : Table R.q rows cols start
  start-table =
      record {
        few-rows = let a : R.parts ≤ 4 = ready.counted.parts-high in let b : R.size ≤ 8 = ready.counted.size-high in omega arith;
        few-cols = few-columns R ready.counted;
        size = sym (ap length start_is ∙ length-tab (rows * cols) _);
        valid = λ j l.
            subst (Vector R.q cols) (sym (row_is j l)) (tab-vector R.q cols (entry_of (network_of R K A) 0 j)
            (λ c b. number-below (network_of R K A) ok 0 j c));
      }

  abbrev after : ℕ → List ℕ
  after = swept_table R.q rows cols R.parts (has_bit reported) start

  abbrev swept : List ℕ → List ℕ → List ℕ
  swept T v = swept_values R.q rows cols R.parts (has_bit reported) T v R.size

  -- a total, from the values and units that are left
  abbrev total_of : List ℕ → List ℕ → ℕ → ℕ
  total_of ws us s = product_of R.q (opposite_of R.q (at ws s)) (inverse_of R.q (at us s))

  -- ---- what is swept by

  swept-rows : (k : ℕ) → k ≤ R.size
      → picked k (has_bit reported) (λ i. row_of cols start (R.parts + i) ∷ []) ≡ picked k (has_bit reported) (λ i. relay_row (network_of R K A) i ∷ [])
  swept-rows k h = picked-cong k (has_bit reported) (λ i. row_of cols start (R.parts + i)) (relay_row (network_of R K A)) (λ i l t. relay-here i (omega arith))

  -- ---- decodable

  pos : 0 < R.q
  pos = prime-pos ready.prime

  abbrev arrived : List (List ℕ)
  arrived = picked R.size (has_bit reported) (λ j. relay_row (network_of R K A) j ∷ [])

  arrived-vectors : All (Vector R.q cols) arrived
  arrived-vectors = all-picked (Vector R.q cols) R.size (has_bit reported) (relay_row (network_of R K A)) (λ j b t. relay-row-vector (network_of R K A) ok j)

  ends-zero : (s : ℕ) → s < R.parts
      → not (ltb (pivot_of (row_of cols (after R.size) s)) cols) ≡ in_span R.q cols (kept_rows (network_of R K A) reported) (total_row (network_of R K A) s)
  ends-zero s l =
      pivot-left R.q ready.prime rows cols R.parts (has_bit reported) start start-table R.size s (omega arith) (omega arith)
      ∙ ap₂ (λ (S : List (List ℕ)) (r : List ℕ). in_span R.q cols S r) (swept-rows R.size (omega arith)) (total_here s l)
      ∙ T-ext _ _
      (λ t.
      (in-span-iff R.q cols pos (kept_rows (network_of R K A) reported) (total_row (network_of R K A) s) (kept-vectors (network_of R K A) ok reported)).1
      ((leaving-out (network_of R K A) ok reported (total_row (network_of R K A) s)).1
      ((in-span-iff R.q cols pos arrived (total_row (network_of R K A) s) arrived-vectors).0 t)))
      (λ t.
      (in-span-iff R.q cols pos arrived (total_row (network_of R K A) s) arrived-vectors).1
      ((leaving-out (network_of R K A) ok reported (total_row (network_of R K A) s)).0
      ((in-span-iff R.q cols pos (kept_rows (network_of R K A) reported) (total_row (network_of R K A) s) (kept-vectors (network_of R K A) ok reported)).0 t)))

  pub decodable-swept : all_to R.parts (λ s. not (ltb (pivot_of (row_of cols (after R.size) s)) cols)) ≡ decodable (network_of R K A) reported
  unfolding decodable
  decodable-swept =
      all-cong R.parts (λ s. not (ltb (pivot_of (row_of cols (after R.size) s)) cols))
      (λ s. in_span R.q cols (kept_rows (network_of R K A) reported) (total_row (network_of R K A) s)) ends-zero

  -- a relay is kept just where its row is not 0 when its turn comes
  pub kept-swept : (j : ℕ) → j < R.size → kept (network_of R K A) reported j ≡ (has_bit reported j && ltb (pivot_of (row_of cols (after j) (R.parts + j))) cols)
  unfolding kept
  kept-swept j l =
      ap (λ (b : Bool). has_bit reported j && not b)
      (sym (pivot-left R.q ready.prime rows cols R.parts (has_bit reported) start start-table j (R.parts + j) (omega arith) (omega arith)
      ∙ ap₂ (λ (S : List (List ℕ)) (r : List ℕ). in_span R.q cols S r) (swept-rows j (omega arith)) (relay-here j l)))
      ∙ ap (λ (b : Bool). has_bit reported j && b) (twice (ltb (pivot_of (row_of cols (after j) (R.parts + j))) cols))
    where
      twice : (b : Bool) → not (not b) ≡ b
      twice true = refl
      twice false = refl

  -- ---- decoded

  module _ (many : length Y ≡ R.size) (below : T (arrived_below R.q R.size reported Y)) where
    pub beside-size : length beside ≡ rows
    beside-size = length-append (zeros R.parts) Y ∙ ap₂ ◌+◌ (length-zeros R.parts) many

    beside-total : (s : ℕ) → s < R.parts → at beside s ≡ 0
    beside-total s l = get_or-append (zeros R.parts) Y 0 s (omega (arith, length-zeros R.parts)) ∙ el-zeros R.parts s

    beside-relay : (j : ℕ) → at beside (R.parts + j) ≡ at Y j
    beside-relay j = ap (λ (n : ℕ). at beside (n + j)) (sym (length-zeros R.parts)) ∙ get_or-append-add (zeros R.parts) Y j 0

    arrived-below : (j : ℕ) → j < R.size → T (has_bit reported j) → at Y j < R.q
    arrived-below j l t =
        go (T-or (not (has_bit reported j)) (ltb (at Y j) R.q) (all-at R.size (λ j. not (has_bit reported j) || ltb (at Y j) R.q) below j l))
      where
        open-or : T (not (has_bit reported j)) → at Y j < R.q
        open-or n = absurd (T_not (has_bit reported j) n t)

        go : mathlib.Core.Logic.◌⊎◌ (T (not (has_bit reported j))) (T (ltb (at Y j) R.q)) → at Y j < R.q
        go = mathlib.Core.Logic.⊎_elim open-or (ltb→lt (at Y j) R.q)

    pub decoded-swept : T (decodable (network_of R K A) reported) → (s : ℕ) → s < R.parts
        → total_of (swept start beside) (swept start units) s ≡ decoded (network_of R K A) reported Y s
    unfolding kept
    decoded-swept t s l =
        let (M, _, hits) = sums-solved (network_of R K A) ok reported Y (λ j b k. arrived-below j b (kept-arrived (network_of R K A) ok reported j k)) in
        let all : T (all_to R.parts (λ s. not (ltb (pivot_of (row_of cols (after R.size) s)) cols))) = subst T (sym decodable-swept) t in
        let here : T (not (ltb (pivot_of (row_of cols (after R.size) s)) cols))
        = all-at R.parts (λ s. not (ltb (pivot_of (row_of cols (after R.size) s)) cols)) all s l in
        let big : cols ≤ pivot_of (row_of cols (after R.size) s)
        = ltb-false _ _ (not-true _ (T→true _ here)) in
        let tab_k : Table R.q rows cols (after R.size)
        = swept-table R.q ready.prime rows cols R.parts (has_bit reported) start start-table R.size (omega arith) in
        let zero_row : dot_n (row_of cols (after R.size) s) M ≡ 0
        = pivot-none (row_of cols (after R.size) s) (omega (arith, (tab_k.valid s (omega arith)).size)) M in
        let (unit, apart) = values-apart R.q ready.prime rows cols R.parts (has_bit reported) start start-table units beside M
        (length-tab rows _)
        (λ i b. at-tab rows (unit_at R.parts) (R.parts + i) b ∙ sym (unit-high R.parts (R.parts + i) (omega arith)))
        beside-size
        (λ i b k.
        let j : i < R.size = omega arith in
        let k' : T (kept (network_of R K A) reported i)
        = subst T (ap₂ (λ (S : List (List ℕ)) (r : List ℕ). has_bit reported i && not (in_span R.q cols S r)) (swept-rows i (omega arith))
        (relay-here i j)) k in
        ap (λ (r : List ℕ). dot R.q r M) (relay-here i j)
        ∙ hits i j k'
        ∙ sym (mod-eq_of_lt (arrived-below i j (kept-arrived (network_of R K A) ok reported i k')))
        ∙ ap (λ (z : ℕ). z % R.q) (sym (beside-relay i)))
        R.size (omega arith) s (omega arith) (at-tab rows (unit_at R.parts) s (omega arith) ∙ sym (unit-low R.parts s l)) in
        let u : ℕ = at (swept start units) s in
        let v : ℕ = at (swept start beside) s in
        quotient_is R.q ready.prime u v (dot_n (total_row (network_of R K A) s) M) unit
        (c-trans (of_eq (sym (ap (λ (z : ℕ). z + (R.q - 1) * v) zero_row ∙ zero-add ((R.q - 1) * v))))
        (c-trans apart
        (of_eq
        (ap₂ (λ (r : List ℕ) (z : ℕ). u * (dot_n r M + (R.q - 1) * z)) (total_here s l) (beside-total s l)
        ∙ omega arith))))
        ∙ sym (decoded-by (network_of R K A) ok reported t Y M hits s l)

  -- ---- the same of tables and values that are known by equations

  module _ (T₁ : List ℕ) (n : ℕ) (filled : T₁ ≡ grid_of (network_of R K A) 0 0 0 n) (numbers : n ≡ rows * cols) where
    abbrev first-table : T₁ ≡ start
    first-table = filled ∙ ap (grid_of (network_of R K A) 0 0 0) numbers

    pub answer-is : (T₂ : List ℕ) → T₂ ≡ swept_table R.q rows cols R.parts (has_bit reported) T₁ R.size
        → all_to R.parts (λ s. not (ltb (pivot_of (row_of cols T₂ s)) cols)) ≡ decodable (network_of R K A) reported
    answer-is T₂ e =
        ap (λ (T : List ℕ). all_to R.parts (λ s. not (ltb (pivot_of (row_of cols T s)) cols)))
        (e ∙ ap (λ (T : List ℕ). swept_table R.q rows cols R.parts (has_bit reported) T R.size) first-table)
        ∙ decodable-swept

    pub totals-are : length Y ≡ R.size → T (arrived_below R.q R.size reported Y) → T (decodable (network_of R K A) reported)
        → (w₁ u₁ w₂ u₂ : List ℕ) (l m : ℕ) → w₁ ≡ beside → u₁ ≡ tab l (unit_at R.parts) → l ≡ rows → w₂ ≡ swept T₁ w₁ → u₂ ≡ swept T₁ u₁ → m ≡ R.parts
        → tab m (total_of w₂ u₂) ≡ tab R.parts (decoded (network_of R K A) reported Y)
    totals-are many below t w₁ u₁ w₂ u₂ l m ew eu el e g f =
        ap (λ (k : ℕ). tab k (total_of w₂ u₂)) f
        ∙ ap₂ (λ (w u : List ℕ). tab R.parts (total_of w u)) (e ∙ ap₂ swept first-table ew)
        (g ∙ ap₂ swept first-table (eu ∙ ap (λ (n : ℕ). tab n (unit_at R.parts)) el))
        ∙ tab-cong R.parts (total_of (swept start beside) (swept start units)) (decoded (network_of R K A) reported Y) (λ s l. decoded-swept many below t s l)
