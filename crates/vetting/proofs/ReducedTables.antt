-- Tables that were eliminated by the rows of a coalition: what rows that depend on each other there tell of the rows of the table.
use mathlib.Core.Path.{◌≡◌, refl, sym, ap, ap₂, ◌∙◌, subst}
use mathlib.Core.Logic.{◌↔◌}
use mathlib.Core.Bool.{Bool, true, false, cond, not}
use mathlib.Core.List.{List, [], ◌∷◌, ◌++◌, map, append-nil}
use Prim.Native.Nat.{ℕ, zero, suc, ◌+◌, ◌≤◌, ◌<◌}
use native.Mathlib.Decide.{ℕ_discrete}
use native.Mathlib.Omega.{arith}
use lib.Dec.{T, eqb}
use lib.ListN.{length}
use borrow.Author.Tests.{eq-eqb, ne_eqb}
use Rattle.residues.specs.Primes.{Prime}
use Rattle.residues.proofs.PrimeLaws.{prime-pos}
use Rattle.lists.specs.Lists.{All, picked}
use Rattle.matrices.specs.Linear.{Vector}
use Rattle.matrices.proofs.Notions.{InSpan, Independent}
use Rattle.matrices.specs.Rank.{in_span, rank_over, rank_of}
use Rattle.matrices.specs.Tables.{row_of, has_pivot, pivots_from}
use Rattle.lists.proofs.Members.{all_left, all_right, all_snoc}
use Rattle.matrices.proofs.Spans.{span-members, in-span-iff}
use Rattle.matrices.proofs.Duality.{span-trans}
use Rattle.matrices.proofs.RankLaws.{full-rank-iff, rank-larger-span, rank-at-most}
use Rattle.matrices.proofs.Elimination.{Table, Reduced, reduced-none, eliminated-table, eliminated-reduced, reduced-independent, pivot-outside, pivots-are-rank}
use Rattle.matrices.proofs.Elimination.{table-of}
use Rattle.lists.specs.Sums.{how_many}
use Rattle.secrecy.specs.Model.{in_coalition}
use Rattle.lists.proofs.ListLaws.{all-picked, picked_all, length-picked, map-picked, many-most}
use Rattle.vetting.specs.Walking.{members_from, reduced_by, table_of, chosen, dependent}
use Rattle.vetting.proofs.PickedLaws.{flat, flat-picked, length-flat, rows-flat, below-flat}

-- ---- the members of a coalition

module _ (Q : ℕ → Type 0) (g : ℕ) where
  pub members-all : ((j : ℕ) → T (in_coalition g j) → Q j) → (k i : ℕ) → All Q (members_from k i g)
  unfolding members_from
  members-all h zero i = tt
  members-all h (suc k) i = go (in_coalition g i) (h i) (members-all h k (i + 1))
    where
      go : (t : Bool) → (T t → Q i) → All Q (members_from k (i + 1) g) → All Q (cond t (i ∷ members_from k (i + 1) g) (members_from k (i + 1) g))
      go true f rest = (f tt, rest)
      go false f rest = rest

  pub members-has : (k i : ℕ) → All Q (members_from k i g) → (j : ℕ) → i ≤ j → j < i + k → T (in_coalition g j) → Q j
  unfolding members_from
  members-has zero i h j l k t = absurd (omega arith)
  members-has (suc k) i h j l m t =
      go (in_coalition g i) (ℕ_discrete j i) refl h (λ a n. members-has k (i + 1) a j (omega arith) (omega arith) t)
    where
      go : (s : Bool) → Dec (j ≡ i) → s ≡ in_coalition g i → All Q (cond s (i ∷ members_from k (i + 1) g) (members_from k (i + 1) g))
          → (All Q (members_from k (i + 1) g) → ¬ (j ≡ i) → Q j) → Q j
      go true (yes e) b a rest = subst Q (sym e) a.0
      go true (no n) b a rest = rest a.1 n
      go false (yes e) b a rest = absurd (subst T (ap (in_coalition g) e ∙ sym b) t)
      go false (no n) b a rest = rest a n

-- ---- rows that have the same span

module _ (q : ℕ) (pr : Prime q) (n : ℕ) where
  pub independent-larger : (G H C : List (List ℕ)) → All (Vector q n) G → All (Vector q n) H → All (Vector q n) C → All (InSpan q n H) G
      → Independent q n H C → Independent q n G C
  independent-larger G H C h_g h_h h_c s i =
      (full-rank-iff q n (prime-pos pr) G C h_g h_c).0
      (omega (arith, (full-rank-iff q n (prime-pos pr) H C h_h h_c).1 i, rank-larger-span q pr n G H C h_h h_c s, rank-at-most q n G C))

-- ---- the rows of a table that are chosen

-- one of two tests passes
one-iff : (a b : Bool) → ◌≡◌ {A = ℕ} (cond a 1 0) (cond b 0 1) → T a ↔ (¬ (T b))
one-iff true true e = absurd (omega arith)
one-iff true false e = ((λ t s. s), (λ n. tt))
one-iff false true e = ((λ t. absurd t), (λ n. n tt))
one-iff false false e = absurd (omega arith)

unequal-iff : (a b : ℕ) → T (not (eqb a b)) ↔ (¬ (a ≡ b))
unequal-iff a b = (
  (λ t e. absurd (subst (λ (c : Bool). T (not c)) (eq-eqb a b e) t)),
  (λ n. subst (λ (c : Bool). T (not c)) (sym (ne_eqb a b n)) tt),
)

module _ (q : ℕ) (pr : Prime q) (rows cols : ℕ) (U : List ℕ) (table : Table q rows cols U) (watch skip : ℕ) where
  -- their numbers, and the rows
  abbrev pub numbers : List ℕ
  numbers = picked rows (chosen watch skip) (λ i. i ∷ [])

  rows_chosen : List (List ℕ)
  rows_chosen = map (row_of cols U) numbers

  are-picked : rows_chosen ≡ picked rows (chosen watch skip) (λ i. row_of cols U i ∷ [])
  unfolding rows_chosen
  are-picked = map-picked rows (chosen watch skip) (row_of cols U) (λ i. i)

  are-vectors : All (Vector q cols) rows_chosen
  are-vectors =
      subst (All (Vector q cols)) (sym are-picked) (all-picked (Vector q cols) rows (chosen watch skip) (row_of cols U) (λ i l t. table.valid i l))

  counted : how_many rows (chosen watch skip) ≡ length rows_chosen
  counted = sym (ap length are-picked ∙ length-picked rows (chosen watch skip) (row_of cols U))

  table-chosen : Table q (length rows_chosen) cols (flat rows_chosen)
  table-chosen =
      table-of q (length rows_chosen) cols (flat rows_chosen) (prime-pos pr)
      (omega (arith, counted, many-most (chosen watch skip) rows, table.few-rows)) table.few-cols
      (sym (length-flat q cols rows_chosen are-vectors)) (below-flat q cols rows_chosen are-vectors)

  pivots-chosen : (n : ℕ) → n ≡ length rows_chosen
      → pivots_from q n cols n 0 (picked rows (chosen watch skip) (row_of cols U)) ≡ rank_over q cols [] rows_chosen
  pivots-chosen n e =
      ap₂ (λ (k : ℕ) (x : List ℕ). pivots_from q k cols k 0 x) e (flat-picked rows (chosen watch skip) (row_of cols U) ∙ ap flat (sym are-picked))
      ∙ pivots-are-rank q pr (length rows_chosen) cols (flat rows_chosen) table-chosen
      ∙ ap (rank_of q cols) (rows-flat q cols rows_chosen are-vectors)

  -- they depend on each other where the test says so
  pub dependent-iff : T (dependent q rows cols watch skip U) ↔ (¬ (Independent q cols [] (map (row_of cols U) numbers)))
  unfolding dependent rows_chosen
  dependent-iff =
      let n : ℕ = how_many rows (chosen watch skip) in
      let test = unequal-iff (pivots_from q n cols n 0 (picked rows (chosen watch skip) (row_of cols U))) n in
      let full = full-rank-iff q cols (prime-pos pr) [] rows_chosen tt are-vectors in
      let e = pivots-chosen n counted in (
        (λ t i. test.0 t (e ∙ full.1 i ∙ sym counted)),
        (λ d. test.1 (λ x. d (full.0 (sym e ∙ x ∙ counted)))),
      )

-- ---- a table that was eliminated by the rows of a coalition

module _ (q : ℕ) (pr : Prime q) (rows cols : ℕ) (U : List ℕ) (table : Table q rows cols U) where
  -- the rows that it was eliminated by
  abbrev pub member_rows : List ℕ → List (List ℕ)
  member_rows [] = []
  member_rows (i ∷ is) = member_rows is ++ (row_of cols U i ∷ [])

  module _ (Q : List ℕ → Type 0) where
    rows_all : (is : List ℕ) → All (λ i. Q (row_of cols U i)) is → All Q (member_rows is)
    rows_all [] h = tt
    rows_all (i ∷ is) h = all_snoc Q (member_rows is) (row_of cols U i) (rows_all is h.1) h.0

    all-rows : (is : List ℕ) → All Q (member_rows is) → All (λ i. Q (row_of cols U i)) is
    all-rows [] h = tt
    all-rows (i ∷ is) h =
        ((all_right Q (member_rows is) (row_of cols U i ∷ []) h).0, all-rows is (all_left Q (member_rows is) (row_of cols U i ∷ []) h))

  reduced-table : (is : List ℕ) → All (λ i. i < rows) is
      → Table q rows cols (reduced_by q rows cols is U) × Reduced q rows cols 0 (row_of cols U) (member_rows is) (reduced_by q rows cols is U)
  unfolding reduced_by
  reduced-table [] h = (table, reduced-none q rows cols U)
  reduced-table (i ∷ is) h =
      let (t, r) = reduced-table is h.1 in (
        eliminated-table q pr rows cols 0 (reduced_by q rows cols is U) t (omega arith) i h.0,
        eliminated-reduced q pr rows cols 0 (reduced_by q rows cols is U) t (omega arith) i h.0 0 (row_of cols U) (member_rows is) (omega arith) r 0
            (omega arith) (omega arith),
      )

  -- the coalition's members are rows of the table, and are found among the first 16
  module _ (n g : ℕ) (n-rows : n ≤ rows) (n-few : n ≤ 16) (members : (j : ℕ) → T (in_coalition g j) → j < n) where
    abbrev pub of_coalition : List (List ℕ)
    of_coalition = picked n (in_coalition g) (λ i. row_of cols U i ∷ [])

    reduced_rows : List (List ℕ)
    reduced_rows = member_rows (members_from 16 0 g)

    coalition-rows : All (Vector q cols) of_coalition
    coalition-rows = all-picked (Vector q cols) n (in_coalition g) (row_of cols U) (λ i l t. table.valid i (omega arith))

    reduced-rows : All (Vector q cols) reduced_rows
    unfolding reduced_rows
    reduced-rows =
        rows_all (Vector q cols) (members_from 16 0 g)
        (members-all (λ i. Vector q cols (row_of cols U i)) g (λ j t. table.valid j (omega (arith, members j t))) 16 0)

    reduced-in : All (InSpan q cols of_coalition) reduced_rows
    unfolding reduced_rows
    reduced-in =
        rows_all (InSpan q cols of_coalition) (members_from 16 0 g)
        (members-all (λ i. InSpan q cols of_coalition (row_of cols U i)) g
        (λ j t. picked_all (InSpan q cols of_coalition) n (in_coalition g) (row_of cols U) (span-members q cols (prime-pos pr) of_coalition coalition-rows) j
        (members j t) t) 16 0)

    coalition-in : All (InSpan q cols reduced_rows) of_coalition
    unfolding reduced_rows
    coalition-in =
        all-picked (InSpan q cols reduced_rows) n (in_coalition g) (row_of cols U)
        (λ j l t.
        members-has (λ i. InSpan q cols reduced_rows (row_of cols U i)) g 16 0
        (all-rows (InSpan q cols reduced_rows) (members_from 16 0 g) (span-members q cols (prime-pos pr) reduced_rows reduced-rows)) j (omega arith)
        (omega arith) t)

    of-table : Table q rows cols (table_of q rows cols U g) × Reduced q rows cols 0 (row_of cols U) reduced_rows (table_of q rows cols U g)
    unfolding reduced_rows
    of-table = reduced-table (members_from 16 0 g) (members-all (λ i. i < rows) g (λ j t. omega (arith, members j t)) 16 0)

    -- a row of its table is not 0 just where that of the first table is outside the span of the coalition's
    pub pivot-iff : (j : ℕ) → j < rows → T (has_pivot rows cols j (table_of q rows cols U g)) ↔ (¬ (InSpan q cols of_coalition (row_of cols U j)))
    pivot-iff j l =
        let (t, r) = of-table in
        let test = one-iff (has_pivot rows cols j (table_of q rows cols U g)) (in_span q cols reduced_rows (row_of cols U j))
        (pivot-outside q pr rows cols 0 (row_of cols U) reduced_rows (table_of q rows cols U g) t reduced-rows table.valid r j (omega arith) l) in
        let found = in-span-iff q cols (prime-pos pr) reduced_rows (row_of cols U j) reduced-rows in (
          (λ p w. test.0 p (found.1 (span-trans q pr cols of_coalition reduced_rows (row_of cols U j) reduced-rows coalition-in w))),
          (λ n. test.1 (λ s. n (span-trans q pr cols reduced_rows of_coalition (row_of cols U j) coalition-rows reduced-in (found.0 s)))),
        )

    -- the rows chosen from its table are dependent just where those of the first table are over the coalition's
    pub table-iff : (watch skip : ℕ) → T (dependent q rows cols watch skip (table_of q rows cols U g))
        ↔ (¬ (Independent q cols of_coalition (picked rows (chosen watch skip) (λ i. row_of cols U i ∷ []))))
    table-iff watch skip =
        let J : List ℕ = picked rows (chosen watch skip) (λ i. i ∷ []) in
        let C : List (List ℕ) = picked rows (chosen watch skip) (λ i. row_of cols U i ∷ []) in
        let h_c : All (Vector q cols) C = all-picked (Vector q cols) rows (chosen watch skip) (row_of cols U) (λ i l t. table.valid i l) in
        let within : All (λ j. (0 ≤ j) × (j < rows)) J = all-picked (λ j. (0 ≤ j) × (j < rows)) rows (chosen watch skip) (λ i. i) (λ i l t. (omega arith, l)) in
        let (t, r) = of-table in
        let test = dependent-iff q pr rows cols (table_of q rows cols U g) t watch skip in
        let over = reduced-independent q pr rows cols 0 (row_of cols U) reduced_rows (table_of q rows cols U g) t reduced-rows table.valid r [] J tt within in
        let same : Independent q cols (reduced_rows ++ []) (map (row_of cols U) J) ≡ Independent q cols reduced_rows C
        = ap₂ (Independent q cols) (append-nil reduced_rows) (map-picked rows (chosen watch skip) (row_of cols U) (λ i. i)) in (
          (λ d i. test.0 d (over.1 (subst (λ X. X) (sym same)
              (independent-larger q pr cols reduced_rows of_coalition C reduced-rows coalition-rows h_c reduced-in i)))),
          (λ n. test.1 (λ i. n (independent-larger q pr cols of_coalition reduced_rows C coalition-rows reduced-rows h_c coalition-in
              (subst (λ X. X) same (over.0 i))))),
        )
