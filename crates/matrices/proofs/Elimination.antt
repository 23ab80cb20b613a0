-- The law of elimination. The rows of a table that was eliminated by some of its rows are multiples of the rows, by numbers that have an inverse, modulo the
-- span of those: so are their products with every list that is orthogonal to them, and every product of the new rows is one of the old rows with such a list.
-- So nothing is ever solved for coefficients.
use mathlib.Core.Path.{◌≡◌, refl, sym, ap, ap₂, ◌∙◌, subst}
use mathlib.Core.Bool.{Bool, true, false, cond}
use mathlib.Core.Logic.{◌↔◌}
use mathlib.Core.List.{List, [], ◌∷◌, ◌++◌, map, map-append, append_assoc}
use Prim.Native.Nat.{ℕ, zero, suc, ◌+◌, ◌-◌, ◌*◌, ◌%◌, ◌≤◌, ◌<◌}
use native.Mathlib.Nat.{mod-eq_of_lt, zero-mod}
use native.Mathlib.Decide.{dec_lt, ℕ_discrete}
use native.Mathlib.Omega.{arith}
use lib.Dec.{T, eqb, ltb}
use lib.ListN.{length, drop}
use borrow.Author.Tests.{eq-eqb, ne_eqb, lt-ltb, le-ltb}
use Rattle.residues.specs.Primes.{Prime, all_below}
use Rattle.lists.proofs.Searches.{T→true, not-T→false}
use Rattle.residues.proofs.Congruence.{Cong, to-mod, of_eq, c-refl, c_sym, c-trans, c-add, c-mul-left, cong-one, zero-not-one}
use Rattle.residues.proofs.Units.{IsUnit, unit-one, unit-product, unit-number, unit-zero}
use Rattle.lists.specs.Lists.{at, All, zeros}
use Rattle.matrices.specs.Linear.{Vector, add, scale}
use Rattle.matrices.proofs.Notions.{dot_n, InSpan, Independent}
use Rattle.matrices.specs.Rank.{in_span, rank_over, rank_of}
use Rattle.matrices.specs.Tables.{row_of, rows_of, pivot_of, cleared, has_pivot, cleared_by, eliminated_from, eliminated, pivots_from}
use Rattle.lists.proofs.Members.{all_append, all_left, all_right, all_snoc}
use Rattle.matrices.proofs.Vectors.{dot-right}
use Rattle.matrices.proofs.Spans.{span-dot, in-span-iff}
use Rattle.matrices.proofs.Duality.{orthogonal-cong, span-unless}
use Rattle.matrices.proofs.Steps.{rows_fit, rest-size, length-cleared, length-eliminated, pivot-is, no-pivot, some-pivot}
use Rattle.matrices.proofs.Rows.{multiple_of, pivot-nonzero, pivot-none, dot-cleared, vector-cleared, vector_row, dot-pick, row_before}
use Rattle.matrices.proofs.Rows.{row-after, row-rest, row-each_row, rows-from}

-- a table of at most 48 rows and columns whose rows are symbols
pub record Table (q rows cols : ℕ) (T : List ℕ) : Type 0 where
  pub few-rows : rows ≤ 48
  pub few-cols : cols ≤ 48
  pub size : rows * cols ≡ length T
  pub valid : (j : ℕ) → j < rows → Vector q cols (row_of cols T j)

-- N has the product 0 with each of the rows
abbrev pub Orthogonal : ℕ → List (List ℕ) → List ℕ → Type 0
Orthogonal q S N = All (λ s. Cong q (dot_n s N) 0) S

-- orthogonal to S, and with the products that the rows of U from number `low` on have with N, but for their factors
pub record Pulled (q rows cols low : ℕ) (factor : ℕ → ℕ) (row : ℕ → List ℕ) (S : List (List ℕ)) (U N : List ℕ) : Type 0 where
  pub N' : List ℕ
  pub none : Orthogonal q S N'
  pub same : (j : ℕ) → low ≤ j → j < rows → Cong q (factor j * dot_n (row j) N') (dot_n (row_of cols U j) N)

-- from number `low` on the rows of U are multiples of the rows `row` modulo the span of S
pub record Reduced (q rows cols low : ℕ) (row : ℕ → List ℕ) (S : List (List ℕ)) (U : List ℕ) : Type 0 where
  pub factor : ℕ → ℕ
  pub unit : (j : ℕ) → low ≤ j → j < rows → IsUnit q (factor j)
  pub down : (N : List ℕ) → Orthogonal q S N → (j : ℕ) → low ≤ j → j < rows → Cong q (dot_n (row_of cols U j) N) (factor j * dot_n (row j) N)
  pub up : (N : List ℕ) → Pulled q rows cols low factor row S U N

pub reduced-none : (q rows cols : ℕ) (T : List ℕ) → Reduced q rows cols 0 (row_of cols T) [] T
reduced-none q rows cols T =
    record {
      factor = λ j. 1;
      unit = λ j l k. unit-one;
      down = λ N h j l k. of_eq (omega arith);
      up = λ N. record { N' = N; none = tt; same = λ j l k. of_eq (omega arith) };
    }

-- ---- one row more

-- where y c = 1, to take c d y off d leaves 0
kill-number : (q m y c d : ℕ) → q ≡ m + 1 → Cong q (y * c) 1 → Cong q (d + m * (c * d) * y) 0
kill-number q m y c d em one =
    c-trans (of_eq (omega arith))
    (c-trans
    (c-add (c-refl {a = d}) (c-mul-left (m * d) one))
    (record { up = 0; dn = d; eq = omega (arith, ap (λ (z : ℕ). z * d) em) }))

-- and what takes c d x off a number takes d x off the multiple of it: where x is 0 nothing, by whatever the number is multiplied
multiple-number : (q m y x c d n : ℕ) → Cong q (y * c) 1 → Cong q (multiple_of y x * (n + m * (c * d) * x)) (multiple_of y x * n + m * x * d)
multiple-number q m y x c d n one =
    c-trans (of_eq (omega (arith, ap (λ (z : ℕ). m * (c * d) * z) (multiple-of-it (ℕ_discrete x 0)))))
    (c-trans (c-add (c-refl {a = multiple_of y x * n}) (c-mul-left (m * x * d) one)) (of_eq (omega arith)))
  where
    multiple-of-it : Dec (x ≡ 0) → multiple_of y x * x ≡ y * x
    multiple-of-it (yes e) = rw (eq-eqb x 0 e) (omega (arith, ap (λ (z : ℕ). y * z) e))
    multiple-of-it (no n) = rw (ne_eqb x 0 n)

-- by what has an inverse a row is multiplied in both cases
pub unit-multiple : {q y : ℕ} → IsUnit q y → (x : ℕ) → IsUnit q (multiple_of y x)
unit-multiple {q} {y} u x = go (eqb x 0)
  where
    go : (t : Bool) → IsUnit q (cond t 1 y)
    go true = unit-one
    go false = u

module _ (q rows cols low : ℕ) (row : ℕ → List ℕ) (S : List (List ℕ)) (U : List ℕ) (i : ℕ) (low-i : low ≤ i) (i-rows : i < rows)
    (R : Reduced q rows cols low row S U) where
  -- row i has the product 0 with a list that was pulled back from one with which row i of U has it
  pulled-zero : (N : List ℕ) → Cong q (dot_n (row_of cols U i) N) 0 → Cong q (dot_n (row i) (R.up N).N') 0
  pulled-zero N z = (unit-zero (R.unit i low-i i-rows) (dot_n (row i) (R.up N).N')).0 (c-trans ((R.up N).same i low-i i-rows) z)

  -- row i of U is 0: row i was in the span already
  reduced-same : (low' : ℕ) → low ≤ low' → ((N : List ℕ) → dot_n (row_of cols U i) N ≡ 0) → Reduced q rows cols low' row (S ++ (row i ∷ [])) U
  reduced-same low' h z =
      record {
        factor = R.factor;
        unit = λ j l k. R.unit j (omega arith) k;
        down = λ N o j l k. R.down N (all_left (λ s. Cong q (dot_n s N) 0) S (row i ∷ []) o) j (omega arith) k;
        up = λ N.
            let w = R.up N in
            record {
              N' = w.N';
              none = all_snoc (λ s. Cong q (dot_n s w.N') 0) S (row i) w.none (pulled-zero N (of_eq (z N)));
              same = λ j l k. w.same j (omega arith) k;
            };
      }

  -- the rows of U' are those of U, cleared by row i of U in a column p in which that has an inverse
  module _ (em : 1 ≤ q) (p : ℕ) (U' : List ℕ) (u : IsUnit q (at (row_of cols U i) p)) (low' : ℕ) (h : low ≤ low')
      (hv : (j : ℕ) → low' ≤ j → j < rows → (N : List ℕ) → Cong q (dot_n (row_of cols U' j) N)
      (multiple_of (at (row_of cols U i) p) (at (row_of cols U j) p) * dot_n (row_of cols U j) N + (q - 1) * at (row_of cols U j) p * dot_n (row_of cols U i) N)) where
    multiple : ℕ → ℕ
    multiple j = multiple_of (at (row_of cols U i) p) (at (row_of cols U j) p)

    -- the list with which row i of U has the product 0, and the others what they have, cleared, with N
    moved : List ℕ → List ℕ
    moved N = add N (scale ((q - 1) * (u.inverse * dot_n (row_of cols U i) N)) (zeros p ++ (1 ∷ [])))

    dot-moved : (v N : List ℕ) → dot_n v (moved N) ≡ dot_n v N + (q - 1) * (u.inverse * dot_n (row_of cols U i) N) * at v p
    unfolding moved
    dot-moved v N =
        dot-right v N (zeros p ++ (1 ∷ [])) ((q - 1) * (u.inverse * dot_n (row_of cols U i) N))
        ∙ ap (λ (z : ℕ). dot_n v N + (q - 1) * (u.inverse * dot_n (row_of cols U i) N) * z) (dot-pick p v)

    reduced-step : Reduced q rows cols low' row (S ++ (row i ∷ [])) U'
    unfolding multiple
    reduced-step =
        record {
          factor = λ j. multiple j * R.factor j;
          unit = λ j l k. unit-product (unit-multiple u (at (row_of cols U j) p)) (R.unit j (omega arith) k);
          down = λ N o j l k.
              let o_s : Orthogonal q S N = all_left (λ s. Cong q (dot_n s N) 0) S (row i ∷ []) o in
              let z : Cong q (dot_n (row_of cols U i) N) 0
              = c-trans (R.down N o_s i low-i i-rows)
              ((unit-zero (R.unit i low-i i-rows) (dot_n (row i) N)).1 (all_right (λ s. Cong q (dot_n s N) 0) S (row i ∷ []) o).0) in
              c-trans (hv j l k N)
              (c-trans
              (c-add (c-mul-left (multiple j) (R.down N o_s j (omega arith) k)) (c-mul-left ((q - 1) * at (row_of cols U j) p) z))
              (of_eq (omega arith)));
          up = λ N.
              let w = R.up (moved N) in
              let d : ℕ = dot_n (row_of cols U i) N in
              record {
                N' = w.N';
                none =
                    all_snoc (λ s. Cong q (dot_n s w.N') 0) S (row i) w.none
                    (pulled-zero (moved N)
                    (c-trans (of_eq (dot-moved (row_of cols U i) N)) (kill-number q (q - 1) (at (row_of cols U i) p) u.inverse d (omega arith) u.one)));
                same = λ j l k.
                    c-trans (of_eq (omega arith))
                    (c-trans (c-mul-left (multiple j) (c-trans (w.same j (omega arith) k) (of_eq (dot-moved (row_of cols U j) N))))
                    (c-trans
                    (multiple-number q (q - 1) (at (row_of cols U i) p) (at (row_of cols U j) p) u.inverse d (dot_n (row_of cols U j) N) u.one)
                    (c_sym (hv j l k N))));
              };
        }

-- ---- elimination by row i of a table of symbols modulo a prime, of the rows from number `from` on

module _ (q : ℕ) (pr : Prime q) (rows cols from : ℕ) (U : List ℕ) (tab : Table q rows cols U) (from-rows : from ≤ rows) (i : ℕ) (i-rows : i < rows) where
  pos : 0 < q
  pos = omega (arith, pr.two)

  r : List ℕ
  r = row_of cols U i

  r-size : length r ≡ cols
  unfolding r
  r-size = (tab.valid i i-rows).size

  pivot-here : has_pivot rows cols i U ≡ ltb (pivot_of r) cols
  unfolding r
  pivot-here = pivot-is q rows cols i U tab.few-rows tab.few-cols tab.size i-rows

  fits : from * cols ≤ length U
  fits = rows_fit rows cols from (length U) from-rows tab.size

  is-cleared : pivot_of r < cols → eliminated_from q rows cols from i U ≡ cleared_by q rows cols from r U
  unfolding r
  is-cleared h = some-pivot q rows cols i U from (pivot-here ∙ lt-ltb (pivot_of r) cols h)

  is_same : cols ≤ pivot_of r → eliminated_from q rows cols from i U ≡ U
  unfolding r
  is_same h = sym (no-pivot q rows cols i U from (pivot-here ∙ le-ltb (pivot_of r) cols h)).1

  before : pivot_of r < cols → (j : ℕ) → j < from → row_of cols (eliminated_from q rows cols from i U) j ≡ row_of cols U j
  before h j l = ap (λ (X : List ℕ). row_of cols X j) (is-cleared h) ∙ row_before cols from U fits _ j l

  after : pivot_of r < cols → (j : ℕ) → from ≤ j → j < rows → row_of cols (eliminated_from q rows cols from i U) j ≡ cleared q (pivot_of r) r (row_of cols U j)
  after h j l k =
      let e : j ≡ from + (j - from) = omega arith in
      ap₂ (λ (X : List ℕ) (x : ℕ). row_of cols X x) (is-cleared h) e
      ∙ row-after cols from U fits _ (j - from)
      ∙ row-each_row (cleared q (pivot_of r) r) (length-cleared q (pivot_of r) r) cols (rows - from) (drop (from * cols) U)
      (rest-size rows cols from U from-rows tab.size) (j - from) (omega arith)
      ∙ ap (cleared q (pivot_of r) r) (row-rest cols from U (j - from) ∙ ap (row_of cols U) (sym e))

  pub eliminated-table : Table q rows cols (eliminated_from q rows cols from i U)
  eliminated-table = go (dec_lt (pivot_of r) cols)
    where
      go : Dec (pivot_of r < cols) → Table q rows cols (eliminated_from q rows cols from i U)
      go (no n) = subst (Table q rows cols) (sym (is_same (omega arith))) tab
      go (yes h) =
          record {
            few-rows = tab.few-rows;
            few-cols = tab.few-cols;
            size = tab.size ∙ sym (length-eliminated q rows cols i U from tab.size from-rows);
            valid = λ j l. each j l (dec_lt j from);
          }
        where
          each : (j : ℕ) → j < rows → Dec (j < from) → Vector q cols (row_of cols (eliminated_from q rows cols from i U) j)
          each j l (yes k) = subst (Vector q cols) (sym (before h j k)) (tab.valid j l)
          each j l (no k) =
              subst (Vector q cols) (sym (after h j (omega arith) l)) (vector-cleared q pos cols (pivot_of r) r (row_of cols U j) r-size (tab.valid j l))

  -- what a row from `from` on has with any list, where row i is not 0
  pub eliminated-product : pivot_of (row_of cols U i) < cols → (j : ℕ) → from ≤ j → j < rows → (N : List ℕ)
      → Cong q (dot_n (row_of cols (eliminated_from q rows cols from i U) j) N)
      (multiple_of (at (row_of cols U i) (pivot_of (row_of cols U i))) (at (row_of cols U j) (pivot_of (row_of cols U i))) * dot_n (row_of cols U j) N
      + (q - 1) * at (row_of cols U j) (pivot_of (row_of cols U i)) * dot_n (row_of cols U i) N)
  unfolding r
  eliminated-product h j l k N =
      c-trans (of_eq (ap (λ (x : List ℕ). dot_n x N) (after h j l k)))
      (dot-cleared q pos (pivot_of r) r (row_of cols U j) N ((tab.valid j k).size ∙ sym r-size))

  -- the number of row i at its pivot has an inverse
  pub pivot-unit : pivot_of (row_of cols U i) < cols → IsUnit q (at (row_of cols U i) (pivot_of (row_of cols U i)))
  pivot-unit h =
      unit-number pr ((tab.valid i i-rows).small (pivot_of (row_of cols U i)) h) (pivot-nonzero (row_of cols U i) (omega (arith, (tab.valid i i-rows).size)))

  -- the rows from `from` on are now rows modulo one row more
  pub eliminated-reduced : (low : ℕ) (row : ℕ → List ℕ) (S : List (List ℕ)) → low ≤ i → Reduced q rows cols low row S U → (low' : ℕ) → low ≤ low' → from ≤ low'
      → Reduced q rows cols low' row (S ++ (row i ∷ [])) (eliminated_from q rows cols from i U)
  unfolding r
  eliminated-reduced low row S low-i R low' l f = go (dec_lt (pivot_of r) cols)
    where
      go : Dec (pivot_of r < cols) → Reduced q rows cols low' row (S ++ (row i ∷ [])) (eliminated_from q rows cols from i U)
      go (no n) =
          let h : cols ≤ pivot_of r = omega arith in
          subst (Reduced q rows cols low' row (S ++ (row i ∷ []))) (sym (is_same h))
          (reduced-same q rows cols low row S U i low-i i-rows R low' l (pivot-none r (omega (arith, (tab.valid i i-rows).size))))
      go (yes h) =
          reduced-step q rows cols low row S U i low-i i-rows R pos (pivot_of r) (eliminated_from q rows cols from i U)
          (pivot-unit h) low' l
          (λ j k g N. eliminated-product h j (omega arith) g N)

-- a table keeps its length
pub eliminated-length : (q rows cols i : ℕ) (T : List ℕ) → rows * cols ≡ length T → length (eliminated q rows cols i T) ≡ length T
eliminated-length q rows cols i T e = length-eliminated q rows cols i T 0 e (omega arith)

-- ---- what a reduced table tells of spans

module _ (q : ℕ) (pr : Prime q) (rows cols low : ℕ) (row : ℕ → List ℕ) (S : List (List ℕ)) (U : List ℕ) (tab : Table q rows cols U)
    (h_s : All (Vector q cols) S) (hrow : (j : ℕ) → j < rows → Vector q cols (row j)) (R : Reduced q rows cols low row S U) where
  -- numbers of rows that are reduced
  abbrev Within : List ℕ → Type 0
  Within J = All (λ j. (low ≤ j) × (j < rows)) J

  within-vectors : (f : ℕ → List ℕ) → ((j : ℕ) → j < rows → Vector q cols (f j)) → (J : List ℕ) → Within J → All (Vector q cols) (map f J)
  within-vectors f h [] w = tt
  within-vectors f h (j ∷ J) w = (h j w.0.1, within-vectors f h J w.1)

  -- where the products of the old rows are 0, those of the new ones are
  carried : (f g : ℕ → List ℕ) (M N : List ℕ) → ((j : ℕ) → low ≤ j → j < rows → Cong q (dot_n (f j) M) 0 → Cong q (dot_n (g j) N) 0) → (J : List ℕ) → Within J
      → Orthogonal q (map f J) M → Orthogonal q (map g J) N
  carried f g M N h [] w o = tt
  carried f g M N h (j ∷ J) w o = (h j w.0.0 w.0.1 o.0, carried f g M N h J w.1 o.1)

  -- a list orthogonal to S has the product 0 with a row after elimination exactly where it had it before
  down-zero : (N : List ℕ) → Orthogonal q S N → (j : ℕ) → low ≤ j → j < rows → Cong q (dot_n (row_of cols U j) N) 0 ↔ Cong q (dot_n (row j) N) 0
  down-zero N o j l k =
      let e = unit-zero (R.unit j l k) (dot_n (row j) N) in
      (λ z. e.0 (c-trans (c_sym (R.down N o j l k)) z), λ z. c-trans (R.down N o j l k) (e.1 z))

  -- and so a list and the one that it was pulled back to
  up-zero : (N : List ℕ) (j : ℕ) → low ≤ j → j < rows → Cong q (dot_n (row_of cols U j) N) 0 ↔ Cong q (dot_n (row j) (R.up N).N') 0
  up-zero N j l k =
      let e = unit-zero (R.unit j l k) (dot_n (row j) (R.up N).N') in
      (λ z. e.0 (c-trans ((R.up N).same j l k) z), λ z. c-trans (c_sym ((R.up N).same j l k)) (e.1 z))

  -- no product is both 0 and 1
  not-zero-and-one : (r M : List ℕ) → Cong q (dot_n r M) 0 → dot_n r M % q ≡ 1 → ⊥
  not-zero-and-one r M z one = zero-not-one q pr.two (c-trans (c_sym z) (cong-one q pr.two (dot_n r M) one))

  -- a row is in the span of others after elimination exactly where it was in the span of those and of the rows eliminated by
  pub reduced-span : (J : List ℕ) → Within J → (j : ℕ) → low ≤ j → j < rows
      → InSpan q cols (map (row_of cols U) J) (row_of cols U j) ↔ InSpan q cols (S ++ map row J) (row j)
  reduced-span J w j l k = (
    (λ v.
        span-unless q pr cols (S ++ map row J) (row j) (all_append (Vector q cols) S (map row J) h_s (within-vectors row hrow J w)) (hrow j k)
        (λ t.
        let o : Orthogonal q (S ++ map row J) t.M = orthogonal-cong q (S ++ map row J) t.M t.orthogonal in
        let o_s : Orthogonal q S t.M = all_left (λ s. Cong q (dot_n s t.M) 0) S (map row J) o in
        not-zero-and-one (row j) t.M
        ((down-zero t.M o_s j l k).0
        (span-dot q cols (map (row_of cols U) J) (row_of cols U j) t.M v
        (carried row (row_of cols U) t.M t.M (λ j l k. (down-zero t.M o_s j l k).1) J w
        (all_right (λ s. Cong q (dot_n s t.M) 0) S (map row J) o))))
        t.one)),
    (λ v.
        span-unless q pr cols (map (row_of cols U) J) (row_of cols U j) (within-vectors (row_of cols U) tab.valid J w) (tab.valid j k)
        (λ t.
        let p = R.up t.M in
        not-zero-and-one (row_of cols U j) t.M
        ((up-zero t.M j l k).1
        (span-dot q cols (S ++ map row J) (row j) p.N' v
        (all_append (λ s. Cong q (dot_n s p.N') 0) S (map row J) p.none
        (carried (row_of cols U) row t.M p.N' (λ j l k. (up-zero t.M j l k).0) J w
        (orthogonal-cong q (map (row_of cols U) J) t.M t.orthogonal)))))
        t.one)),
  )

  -- so rows are independent over others exactly where they were independent over those and the rows eliminated by
  pub reduced-independent : (A J : List ℕ) → Within A → Within J
      → Independent q cols (map (row_of cols U) A) (map (row_of cols U) J) ↔ Independent q cols (S ++ map row A) (map row J)
  reduced-independent A [] a w = (λ t. tt, λ t. tt)
  reduced-independent A (j ∷ J) a w =
      let here = reduced-span A a j w.0.0 w.0.1 in
      let next = reduced-independent (A ++ (j ∷ [])) J (all_snoc (λ j. (low ≤ j) × (j < rows)) A j a w.0) w.1 in
      let before : map (row_of cols U) (A ++ (j ∷ [])) ≡ map (row_of cols U) A ++ (row_of cols U j ∷ []) = map-append (row_of cols U) A (j ∷ []) in
      let after : S ++ map row (A ++ (j ∷ [])) ≡ (S ++ map row A) ++ (row j ∷ [])
      = ap (λ (X : List (List ℕ)). S ++ X) (map-append row A (j ∷ [])) ∙ sym (append_assoc S (map row A) (row j ∷ [])) in (
        (λ t. (
          (λ v. t.0 (here.1 v)),
          subst (λ (G : List (List ℕ)). Independent q cols G (map row J)) after
              (next.0 (subst (λ (G : List (List ℕ)). Independent q cols G (map (row_of cols U) J)) (sym before) t.1)),
        )),
        (λ t. (
          (λ v. t.0 (here.0 v)),
          subst (λ (G : List (List ℕ)). Independent q cols G (map (row_of cols U) J)) before
              (next.1 (subst (λ (G : List (List ℕ)). Independent q cols G (map row J)) (sym after) t.1)),
        )),
      )

  -- a row has no pivot exactly where it was in the span of the rows eliminated by
  pub pivot-outside : (j : ℕ) → low ≤ j → j < rows → ◌≡◌ {A = ℕ} (cond (has_pivot rows cols j U) 1 0) (cond (in_span q cols S (row j)) 0 1)
  pivot-outside j l k = go (dec_lt (pivot_of (row_of cols U j)) cols)
    where
      pos' : 0 < q
      pos' = omega (arith, pr.two)

      here : has_pivot rows cols j U ≡ ltb (pivot_of (row_of cols U j)) cols
      here = pivot-is q rows cols j U tab.few-rows tab.few-cols tab.size k

      -- with a list that picks the pivot out
      outside : pivot_of (row_of cols U j) < cols → T (in_span q cols S (row j)) → ⊥
      outside h t =
          let p : ℕ = pivot_of (row_of cols U j) in
          let w = R.up (zeros p ++ (1 ∷ [])) in
          let v : InSpan q cols S (row j) = (in-span-iff q cols pos' S (row j) h_s).0 t in
          let z : Cong q (at (row_of cols U j) p) 0
          = c-trans (of_eq (sym (dot-pick p (row_of cols U j))))
          ((up-zero (zeros p ++ (1 ∷ [])) j l k).1 (span-dot q cols S (row j) w.N' v w.none)) in
          pivot-nonzero (row_of cols U j) (omega (arith, (tab.valid j k).size)) (sym (mod-eq_of_lt ((tab.valid j k).small p h)) ∙ to-mod z ∙ zero-mod q)

      inside : cols ≤ pivot_of (row_of cols U j) → T (in_span q cols S (row j))
      inside h =
          (in-span-iff q cols pos' S (row j) h_s).1
          (span-unless q pr cols S (row j) h_s (hrow j k)
          (λ t.
          not-zero-and-one (row j) t.M
          ((down-zero t.M (orthogonal-cong q S t.M t.orthogonal) j l k).0
          (of_eq (pivot-none (row_of cols U j) (omega (arith, (tab.valid j k).size)) t.M)))
          t.one))

      go : Dec (pivot_of (row_of cols U j) < cols) → ◌≡◌ {A = ℕ} (cond (has_pivot rows cols j U) 1 0) (cond (in_span q cols S (row j)) 0 1)
      go (yes h) =
          ap (λ (x : Bool). cond x 1 0) (here ∙ lt-ltb (pivot_of (row_of cols U j)) cols h)
          ∙ sym (ap (λ (x : Bool). cond x 0 1) (not-T→false (in_span q cols S (row j)) (outside h)))
      go (no n) =
          ap (λ (x : Bool). cond x 1 0) (here ∙ le-ltb (pivot_of (row_of cols U j)) cols (omega arith))
          ∙ sym (ap (λ (x : Bool). cond x 0 1) (T→true (in_span q cols S (row j)) (inside (omega arith))))

-- ---- the rank

module _ (q : ℕ) (pr : Prime q) (rows cols : ℕ) (T : List ℕ) (valid : (j : ℕ) → j < rows → Vector q cols (row_of cols T j)) where
  -- the pivots from row i on: the rows that are not in the span of S and the rows before them
  pivots-rank : (k i : ℕ) (S : List (List ℕ)) (U : List ℕ) → i + k ≡ rows → All (Vector q cols) S → Table q rows cols U
      → Reduced q rows cols i (row_of cols T) S U → pivots_from q rows cols k i U ≡ rank_over q cols S (rows_of k cols (drop (i * cols) T))
  unfolding pivots_from rank_over rows_of
  pivots-rank zero i S U e h_s tab R = refl
  pivots-rank (suc k) i S U e h_s tab R =
      let h : i < rows = omega arith in
      ap₂ ◌+◌
      (pivot-outside q pr rows cols i (row_of cols T) S U tab h_s valid R i (omega arith) h)
      (pivots-rank k (i + 1) (S ++ (row_of cols T i ∷ [])) (eliminated_from q rows cols (i + 1) i U) (omega arith)
      (all_snoc (Vector q cols) S (row_of cols T i) h_s (valid i h))
      (eliminated-table q pr rows cols (i + 1) U tab (omega arith) i h)
      (eliminated-reduced q pr rows cols (i + 1) U tab (omega arith) i h i (row_of cols T) S (omega arith) R (i + 1) (omega arith) (omega arith)))
      ∙ sym (ap (rank_over q cols S) (rows-from cols k i T))

-- elimination counts the rank
pub pivots-are-rank : (q : ℕ) → Prime q → (rows cols : ℕ) (T : List ℕ) → Table q rows cols T → pivots_from q rows cols rows 0 T ≡ rank_of q cols
    (rows_of rows cols T)
pivots-are-rank q pr rows cols T tab =
    pivots-rank q pr rows cols T tab.valid rows 0 [] T (omega arith) tt tab (reduced-none q rows cols T)
    ∙ ap (λ (n : ℕ). rank_of q cols (rows_of rows cols (drop n T))) {x = 0 * cols} {y = 0} (omega arith)

-- a table whose size and symbols were tested
pub table-of : (q rows cols : ℕ) (T : List ℕ) → 0 < q → rows ≤ 48 → cols ≤ 48 → rows * cols ≡ length T → lib.Dec.T (all_below q T) → Table q rows cols T
table-of q rows cols T pos h k e t =
    record { few-rows = h; few-cols = k; size = e; valid = vector_row q pos rows cols T e t }
