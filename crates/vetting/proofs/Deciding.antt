-- The walk's test decides leaking: so the first pair that it finds is the first that leaks.
use Rattle.std.specs.Prelude.{Option, Some, None}
use mathlib.Core.Path.{◌≡◌, refl, sym, ap, ap₂, ◌∙◌, subst}
use mathlib.Core.Logic.Dec
use mathlib.Core.Logic.{◌↔◌}
use mathlib.Core.Bool.{Bool, true, false, cond}
use mathlib.Core.List.{List, [], ◌∷◌, map}
use Prim.Native.Nat.{ℕ, zero, suc, ◌+◌, ◌-◌, ◌*◌, ◌^◌, ◌≤◌, ◌<◌}
use native.Mathlib.Decide.{dec_lt}
use native.Mathlib.Nat.{add-zero, zero-add}
use native.Mathlib.Omega.{arith}
use lib.Dec.{T}
use lib.ListN.{length}
use Rattle.refusals.specs.declared.Code.{Code}
use Rattle.refusals.specs.Codes.{accepted, first_of}
use Rattle.residues.specs.Primes.{Prime, all_below}
use Rattle.lists.proofs.Searches.{T-ext, T-decide, true→T}
use Rattle.residues.proofs.PrimeLaws.{prime-pos, below_at}
use Rattle.lists.specs.Lists.{All, picked}
use Rattle.matrices.specs.Linear.{Vector}
use Rattle.matrices.proofs.Notions.{InSpan, Independent}
use Rattle.matrices.specs.Tables.{row_of, has_pivot}
use Rattle.lists.proofs.Members.{all_map}
use Rattle.matrices.proofs.Elimination.{Table}
use Rattle.secrecy.specs.Model.{in_coalition, in_cluster, in_either, ZeroSum}
use Rattle.secrecy.specs.Leaks.{leaks, joint_leaks, PairLeak, JointLeak}
use Rattle.secrecy.proofs.RankCondition.{outside, tested, row, summed_row, coalition_rows, watched_rows}
use Rattle.secrecy.proofs.PairLeaks.{leaks-iff, pair-iff, set-leaks-iff, set-iff}
use Rattle.plans.specs.declared.Plan.{Plan}
use Rattle.vetting.specs.declared.Pair.{Pair}
use Rattle.plans.specs.Plans.{users_of, in_bounds}
use Rattle.vetting.specs.Pools.{pool_of}
use Rattle.vetting.specs.Walk.{observers, pairs_with, pairs, InWalk}
use Rattle.vetting.specs.Vet.{leak_check}
use Rattle.vetting.specs.Length.{place_in}
use Rattle.vetting.specs.Joint.{coalitions, joint_check}
use Rattle.vetting.specs.Walking.{base_table, rows_in, joint_mask, watch_mask, table_of, hit, walk, first_hit, walked}
use Rattle.vetting.specs.Walking.{joint_found, found_code}
use Rattle.lists.proofs.BitLaws.{bit-above}
use Rattle.plans.proofs.PlanBounds.{Bounds, bounds-known}
use Rattle.vetting.proofs.PairLists.{pairs-in, all-with, map_with}
use Rattle.vetting.proofs.PickedLaws.{picked-cong}
use Rattle.vetting.proofs.ReducedTables.{table-iff, pivot-iff, of_coalition}
use Rattle.vetting.proofs.WatchLaws.{server-watches, relay-watches, joint-watches, watched_by}
use Rattle.vetting.proofs.BaseRows.{base-row, base_sum, base-table}

-- a walk with the test of some checks finds what the order of these checks names
first_found : (tell : Option Pair → Code) → tell None ≡ accepted → (check : Pair → Bool × Code) → ((p : Pair) → tell (Some p) ≡ (check p).1)
    → (f : ℕ → ℕ → Bool) (l : List Pair) → All (λ p. f p.coalition p.observer ≡ (check p).0) l
    → (n : ℕ) → tell (first_hit f n l).found ≡ first_of (map check l)
unfolding first_hit
first_found tell none check at f [] h n = none
first_found tell none check at f (p ∷ l) h n =
    ap (λ (t : Bool). tell (cond t (walk (Some p) (n + 1)) (first_hit f (n + 1) l)).found) h.0
    ∙ go (check p).0 (first_found tell none check at f l h.1 (n + 1))
  where
    go : (t : Bool) → tell (first_hit f (n + 1) l).found ≡ first_of (map check l)
        → tell (cond t (walk (Some p) (n + 1)) (first_hit f (n + 1) l)).found ≡ cond t (check p).1 (first_of (map check l))
    go true ih = at p
    go false ih = ih

-- and one with the test of leaking looks at the pairs up to the place of the first that leaks
first-place : (P : Plan) (K : List ℕ) (f : ℕ → ℕ → Bool) (l : List Pair)
    → All (λ p. f p.coalition p.observer ≡ leaks (pool_of P K) p.coalition p.observer) l
    → (n : ℕ) → (first_hit f n l).looked ≡ n + place_in (λ p. leaks (pool_of P K) p.coalition p.observer) l
unfolding first_hit place_in
first-place P K f [] h n = sym (add-zero n)
first-place P K f (p ∷ l) h n =
    ap (λ (t : Bool). (cond t (walk (Some p) (n + 1)) (first_hit f (n + 1) l)).looked) h.0
    ∙ go (leaks (pool_of P K) p.coalition p.observer) (first-place P K f l h.1 (n + 1))
  where
    rest : ℕ
    rest = place_in (λ p. leaks (pool_of P K) p.coalition p.observer) l

    go : (t : Bool) → (first_hit f (n + 1) l).looked ≡ n + 1 + rest → (cond t (walk (Some p) (n + 1)) (first_hit f (n + 1) l)).looked ≡ n + cond t 1 (suc rest)
    go true ih = refl
    go false ih = ih ∙ omega arith

-- ---- the test

module _ (P : Plan) (K : List ℕ) (bounds : Bounds P) (symbols : length K ≡ users_of P * P.rate) (prime : Prime P.q)
    (valid : Vector P.q (users_of P * P.rate) K)
    (zs : ZeroSum (pool_of P K)) where
  table : Table P.q (rows_in P) P.rate (base_table P K)
  table = base-table P K symbols prime valid bounds

  module _ (g : ℕ) (low : g < 2 ^ users_of P) where
    member : (j : ℕ) → T (in_coalition g j) → j < users_of P
    member j t = (Dec.not-not (dec_lt j (users_of P))).0 (λ n. absurd (subst T (bit-above g (users_of P) j low (omega arith)) t))

    in_rows : users_of P ≤ rows_in P
    in_rows = omega arith

    in-walk : users_of P ≤ 16
    in-walk = bounds.counts.few-users

    -- of the users that b picks, the rows of the table are those of the pool
    rows_are : (b : ℕ → Bool) → picked (users_of P) b (λ i. row_of P.rate (base_table P K) i ∷ []) ≡ picked (users_of P) b (λ i. row (pool_of P K) i ∷ [])
    rows_are b =
        picked-cong (users_of P) b b (λ i. row_of P.rate (base_table P K) i ∷ []) (λ i. row (pool_of P K) i ∷ [])
        (λ i l. refl) (λ i l. ap (λ (r : List ℕ). r ∷ []) (base-row P K symbols i l))

    abbrev watched : ℕ → ℕ → List (List ℕ)
    watched = watched_by (pool_of P K) g low (row_of P.rate (base_table P K))

    watched-is : (both w : ℕ) → w ≤ P.clusters → watched both w ≡ watched_rows (pool_of P K) g w
    watched-is both zero h =
        server-watches (pool_of P K) g low (row_of P.rate (base_table P K)) both
        ∙ picked-cong P.clusters (tested (pool_of P K) g) (tested (pool_of P K) g)
        (λ u. row_of P.rate (base_table P K) (users_of P + u) ∷ []) (λ u. summed_row (pool_of P K) u ∷ [])
        (λ u l. refl) (λ u l. ap (λ (r : List ℕ). r ∷ []) (base_sum P K symbols u l))
    watched-is both (suc u) h =
        relay-watches (pool_of P K) g low (row_of P.rate (base_table P K)) both u h bounds.counts.some_size
        ∙ rows_are (outside (pool_of P K) (in_cluster (pool_of P K) u) g)

    -- an observer watches the rows C, and a search finds its leak, which there is just where they depend on each other: then the test says what the search does
    test-is : (both w : ℕ) (C : List (List ℕ)) (Leaking : Type 0) (finds : Bool) → watched both w ≡ C → T finds ↔ Leaking
        → (¬ Leaking) ↔ Independent P.q P.rate (coalition_rows (pool_of P K) g) C
        → hit P both (base_table P K) g w ≡ finds
    test-is both w C Leaking finds is search quiet =
        let test = table-iff P.q prime (rows_in P) P.rate (base_table P K) table (users_of P) g in_rows in-walk member
        (watch_mask P.clusters P.size both g w) g in
        let same : Independent P.q P.rate (of_coalition P.q prime (rows_in P) P.rate (base_table P K) table (users_of P) g in_rows in-walk member)
        (watched both w)
        ≡ Independent P.q P.rate (coalition_rows (pool_of P K) g) C
        = ap₂ (Independent P.q P.rate) (rows_are (in_coalition g)) is in
        T-ext (hit P both (base_table P K) g w) finds
        (λ t.
        (Dec.not-not (T-decide finds)).0
        (λ n. test.0 t (subst (λ X. X) (sym same) (quiet.0 (λ k. n (search.1 k))))))
        (λ t. test.1 (λ i. quiet.1 (subst (λ X. X) same i) (search.0 t)))

    -- a user's row in the table of the coalition is not 0 just where it is outside the span of the coalition's
    pub pivot-decides : (j : ℕ) → j < users_of P → T (has_pivot (rows_in P) P.rate j (table_of P.q (rows_in P) P.rate (base_table P K) g))
        ↔ (¬ (InSpan P.q P.rate (coalition_rows (pool_of P K) g) (row (pool_of P K) j)))
    pivot-decides j l =
        subst (λ X. T (has_pivot (rows_in P) P.rate j (table_of P.q (rows_in P) P.rate (base_table P K) g)) ↔ (¬ X))
        (ap₂ (InSpan P.q P.rate) (rows_are (in_coalition g)) (base-row P K symbols j l))
        (pivot-iff P.q prime (rows_in P) P.rate (base_table P K) table (users_of P) g in_rows in-walk member j (omega arith))

    -- a relay or the server
    pub decides : (both w : ℕ) → w ≤ P.clusters → hit P both (base_table P K) g w ≡ leaks (pool_of P K) g w
    decides both w h =
        test-is both w (watched_rows (pool_of P K) g w) (PairLeak (pool_of P K) g w) (leaks (pool_of P K) g w) (watched-is both w h)
        (leaks-iff (pool_of P K) prime valid g w) (pair-iff (pool_of P K) prime valid zs g w)

    -- the joint observer of two clusters
    pub decides-joint : (a b : ℕ) → hit P (joint_mask P.size a b (users_of P)) (base_table P K) g (P.clusters + 1) ≡ joint_leaks (pool_of P K) a b g
    decides-joint a b =
        let either : ℕ → Bool = in_either (pool_of P K) a b in
        test-is (joint_mask P.size a b (users_of P)) (P.clusters + 1)
        (picked (users_of P) (outside (pool_of P K) either g) (λ i. row (pool_of P K) i ∷ []))
        (JointLeak (pool_of P K) a b g) (joint_leaks (pool_of P K) a b g)
        (joint-watches (pool_of P K) g low (row_of P.rate (base_table P K)) a b ∙ rows_are (outside (pool_of P K) either g))
        (set-leaks-iff (pool_of P K) prime valid either g) (set-iff (pool_of P K) prime valid either g)

module _ (P : Plan) (K : List ℕ) (bounds : in_bounds P ≡ true) (sized : length K ≡ users_of P * P.rate) (prime : Prime P.q) (below : all_below P.q K ≡ true)
    (columns : ZeroSum (pool_of P K)) where
  valid : Vector P.q (users_of P * P.rate) K
  valid = record { size = sized; small = λ i k. below_at P.q K (prime-pos prime) (true→T (all_below P.q K) below) i }

  -- the test on one pair decides whether it leaks
  pub pair-verdict : (both g w : ℕ) → g < 2 ^ users_of P → w ≤ P.clusters → hit P both (base_table P K) g w ≡ leaks (pool_of P K) g w
  pair-verdict both g w low = decides P K (bounds-known P bounds) sized prime valid columns g low both w

  -- whether a user's row is not 0 decides whether it is outside the span
  pub pivot-verdict : (g j : ℕ) → g < 2 ^ users_of P → j < users_of P
      → T (has_pivot (rows_in P) P.rate j (table_of P.q (rows_in P) P.rate (base_table P K) g))
      ↔ (¬ (InSpan P.q P.rate (coalition_rows (pool_of P K) g) (row (pool_of P K) j)))
  pivot-verdict g j low = pivot-decides P K (bounds-known P bounds) sized prime valid columns g low j

  -- and that on a coalition with the joint observer of two clusters, whether that leaks
  pub joint-verdict : (a b g : ℕ) → g < 2 ^ users_of P
      → hit P (joint_mask P.size a b (users_of P)) (base_table P K) g (P.clusters + 1) ≡ joint_leaks (pool_of P K) a b g
  joint-verdict a b g low = decides-joint P K (bounds-known P bounds) sized prime valid columns g low a b

  each-pair : (both : ℕ) → All (λ x. hit P both (base_table P K) x.coalition x.observer ≡ leaks (pool_of P K) x.coalition x.observer)
      (pairs P.clusters P.size P.limit)
  each-pair both =
      all_map (λ x. InWalk P x.coalition x.observer)
      (λ x. hit P both (base_table P K) x.coalition x.observer ≡ leaks (pool_of P K) x.coalition x.observer)
      (λ x w. pair-verdict both x.coalition x.observer w.users w.observer)
      (pairs P.clusters P.size P.limit) (pairs-in P)

  pub found-verdict : found_code (walked P 0 (observers P.clusters) (base_table P K)).found
      ≡ first_of (map (leak_check P K) (pairs P.clusters P.size P.limit))
  found-verdict = first_found found_code refl (leak_check P K) (λ p. refl) (hit P 0 (base_table P K)) (pairs P.clusters P.size P.limit) (each-pair 0) 0

  pub found-place : (walked P 0 (observers P.clusters) (base_table P K)).looked
      ≡ place_in (λ p. leaks (pool_of P K) p.coalition p.observer) (pairs P.clusters P.size P.limit)
  found-place = first-place P K (hit P 0 (base_table P K)) (pairs P.clusters P.size P.limit) (each-pair 0) 0 ∙ zero-add _

  -- what the walk with the joint observer finds
  pub joint-first : (a b : ℕ) → joint_found (walked P (joint_mask P.size (a - 1) (b - 1) (users_of P)) ((P.clusters + 1) ∷ []) (base_table P K)).found
      ≡ first_of (map (joint_check P K a b) (coalitions (users_of P) P.limit))
  joint-first a b =
      let both : ℕ = joint_mask P.size (a - 1) (b - 1) (users_of P) in
      let l : List Pair = pairs_with ((P.clusters + 1) ∷ []) P.clusters P.size P.limit in
      first_found joint_found refl (λ p. joint_check P K a b p.coalition) (λ p. refl) (hit P both (base_table P K)) l
      (all-with P (P.clusters + 1)
      (λ p. hit P both (base_table P K) p.coalition p.observer ≡ joint_leaks (pool_of P K) (a - 1) (b - 1) p.coalition)
      (λ g low. joint-verdict (a - 1) (b - 1) g low)) 0
      ∙ ap first_of (map_with P (P.clusters + 1) (joint_check P K a b))
