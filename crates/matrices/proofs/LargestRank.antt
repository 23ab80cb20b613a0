-- Modulo a prime the rank is the largest number of linearly independent rows; rows are so just where none is in the span of those before it.
use mathlib.Core.Path.{◌≡◌, refl, sym, ap, ap₂, ◌∙◌, subst}
use mathlib.Core.Bool.{cond}
use mathlib.Core.Logic.{◌↔◌}
use mathlib.Core.List.{List, [], ◌∷◌, ◌++◌, map, map-map, append_assoc}
use Prim.Native.Nat.{ℕ, suc, ◌+◌, ◌-◌, ◌%◌, ◌≤◌, ◌<◌}
use native.Mathlib.Nat.{mod-eq_of_lt}
use native.Mathlib.Omega.{arith}
use lib.Dec.{T}
use lib.ListN.{length, length-append}
use Rattle.residues.specs.Primes.{Prime}
use Rattle.lists.proofs.Searches.{T→true, T-decide}
use Rattle.residues.proofs.PrimeLaws.{prime-pos}
use Rattle.residues.proofs.Congruence.{Cong, of_eq, c_sym, c-trans, cong-zero, zero-cong, cong-one, zero-not-one, minus_number}
use Rattle.lists.specs.Lists.{at, All, zeros}
use Rattle.matrices.specs.Linear.{Vector, comb_n}
use Rattle.matrices.proofs.Notions.{dot_n, dot, InSpan, Independent, Solution, LinearlyIndependent, Selection}
use Rattle.matrices.proofs.Notions.Selection.{none, take, skip}
use Rattle.matrices.specs.Rank.{in_span, rank_over, rank_of}
use Rattle.lists.proofs.Members.{all_snoc, all_left, all_right, all_append, all_both}
use Rattle.matrices.proofs.Vectors.{dot-zeros, dot-zeroed, dot-reduce, dot-reduced, dot-combined}
use Rattle.lists.proofs.ListLaws.{el-zeros, length-zeros}
use Rattle.matrices.proofs.Vectors.{el-comb, el-comb-append, el-comb-zeros, vector-cons, vector-zeros, vector-one}
use Rattle.matrices.proofs.Spans.{comb-is, in-span-iff, span-at, span-dot, span-members, span_last}
use Rattle.matrices.proofs.Duality.{span-unless}
use Rattle.matrices.proofs.RankLaws.{cond-le, cond-most, cond-one-iff, rank-at-most, full-rank-iff, rank-larger-span}
use Rattle.matrices.proofs.Solvability.{Extended, extend, solvable-iff}

-- ---- two meanings of independence

-- what has the product 0 with every row is 0
null-dots : (q : ℕ) → 2 ≤ q → (cs : List ℕ) → ((d : List ℕ) → Vector q (length cs) d → Cong q (dot_n cs d) 0) → All (λ c. c % q ≡ 0) cs
null-dots q two [] f = tt
null-dots q two (c ∷ cs) f = (
  zero-cong q c (c-trans (of_eq (omega (arith, dot-zeroed cs (length cs)))) (f (1 ∷ zeros (length cs)) (vector-one q (length cs) two))),
  null-dots q two cs (λ d v. c-trans (of_eq (omega arith)) (f (0 ∷ d) (vector-cons q (length cs) 0 d (omega arith) v))),
)

-- a row in the span of others gives a combination to 0 that has the coefficient -1
linear-independent : (q n : ℕ) → 2 ≤ q → (G C : List (List ℕ)) → All (Vector q n) G → All (Vector q n) C
    → LinearlyIndependent q n (G ++ C) → Independent q n G C
linear-independent q n two G [] h_g h_c li = tt
linear-independent q n two G (c ∷ C) h_g h_c li = (
  dependent,
  linear-independent q n two (G ++ (c ∷ [])) C (all_snoc (Vector q n) G c h_g h_c.0) h_c.1
      (subst (LinearlyIndependent q n) (sym (append_assoc G (c ∷ []) C)) li),
)
  where
    dependent : InSpan q n G c → ⊥
    dependent w =
        let cs : List ℕ = w.coefficients in
        let ds : List ℕ = (q - 1) ∷ zeros (length C) in
        let null : All (λ c. c % q ≡ 0) (cs ++ ds)
        = li (cs ++ ds) (length-append cs ds ∙ ap₂ ◌+◌ w.one_each (ap suc (length-zeros (length C))) ∙ sym (length-append G (c ∷ C)))
        (comb-is q n (cs ++ ds) (G ++ (c ∷ C)) (zeros n) (all_append (Vector q n) G (c ∷ C) h_g h_c) (vector-zeros q n (omega arith))
        (λ i.
        c-trans
        (of_eq (omega (arith, el-comb-append n cs ds G (c ∷ C) i w.one_each, el-comb n (q - 1) (zeros (length C)) c C i, el-comb-zeros n (length C) C i)))
        (c-trans (minus_number q (q - 1) (at (comb_n n cs G) i) (at c i) (omega arith) (span-at q n G c w i)) (of_eq (sym (el-zeros n i)))))) in
        omega (arith, (all_right (λ c. c % q ≡ 0) cs ds null).0, mod-eq_of_lt {n = q - 1} {m = q} (omega arith))

-- ---- selections

-- what each row has, each selected one has
pub selection-all : (P : List ℕ → Type 0) {C S : List (List ℕ)} → Selection C S → All P S → All P C
selection-all P none h = tt
selection-all P (take k) h = (h.0, selection-all P k h.1)
selection-all P (skip k) h = selection-all P k h.1

-- as many linearly independent rows of S as the rank of S
pub record Largest (q n : ℕ) (S : List (List ℕ)) : Type 0 where
  pub rows : List (List ℕ)
  pub selected : Selection rows S
  pub independent : LinearlyIndependent q n rows
  pub many : length rows ≡ rank_of q n S

-- the same over rows G
record Chosen (q n : ℕ) (G S : List (List ℕ)) : Type 0 where
  rows : List (List ℕ)
  selected : Selection rows S
  full : rank_over q n G rows ≡ length rows
  many : length rows ≡ rank_over q n G S

module _ (q : ℕ) (p : Prime q) (n : ℕ) where
  pos : 0 < q
  pos = prime-pos p

  independent-linear : (S : List (List ℕ)) → All (Vector q n) S → Independent q n [] S → LinearlyIndependent q n S
  independent-linear S h_s i cs e z =
      null-dots q p.two cs
      (λ d v.
      let s : Solution q n [] S d = (solvable-iff q p n [] S tt h_s).1 i d (subst (λ (k : ℕ). Vector q k d) e v) in
      let N : List ℕ = s.N in
      c-trans (of_eq (ap (dot_n cs) (sym (map-map (λ (a : ℕ). a % q) (λ c. dot_n c N) S ∙ s.hits))))
      (c-trans (dot-reduced q cs (map (λ c. dot_n c N) S))
      (c-trans (of_eq (sym (dot-combined n cs S N)))
      (c-trans (c_sym (dot-reduce q (comb_n n cs S) N)) (of_eq (ap (λ (x : List ℕ). dot_n x N) z ∙ dot-zeros n N))))))

  -- no row is in the span of those before it just where only coefficients that are 0 combine the rows to 0
  pub independent-iff : (S : List (List ℕ)) → All (Vector q n) S → Independent q n [] S ↔ LinearlyIndependent q n S
  independent-iff S h_s = (independent-linear S h_s, linear-independent q n p.two [] S tt h_s)

  -- ---- the rank is attained

  choose : (G S : List (List ℕ)) → All (Vector q n) G → All (Vector q n) S → Chosen q n G S
  unfolding rank_over
  choose G [] h_g h_s = record { rows = []; selected = none; full = refl; many = refl }
  choose G (s ∷ S) h_g h_s = go (T-decide (in_span q n G s)) (choose (G ++ (s ∷ [])) S h_gs h_s.1)
    where
      h_gs : All (Vector q n) (G ++ (s ∷ []))
      h_gs = all_snoc (Vector q n) G s h_g h_s.0

      go : Dec (T (in_span q n G s)) → Chosen q n (G ++ (s ∷ [])) S → Chosen q n G (s ∷ S)
      go (yes t) x =
          record {
            rows = x.rows;
            selected = skip x.selected;
            full =
                omega (
                  arith,
                  rank-at-most q n G x.rows,
                  rank-larger-span q p n G (G ++ (s ∷ [])) x.rows h_gs (selection-all (Vector q n) x.selected h_s.1)
                      (all_left (InSpan q n (G ++ (s ∷ []))) G (s ∷ []) (span-members q n pos (G ++ (s ∷ [])) h_gs)),
                );
            many = rw (T→true (in_span q n G s) t) (omega arith);
          }
      go (no f) x =
          let one : ◌≡◌ {A = ℕ} (cond (in_span q n G s) 0 1) 1 = (cond-one-iff (in_span q n G s)).1 f in
          record { rows = s ∷ x.rows; selected = take x.selected; full = omega arith; many = omega arith }

  -- some linearly independent rows of S are as many as its rank
  pub rank-attained : (S : List (List ℕ)) → All (Vector q n) S → Largest q n S
  rank-attained S h_s =
      let x : Chosen q n [] S = choose [] S tt h_s in
      let h : All (Vector q n) x.rows = selection-all (Vector q n) x.selected h_s in
      record {
        rows = x.rows;
        selected = x.selected;
        independent = independent-linear x.rows h ((full-rank-iff q n pos [] x.rows tt h).0 x.full);
        many = x.many;
      }

  -- ---- and no more are linearly independent

  module _ (G : List (List ℕ)) (s x : List ℕ) (h_g : All (Vector q n) G) (hs : Vector q n s) (hx : Vector q n x) where
    -- exchange: x in the span of G and s is in that of G alone, where s is not in that of G and x
    pub span-exchange : ¬ (InSpan q n (G ++ (x ∷ [])) s) → InSpan q n (G ++ (s ∷ [])) x → InSpan q n G x
    span-exchange out w =
        span-unless q p n G x h_g hx
        (λ t.
        let e : Extended q n (G ++ (x ∷ [])) s t.M 0
        = extend q p n (G ++ (x ∷ [])) s (all_snoc (Vector q n) G x h_g hx) hs out t.M t.valid.size 0 in
        let same : List ℕ → Type 0 = λ g. Cong q (dot_n g e.N) (dot_n g t.M) in
        let null : List ℕ → Type 0 = λ g. Cong q (dot_n g e.N) 0 in
        zero-not-one q p.two
        (c-trans
        (c_sym (span-dot q n (G ++ (s ∷ [])) x e.N w
        (all_snoc null G s
        (all_both same (λ g. dot q g t.M ≡ 0) null (λ g c z. c-trans c (cong-zero q (dot_n g t.M) z)) G
        (all_left same G (x ∷ []) e.keeps) t.orthogonal)
        e.hits)))
        (c-trans (all_right same G (x ∷ []) e.keeps).0 (cong-one q p.two (dot_n x t.M) t.one))))

    -- over rows that span G, s and x the rank is at most that over these
    rank-spanning : (H S : List (List ℕ)) → All (Vector q n) H → All (Vector q n) S → All (InSpan q n H) (G ++ (x ∷ [])) → InSpan q n H s
        → rank_over q n H S ≤ rank_over q n ((G ++ (s ∷ [])) ++ (x ∷ [])) S
    rank-spanning H S h_h h_s h w =
        rank-larger-span q p n ((G ++ (s ∷ [])) ++ (x ∷ [])) H S h_h h_s
        (all_snoc (InSpan q n H) (G ++ (s ∷ [])) x
        (all_snoc (InSpan q n H) G s (all_left (InSpan q n H) G (x ∷ []) h) w) (all_right (InSpan q n H) G (x ∷ []) h).0)

  -- over one row more the rank is at most 1 less
  rank-drops-one : (G S : List (List ℕ)) (s : List ℕ) → All (Vector q n) G → All (Vector q n) S → Vector q n s
      → rank_over q n G S ≤ suc (rank_over q n (G ++ (s ∷ [])) S)
  unfolding rank_over
  rank-drops-one G [] s h_g h_s hs = omega arith
  rank-drops-one G (x ∷ S) s h_g h_s hs =
      go (T-decide (in_span q n Gx s)) (rank-drops-one Gx S s h_gx h_s.1 hs)
    where
      Gx : List (List ℕ)
      Gx = G ++ (x ∷ [])

      h_gx : All (Vector q n) Gx
      h_gx = all_snoc (Vector q n) G x h_g h_s.0

      h_gs : All (Vector q n) (G ++ (s ∷ []))
      h_gs = all_snoc (Vector q n) G s h_g hs

      go : Dec (T (in_span q n Gx s)) → rank_over q n Gx S ≤ suc (rank_over q n (Gx ++ (s ∷ [])) S)
          → cond (in_span q n G x) 0 1 + rank_over q n Gx S ≤ suc (cond (in_span q n (G ++ (s ∷ [])) x) 0 1 + rank_over q n ((G ++ (s ∷ [])) ++ (x ∷ [])) S)
      go (yes t) ih =
          omega (
            arith,
            cond-most (in_span q n G x),
            rank-spanning G s x h_g hs h_s.0 Gx S h_gx h_s.1 (span-members q n pos Gx h_gx) ((in-span-iff q n pos Gx s h_gx).0 t),
          )
      go (no f) ih =
          let H : List (List ℕ) = Gx ++ (s ∷ []) in
          let h_h : All (Vector q n) H = all_snoc (Vector q n) Gx s h_gx hs in
          omega (
            arith,
            cond-le (in_span q n G x) (in_span q n (G ++ (s ∷ [])) x)
                (λ t. (in-span-iff q n pos G x h_g).1
                (span-exchange G s x h_g hs h_s.0 (λ w. f ((in-span-iff q n pos Gx s h_gx).1 w)) ((in-span-iff q n pos (G ++ (s ∷ [])) x h_gs).0 t))),
            rank-spanning G s x h_g hs h_s.0 H S h_h h_s.1 (all_left (InSpan q n H) Gx (s ∷ []) (span-members q n pos H h_h)) (span_last q n pos Gx s h_h),
          )

  -- with one row more in front it is not less
  rank-grows : (G S : List (List ℕ)) (s : List ℕ) → All (Vector q n) G → All (Vector q n) S → Vector q n s → rank_over q n G S ≤ rank_over q n G (s ∷ S)
  unfolding rank_over
  rank-grows G S s h_g h_s hs = go (T-decide (in_span q n G s))
    where
      go : Dec (T (in_span q n G s)) → rank_over q n G S ≤ rank_over q n G (s ∷ S)
      go (yes t) =
          omega (
            arith,
            rank-larger-span q p n (G ++ (s ∷ [])) G S h_g h_s
                (all_snoc (InSpan q n G) G s (span-members q n pos G h_g) ((in-span-iff q n pos G s h_g).0 t)),
          )
      go (no f) = omega (arith, (cond-one-iff (in_span q n G s)).1 f, rank-drops-one G S s h_g h_s hs)

  -- some of the rows have at most the rank of all
  pub rank-selection : (G : List (List ℕ)) {C S : List (List ℕ)} → Selection C S → All (Vector q n) G → All (Vector q n) S
      → rank_over q n G C ≤ rank_over q n G S
  unfolding rank_over
  rank-selection G none h_g h_s = omega arith
  rank-selection G (take {c = c} k) h_g h_s = omega (arith, rank-selection (G ++ (c ∷ [])) k (all_snoc (Vector q n) G c h_g h_s.0) h_s.1)
  rank-selection G (skip {c = c} {S = S} k) h_g h_s = omega (arith, rank-selection G k h_g h_s.1, rank-grows G S c h_g h_s.1 h_s.0)

  -- linearly independent rows of S are at most as many as its rank
  pub rank-largest : (S : List (List ℕ)) → All (Vector q n) S → (C : List (List ℕ)) → Selection C S → LinearlyIndependent q n C → length C ≤ rank_of q n S
  rank-largest S h_s C k li =
      let h : All (Vector q n) C = selection-all (Vector q n) k h_s in
      omega (arith, (full-rank-iff q n pos [] C tt h).1 (linear-independent q n p.two [] C tt h li), rank-selection [] k tt h_s)
