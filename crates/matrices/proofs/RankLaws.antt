-- Laws of the rank: of rows after others, at most the number of rows, full just for independent rows, and a matter of the span.
use mathlib.Core.Path.{◌≡◌, refl}
use mathlib.Core.Bool.{Bool, true, false, cond}
use mathlib.Core.Logic.{◌↔◌}
use mathlib.Core.List.{List, [], ◌∷◌, ◌++◌, append-nil, append_assoc}
use Prim.Native.Nat.{ℕ, ◌+◌, ◌≤◌, ◌<◌}
use native.Mathlib.Omega.{arith}
use lib.Dec.{T}
use lib.ListN.{length}
use Rattle.residues.specs.Primes.{Prime}
use Rattle.residues.proofs.PrimeLaws.{prime-pos}
use Rattle.lists.specs.Lists.{All}
use Rattle.matrices.specs.Linear.{Vector}
use Rattle.matrices.proofs.Notions.{InSpan, Independent}
use Rattle.matrices.specs.Rank.{in_span, rank_over}
use Rattle.lists.proofs.Members.{all_snoc, all_map}
use Rattle.matrices.proofs.Spans.{in-span-iff, span-members, spans-vectors, spans-snoc}
use Rattle.matrices.proofs.Duality.{span-trans}

-- ---- a row counts 1 where the test fails

-- where one test implies the other it counts at most as much
pub cond-le : (a b : Bool) → (T b → T a) → cond a 0 1 ≤ cond b 0 1
cond-le true b h = omega arith
cond-le false true h = absurd (h tt)
cond-le false false h = omega arith

-- at most 1
pub cond-most : (a : Bool) → cond a 0 1 ≤ 1
cond-most true = omega arith
cond-most false = omega arith

-- 1 just where the test fails
pub cond-one-iff : (a : Bool) → ◌≡◌ {A = ℕ} (cond a 0 1) 1 ↔ (¬ (T a))
cond-one-iff true = ((λ e t. omega arith), (λ f. absurd (f tt)))
cond-one-iff false = ((λ e t. t), (λ f. refl))

-- ---- for every q

module _ (q n : ℕ) where
  -- the rank of rows after others
  pub rank-append : (G A B : List (List ℕ)) → rank_over q n G (A ++ B) ≡ rank_over q n G A + rank_over q n (G ++ A) B
  unfolding rank_over
  rank-append G [] B = rw append-nil (omega arith)
  rank-append G (a ∷ A) B = rw (← append_assoc G (a ∷ []) A) (omega (arith, rank-append (G ++ (a ∷ [])) A B))

  -- it is at most the number of rows
  pub rank-at-most : (G C : List (List ℕ)) → rank_over q n G C ≤ length C
  unfolding rank_over
  rank-at-most G [] = omega arith
  rank-at-most G (c ∷ C) = omega (arith, cond-most (in_span q n G c), rank-at-most (G ++ (c ∷ [])) C)

  -- and it is that number just where the rows are independent
  pub full-rank-iff : 0 < q → (G C : List (List ℕ)) → All (Vector q n) G → All (Vector q n) C
      → (rank_over q n G C ≡ length C) ↔ Independent q n G C
  unfolding rank_over
  full-rank-iff pos G [] h_g h_c = ((λ e. tt), (λ i. refl))
  full-rank-iff pos G (c ∷ C) h_g h_c =
      let rest : (rank_over q n (G ++ (c ∷ [])) C ≡ length C) ↔ Independent q n (G ++ (c ∷ [])) C
      = full-rank-iff pos (G ++ (c ∷ [])) C (all_snoc (Vector q n) G c h_g h_c.0) h_c.1 in
      let test : T (in_span q n G c) ↔ InSpan q n G c = in-span-iff q n pos G c h_g in
      let one : ◌≡◌ {A = ℕ} (cond (in_span q n G c) 0 1) 1 ↔ (¬ (T (in_span q n G c))) = cond-one-iff (in_span q n G c) in
      let most : cond (in_span q n G c) 0 1 ≤ 1 = cond-most (in_span q n G c) in
      let few : rank_over q n (G ++ (c ∷ [])) C ≤ length C = rank-at-most (G ++ (c ∷ [])) C in (
        (λ e. ((λ w. one.0 (omega arith) (test.1 w)), rest.0 (omega arith))),
        (λ i. omega (arith, one.1 (λ t. i.0 (test.0 t)), rest.1 i.1)),
      )

-- ---- modulo a prime

module _ (q : ℕ) (p : Prime q) (n : ℕ) where
  -- over a larger span fewer rows count
  pub rank-larger-span : (G H C : List (List ℕ)) → All (Vector q n) H → All (Vector q n) C → All (InSpan q n H) G
      → rank_over q n H C ≤ rank_over q n G C
  unfolding rank_over
  rank-larger-span G H [] h_h h_c h = omega arith
  rank-larger-span G H (c ∷ C) h_h h_c h =
      let pos : 0 < q = prime-pos p in
      omega (
        arith,
        cond-le (in_span q n H c) (in_span q n G c)
            (λ t. (in-span-iff q n pos H c h_h).1 (span-trans q p n G H c h_h h ((in-span-iff q n pos G c (spans-vectors q n pos G H h_h h)).0 t))),
        rank-larger-span (G ++ (c ∷ [])) (H ++ (c ∷ [])) C (all_snoc (Vector q n) H c h_h h_c.0) h_c.1 (spans-snoc q n pos G H c h_h h_c.0 h),
      )

  -- over lists that have the same span the rank is the same
  pub rank-same-span : (G H C : List (List ℕ)) → All (Vector q n) G → All (Vector q n) H → All (Vector q n) C
      → ((r : List ℕ) → InSpan q n G r ↔ InSpan q n H r) → rank_over q n G C ≡ rank_over q n H C
  rank-same-span G H C h_g h_h h_c f =
      let pos : 0 < q = prime-pos p in
      omega (
        arith,
        rank-larger-span G H C h_h h_c (all_map (InSpan q n G) (InSpan q n H) (λ r. (f r).0) G (span-members q n pos G h_g)),
        rank-larger-span H G C h_g h_c (all_map (InSpan q n H) (InSpan q n G) (λ r. (f r).1) H (span-members q n pos H h_h)),
      )
