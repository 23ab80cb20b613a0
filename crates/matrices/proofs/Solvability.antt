-- Systems of equations modulo a prime: the rows C can have any products, and the rows G the product 0, just where C is independent over G.
use mathlib.Core.Path.{◌≡◌, refl, sym, ap, ap₂, ◌∙◌, fun_ext}
use mathlib.Core.Logic.{◌⊎◌, inl, inr, ◌↔◌}
use mathlib.Core.List.{List, [], ◌∷◌, ◌++◌, map, head-eq_of_cons-eq, tail-eq_of_cons-eq}
use Prim.Native.Nat.{ℕ, ◌+◌, ◌-◌, ◌*◌, ◌≤◌}
use native.Mathlib.Nat.{mod-eq_of_lt, suc-ne-zero}
use native.Mathlib.Omega.{arith}
use lib.ListN.{length}
use Rattle.residues.specs.Primes.{Prime}
use Rattle.residues.proofs.PrimeLaws.{prime-pos}
use Rattle.residues.proofs.Congruence.{Cong, to-mod, of_eq, c-refl, c-trans, c-add, c-mul-left, cong-zero, zero-cong, cong-one}
use Rattle.lists.specs.Lists.{All, zeros}
use Rattle.matrices.specs.Linear.{Vector, add, scale, reduce}
use Rattle.matrices.proofs.Notions.{dot_n, dot, InSpan, Separated, Independent, Solution}
use Rattle.lists.proofs.Members.{all_snoc, all_left, all_right, all_made, all_map, all_both}
use Rattle.matrices.proofs.Vectors.{dot-right, dot-reduced, dot-zeroed}
use Rattle.matrices.proofs.Vectors.{length-add, length-scale, vector-cons, vector-head, vector-tail, vector-reduce, vector-one}
use Rattle.lists.proofs.ListLaws.{length-zeros}
use Rattle.matrices.proofs.Duality.{duality, not-both}

-- ---- one row more

-- x + (v - x) y = v, where y = 1
mend-number : (q m v x y : ℕ) → q ≡ m + 1 → Cong q y 1 → Cong q (x + (v + m * x) * y) v
mend-number q m v x y em h =
    record {
      up = (v + m * x) * h.up;
      dn = x + (v + m * x) * h.dn;
      eq = omega (arith, ap (λ (z : ℕ). z * x) em, ap (λ (z : ℕ). (v + m * x) * z) h.eq);
    }

-- N has with each of S the product that N₀ has, and with r the product v
pub record Extended (q n : ℕ) (S : List (List ℕ)) (r N₀ : List ℕ) (v : ℕ) : Type 0 where
  pub N : List ℕ
  pub size : length N ≡ n
  pub keeps : All (λ s. Cong q (dot_n s N) (dot_n s N₀)) S
  pub hits : Cong q (dot_n r N) v

-- N has with each of G the product that N₀ has, and with the rows of C the products d
record ExtendedBy (q n : ℕ) (G C : List (List ℕ)) (N₀ d : List ℕ) : Type 0 where
  N : List ℕ
  size : length N ≡ n
  keeps : All (λ g. Cong q (dot_n g N) (dot_n g N₀)) G
  hits : map (λ c. dot q c N) C ≡ d

-- a system that can be solved for all products has independent rows
solvable-independent : (q n : ℕ) → 2 ≤ q → (G C : List (List ℕ)) → ((d : List ℕ) → Vector q (length C) d → Solution q n G C d) → Independent q n G C
solvable-independent q n two G [] f = tt
solvable-independent q n two G (c ∷ C) f = (
  (λ w.
      let s : Solution q n G (c ∷ C) (1 ∷ zeros (length C))
      = f (1 ∷ zeros (length C)) (vector-one q (length C) two) in
      not-both q n two G c w (record { M = s.N; valid = s.valid; orthogonal = s.none; one = head-eq_of_cons-eq s.hits })),
  solvable-independent q n two (G ++ (c ∷ [])) C
      (λ d v.
      let s : Solution q n G (c ∷ C) (0 ∷ d) = f (0 ∷ d) (vector-cons q (length C) 0 d (omega arith) v) in
      record {
        N = s.N;
        valid = s.valid;
        none = all_snoc (λ g. dot q g s.N ≡ 0) G c s.none (head-eq_of_cons-eq s.hits);
        hits = tail-eq_of_cons-eq s.hits;
      }),
)

module _ (q : ℕ) (p : Prime q) (n : ℕ) where
  -- a row outside the span of S can be given any product without changing those of S
  pub extend : (S : List (List ℕ)) (r : List ℕ) → All (Vector q n) S → Vector q n r → ¬ (InSpan q n S r)
      → (N₀ : List ℕ) → length N₀ ≡ n → (v : ℕ) → Extended q n S r N₀ v
  extend S r h_s hr out N₀ e v = go (duality q p n S r h_s hr)
    where
      k : ℕ
      k = v + (q - 1) * dot_n r N₀

      go : InSpan q n S r ⊎ Separated q n S r → Extended q n S r N₀ v
      go (inl w) = absurd (out w)
      go (inr t) =
          let M : List ℕ = t.M in
          record {
            N = add N₀ (scale k M);
            size = length-add N₀ (scale k M) n e (length-scale k M ∙ t.valid.size);
            keeps =
                all_map (λ s. dot q s M ≡ 0) (λ s. Cong q (dot_n s (add N₀ (scale k M))) (dot_n s N₀))
                (λ s z.
                c-trans (of_eq (dot-right s N₀ M k))
                (c-trans (c-add (c-refl {a = dot_n s N₀}) (c-mul-left k (cong-zero q (dot_n s M) z))) (of_eq (omega arith))))
                S t.orthogonal;
            hits =
                c-trans (of_eq (dot-right r N₀ M k))
                (mend-number q (q - 1) v (dot_n r N₀) (dot_n r M) (omega (arith, p.two)) (cong-one q p.two (dot_n r M) t.one));
          }

  -- ---- row by row

  extend-by : (G C : List (List ℕ)) (N₀ d : List ℕ) → All (Vector q n) G → All (Vector q n) C → Independent q n G C
      → length N₀ ≡ n → Vector q (length C) d → ExtendedBy q n G C N₀ d
  extend-by G [] N₀ [] h_g h_c i e v =
      record { N = N₀; size = e; keeps = all_made (λ g. Cong q (dot_n g N₀) (dot_n g N₀)) G (λ g. c-refl); hits = refl }
  extend-by G [] N₀ (x ∷ d) h_g h_c i e v = absurd (suc-ne-zero (length d) v.size)
  extend-by G (c ∷ C) N₀ [] h_g h_c i e v = absurd (suc-ne-zero (length C) (sym v.size))
  extend-by G (c ∷ C) N₀ (x ∷ d) h_g h_c i e v =
      let one : Extended q n G c N₀ x = extend G c h_g h_c.0 i.0 N₀ e x in
      let all : ExtendedBy q n (G ++ (c ∷ [])) C one.N d
      = extend-by (G ++ (c ∷ [])) C one.N d (all_snoc (Vector q n) G c h_g h_c.0) h_c.1 i.1 one.size (vector-tail q (length C) x d v) in
      let same : List ℕ → Type 0 = λ g. Cong q (dot_n g all.N) (dot_n g one.N) in
      record {
        N = all.N;
        size = all.size;
        keeps =
            all_both same (λ g. Cong q (dot_n g one.N) (dot_n g N₀)) (λ g. Cong q (dot_n g all.N) (dot_n g N₀))
            (λ g. c-trans) G (all_left same G (c ∷ []) all.keeps) one.keeps;
        hits =
            ap₂ ◌∷◌
            (to-mod (c-trans (all_right same G (c ∷ []) all.keeps).0 one.hits) ∙ mod-eq_of_lt (vector-head q (length C) x d v))
            all.hits;
      }

  -- there is a solution for all products of C just where C is independent over G
  pub solvable-iff : (G C : List (List ℕ)) → All (Vector q n) G → All (Vector q n) C
      → ((d : List ℕ) → Vector q (length C) d → Solution q n G C d) ↔ Independent q n G C
  solvable-iff G C h_g h_c = (
    solvable-independent q n p.two G C,
    (λ i d v.
        let x : ExtendedBy q n G C (zeros n) d = extend-by G C (zeros n) d h_g h_c i (length-zeros n) v in
        record {
          N = reduce q x.N;
          valid = vector-reduce q n x.N (prime-pos p) x.size;
          none =
              all_map (λ g. Cong q (dot_n g x.N) (dot_n g (zeros n))) (λ g. dot q g (reduce q x.N) ≡ 0)
              (λ g c. zero-cong q (dot_n g (reduce q x.N)) (c-trans (dot-reduced q g x.N) (c-trans c (of_eq (dot-zeroed g n)))))
              G x.keeps;
          hits = ap (λ (f : List ℕ → ℕ). map f C) (fun_ext (λ c. to-mod (dot-reduced q c x.N))) ∙ x.hits;
        }),
  )
