-- Duality: modulo a prime, a row is in the span of the rows S, or some M is orthogonal to S and has the product 1 with it; never both.
-- By induction on S, for all r at once, with no pivot: of S = s ∷ S', let M be orthogonal to S', with r·M = 1. If s·M = 0 then M will do.
-- Otherwise let r' = r - s / (s·M). If r' is in the span of S', then r is in that of S. If not, M' is orthogonal to S', with r'·M' = 1, and
-- N = M' - (s·M' / s·M) M is orthogonal to S, with r·N = 1. Minus x is (q - 1) * x.
use mathlib.Core.Path.{◌≡◌, refl, sym, ap, ◌∙◌}
use mathlib.Core.Logic.{◌⊎◌, inl, inr, ⊎_elim}
use mathlib.Core.List.{List, [], ◌∷◌}
use Prim.Native.Nat.{ℕ, zero, suc, ◌+◌, ◌-◌, ◌*◌, ◌%◌, ◌≤◌}
use native.Mathlib.Nat.{mod-eq_of_lt, le_of_eq}
use native.Mathlib.Decide.{ℕ_discrete}
use native.Mathlib.Omega.{arith}
use lib.ListN.{length}
use Rattle.residues.specs.Primes.{Prime}
use Rattle.residues.proofs.PrimeLaws.{prime-pos}
use Rattle.residues.proofs.Congruence.{Cong, to-mod, of_eq, c-refl, c_sym, c-trans, c-add, c-mul-left, cong-zero, zero-cong, cong-one, zero-not-one}
use Rattle.residues.proofs.InverseLaws.{invert}
use Rattle.lists.specs.Lists.{at, All}
use Rattle.matrices.specs.Linear.{Vector, add, scale, comb_n}
use Rattle.matrices.proofs.Notions.{dot_n, dot, InSpan, Separated}
use Rattle.lists.proofs.Members.{all_map, all_both}
use Rattle.matrices.proofs.Vectors.{dot-nil, dot-left, dot-right, dot-fit, el-left, el-comb, fit, vector-fit}
use Rattle.lists.proofs.ListLaws.{el-zeros}
use Rattle.matrices.proofs.Spans.{span-made, span-dot, span-vector, spans-vectors}

-- ---- the three facts of numbers: m is q - 1

-- c = r + (-k) s, so k s + c = r
span-number : (q m k s r c : ℕ) → q ≡ m + 1 → Cong q c (r + m * k * s) → Cong q (k * s + c) r
span-number q m k s r c em h =
    record { up = h.up; dn = k * s + h.dn; eq = omega (arith, ap (λ (z : ℕ). z * (k * s)) em) }

-- c k = 1, so a + (-a k) c = 0
clear-number : (q m k a c : ℕ) → q ≡ m + 1 → Cong q (c * k) 1 → Cong q (a + m * (a * k) * c) 0
clear-number q m k a c em h =
    record {
      up = m * a * h.up;
      dn = a + m * a * h.dn;
      eq = omega (arith, ap (λ (z : ℕ). z * a) em, ap (λ (z : ℕ). m * a * z) h.eq);
    }

-- x = 1 and y + (-k) a = 1, so y + (-a k) x = 1
one_number : (q m k a x y : ℕ) → Cong q x 1 → Cong q (y + m * k * a) 1 → Cong q (y + m * (a * k) * x) 1
one_number q m k a x y h e =
    record {
      up = m * (a * k) * h.up + e.up;
      dn = m * (a * k) * h.dn + e.dn;
      eq = omega (arith, ap (λ (z : ℕ). m * (a * k) * z) h.eq);
    }

-- ---- the two sides, of lists of any length and with any entries

record Spanned (q n : ℕ) (S : List (List ℕ)) (r : List ℕ) : Type 0 where
  cs : List ℕ
  one_each : length cs ≡ length S
  sum : (i : ℕ) → Cong q (at (comb_n n cs S) i) (at r i)

record Apart (q : ℕ) (S : List (List ℕ)) (r : List ℕ) : Type 0 where
  M : List ℕ
  orthogonal : All (λ s. Cong q (dot_n s M) 0) S
  one : Cong q (dot_n r M) 1

module _ (q : ℕ) (p : Prime q) (n : ℕ) where
  -- no row: r is 0, or has a number that has an inverse
  no_rows : (r : List ℕ) → ((i : ℕ) → Cong q 0 (at r i)) ⊎ Apart q [] r
  no_rows [] = inl (λ i. c-refl)
  no_rows (a ∷ r) = go (ℕ_discrete (a % q) 0) (no_rows r)
    where
      zero_row : a % q ≡ 0 → ((i : ℕ) → Cong q 0 (at r i)) → (i : ℕ) → Cong q 0 (at (a ∷ r) i)
      zero_row z h zero = c_sym (cong-zero q a z)
      zero_row z h (suc i) = h i

      go : Dec (a % q ≡ 0) → ((i : ℕ) → Cong q 0 (at r i)) ⊎ Apart q [] r → ((i : ℕ) → Cong q 0 (at (a ∷ r) i)) ⊎ Apart q [] (a ∷ r)
      go (no z) t =
          let (x, c) = invert q p a z in
          inr (record { M = x ∷ []; orthogonal = tt; one = c-trans (of_eq (omega (arith, dot-nil r))) c })
      go (yes z) (inl h) = inl (zero_row z h)
      go (yes z) (inr t) = inr (record { M = 0 ∷ t.M; orthogonal = tt; one = c-trans (of_eq (omega arith)) t.one })

  -- one row more
  module _ (s : List ℕ) (S : List (List ℕ)) (r : List ℕ) where
    weaken : Spanned q n S r → Spanned q n (s ∷ S) r
    weaken w =
        record {
          cs = 0 ∷ w.cs;
          one_each = ap suc w.one_each;
          sum = λ i. c-trans (of_eq (omega (arith, el-comb n 0 w.cs s S i))) (w.sum i);
        }

    minus : ℕ → List ℕ
    minus k = add r (scale ((q - 1) * k) s)

    -- r' in the span of S'
    add_row : (k : ℕ) → Spanned q n S (minus k) → Spanned q n (s ∷ S) r
    unfolding minus
    add_row k w =
        record {
          cs = k ∷ w.cs;
          one_each = ap suc w.one_each;
          sum =
              λ i.
              c-trans (of_eq (el-comb n k w.cs s S i))
              (span-number q (q - 1) k (at s i) (at r i) (at (comb_n n w.cs S) i) (omega (arith, p.two))
              (c-trans (w.sum i) (of_eq (el-left r s ((q - 1) * k) i))));
        }

    -- r' not in the span of S'
    repair : (t : Apart q S r) (k : ℕ) → Cong q (dot_n s t.M * k) 1 → Apart q S (minus k) → Apart q (s ∷ S) r
    unfolding minus
    repair t k c t' =
        let a : ℕ = dot_n s t'.M in
        let b : ℕ = (q - 1) * (a * k) in
        let N : List ℕ = add t'.M (scale b t.M) in
        record {
          M = N;
          orthogonal = (
            c-trans (of_eq (dot-right s t'.M t.M b)) (clear-number q (q - 1) k a (dot_n s t.M) (omega (arith, p.two)) c),
            all_both (λ x. Cong q (dot_n x t'.M) 0) (λ x. Cong q (dot_n x t.M) 0) (λ x. Cong q (dot_n x N) 0)
                (λ x h' h. c-trans (of_eq (dot-right x t'.M t.M b)) (c-trans (c-add h' (c-mul-left b h)) (of_eq (omega arith))))
                S t'.orthogonal t.orthogonal,
          );
          one =
              c-trans (of_eq (dot-right r t'.M t.M b))
              (one_number q (q - 1) k a (dot_n r t.M) (dot_n r t'.M) t.one
              (c-trans (of_eq (sym (dot-left r s t'.M ((q - 1) * k)))) t'.one));
        }

    one_more : Spanned q n S r ⊎ Apart q S r → ((x : List ℕ) → Spanned q n S x ⊎ Apart q S x) → Spanned q n (s ∷ S) r ⊎ Apart q (s ∷ S) r
    one_more (inl w) ih = inl (weaken w)
    one_more (inr t) ih = go (ℕ_discrete (dot_n s t.M % q) 0)
      where
        go : Dec (dot_n s t.M % q ≡ 0) → Spanned q n (s ∷ S) r ⊎ Apart q (s ∷ S) r
        go (yes z) = inr (record { M = t.M; orthogonal = (cong-zero q (dot_n s t.M) z, t.orthogonal); one = t.one })
        go (no z) =
            let (k, c) = invert q p (dot_n s t.M) z in
            ⊎_elim (λ w. inl (add_row k w)) (λ t'. inr (repair t k c t')) (ih (minus k))

  either : (S : List (List ℕ)) (r : List ℕ) → Spanned q n S r ⊎ Apart q S r
  either [] r =
      ⊎_elim (λ h. inl (record { cs = []; one_each = refl; sum = λ i. c-trans (of_eq (el-zeros n i)) (h i) })) (λ t. inr t) (no_rows r)
  either (s ∷ S) r = one_more s S r (either S r) (either S)

  -- ---- the theorem

  from-apart : (S : List (List ℕ)) (r : List ℕ) → All (Vector q n) S → Vector q n r → Apart q S r → Separated q n S r
  from-apart S r h_s hr t =
      record {
        M = fit q n t.M;
        valid = vector-fit q n t.M (prime-pos p);
        orthogonal =
            all_both (Vector q n) (λ s. Cong q (dot_n s t.M) 0) (λ s. dot q s (fit q n t.M) ≡ 0)
            (λ s v c. zero-cong q (dot_n s (fit q n t.M)) (c-trans (dot-fit q s n t.M (le_of_eq v.size)) c))
            S h_s t.orthogonal;
        one = to-mod (c-trans (dot-fit q r n t.M (le_of_eq hr.size)) t.one) ∙ mod-eq_of_lt p.two;
      }

  -- modulo a prime a row is in the span, or separated from it
  pub duality : (S : List (List ℕ)) (r : List ℕ) → All (Vector q n) S → Vector q n r → InSpan q n S r ⊎ Separated q n S r
  duality S r h_s hr =
      ⊎_elim (λ w. inl (span-made q n S r w.cs h_s hr w.one_each w.sum)) (λ t. inr (from-apart S r h_s hr t)) (either S r)

-- ---- and never both

-- what is orthogonal to each row, as congruences
pub orthogonal-cong : (q : ℕ) (S : List (List ℕ)) (M : List ℕ) → All (λ s. dot q s M ≡ 0) S → All (λ s. Cong q (dot_n s M) 0) S
orthogonal-cong q S M = all_map (λ s. dot q s M ≡ 0) (λ s. Cong q (dot_n s M) 0) (λ s. cong-zero q (dot_n s M)) S

-- no row is in the span and separated from it
pub not-both : (q n : ℕ) → 2 ≤ q → (S : List (List ℕ)) (r : List ℕ) → InSpan q n S r → Separated q n S r → ⊥
not-both q n two S r w t =
    zero-not-one q two
    (c-trans (c_sym (span-dot q n S r t.M w (orthogonal-cong q S t.M t.orthogonal))) (cong-one q two (dot_n r t.M) t.one))

module _ (q : ℕ) (p : Prime q) (n : ℕ) where
  -- what nothing separates is in the span: no coefficients have to be found
  pub span-unless : (S : List (List ℕ)) (r : List ℕ) → All (Vector q n) S → Vector q n r → (Separated q n S r → ⊥) → InSpan q n S r
  span-unless S r h_s hr f = ⊎_elim (λ w. w) (λ t. absurd (f t)) (duality q p n S r h_s hr)

  -- a row in the span of S is in the span of S', where each of S is
  pub span-trans : (S S' : List (List ℕ)) (r : List ℕ) → All (Vector q n) S' → All (InSpan q n S') S → InSpan q n S r → InSpan q n S' r
  span-trans S S' r h_s' h w =
      span-unless S' r h_s' (span-vector q n (prime-pos p) S r (spans-vectors q n (prime-pos p) S S' h_s' h) w)
      (λ t. not-both q n p.two S r w
      (record {
        M = t.M;
        valid = t.valid;
        orthogonal =
            all_map (InSpan q n S') (λ s. dot q s t.M ≡ 0)
            (λ s v. zero-cong q (dot_n s t.M) (span-dot q n S' s t.M v (orthogonal-cong q S' t.M t.orthogonal))) S h;
        one = t.one;
      }))
