-- Laws of spans, for every q above 0: the test that tries all coefficients, each row is in the span of its list, and spans grow.
use mathlib.Core.Path.{◌≡◌, refl, sym, ap, ap₂, ◌∙◌, subst}
use mathlib.Core.Bool.{Bool}
use mathlib.Core.Logic.{◌↔◌}
use mathlib.Core.List.{List, [], ◌∷◌, ◌++◌}
use Prim.Native.Nat.{ℕ, zero, suc, ◌+◌, ◌<◌}
use native.Mathlib.Nat.{mod-eq_of_lt, suc-ne-zero}
use native.Mathlib.Omega.{arith}
use lib.Dec.{T, eqb, eqb→eq, eqb_refl}
use lib.ListN.{length, length-append}
use lib.Seq.{ext_get_or}
use Rattle.lists.proofs.Searches.{T_and, and_T, any_found, any_at}
use Rattle.residues.proofs.Congruence.{Cong, to-mod, of_eq, of-rem, c_sym, c-trans}
use Rattle.lists.specs.Lists.{at, All, zeros}
use Rattle.matrices.specs.Linear.{Vector, reduce, comb_n, comb}
use Rattle.matrices.proofs.Notions.{dot_n, InSpan}
use Rattle.matrices.specs.Rank.{any_list, same_list, in_span}
use Rattle.lists.proofs.Members.{all_right, all_append, all_snoc, all_map}
use Rattle.matrices.proofs.Vectors.{dot-reduce, dot-comb, length-reduce, length-comb}
use Rattle.lists.proofs.ListLaws.{length-zeros}
use Rattle.matrices.proofs.Vectors.{el-reduce, el-comb, el-comb-append, el-comb-zeros, el-comb-reduce}
use Rattle.matrices.proofs.Vectors.{vector-nil, vector-cons, vector-head, vector-tail, vector-reduce, vector-comb}

-- ---- searches of lists of n numbers below q

-- where the search succeeds, there is such a list
pub any-list-found : (q n : ℕ) (p : List ℕ → Bool) → T (any_list q n p) → (l : List ℕ) × Vector q n l × T (p l)
unfolding any_list
any-list-found q zero p t = ([], vector-nil q, t)
any-list-found q (suc n) p t =
    let (x, b, s) = any_found q (λ x. any_list q n (λ l. p (x ∷ l))) t in
    let (l, v, u) = any-list-found q n (λ l. p (x ∷ l)) s in
    (x ∷ l, vector-cons q n x l b v, u)

-- where there is one, the search succeeds
pub any-list-at : (q n : ℕ) (p : List ℕ → Bool) (l : List ℕ) → Vector q n l → T (p l) → T (any_list q n p)
unfolding any_list
any-list-at q zero p [] v t = t
any-list-at q zero p (x ∷ l) v t = absurd (suc-ne-zero (length l) v.size)
any-list-at q (suc n) p [] v t = absurd (suc-ne-zero n (sym v.size))
any-list-at q (suc n) p (x ∷ l) v t =
    any_at q (λ y. any_list q n (λ m. p (y ∷ m))) x (vector-head q n x l v)
    (any-list-at q n (λ m. p (x ∷ m)) l (vector-tail q n x l v) t)

-- the test of equality passes no others than equal lists
pub same→eq : (a b : List ℕ) → T (same_list a b) → a ≡ b
unfolding same_list
same→eq [] [] t = refl
same→eq [] (y ∷ b) t = absurd t
same→eq (x ∷ a) [] t = absurd t
same→eq (x ∷ a) (y ∷ b) t =
    let (h, r) = T_and (eqb x y) (same_list a b) t in
    ap₂ ◌∷◌ (eqb→eq x y h) (same→eq a b r)

same_refl : (a : List ℕ) → T (same_list a a)
unfolding same_list
same_refl [] = tt
same_refl (x ∷ a) = and_T (eqb x x) (same_list a a) (eqb_refl x) (same_refl a)

-- and passes equal ones
pub eq→same : (a b : List ℕ) → a ≡ b → T (same_list a b)
eq→same a b e = subst (λ (l : List ℕ). T (same_list a l)) e (same_refl a)

-- ---- the span by its entries

-- a combination that has the entries of r modulo q is r
pub comb-is : (q n : ℕ) (cs : List ℕ) (S : List (List ℕ)) (r : List ℕ) → All (Vector q n) S → Vector q n r
    → ((i : ℕ) → Cong q (at (comb_n n cs S) i) (at r i)) → comb q n cs S ≡ r
comb-is q n cs S r h_s hr c =
    let size : length (comb q n cs S) ≡ n = length-reduce q (comb_n n cs S) ∙ length-comb q n cs S h_s in
    ext_get_or 0 (comb q n cs S) r (size ∙ sym hr.size)
    (λ i l. el-reduce q (comb_n n cs S) i ∙ to-mod (c i) ∙ mod-eq_of_lt (hr.small i (omega arith)))

-- so its coefficients show that r is in the span
pub span-made : (q n : ℕ) (S : List (List ℕ)) (r cs : List ℕ) → All (Vector q n) S → Vector q n r → length cs ≡ length S
    → ((i : ℕ) → Cong q (at (comb_n n cs S) i) (at r i)) → InSpan q n S r
span-made q n S r cs h_s hr e c = record { coefficients = cs; one_each = e; makes = comb-is q n cs S r h_s hr c }

-- the coefficients of a row in the span make its entries modulo q
pub span-at : (q n : ℕ) (S : List (List ℕ)) (r : List ℕ) (w : InSpan q n S r) (i : ℕ) → Cong q (at (comb_n n w.coefficients S) i) (at r i)
span-at q n S r w i =
    c-trans (c_sym (of-rem q (at (comb_n n w.coefficients S) i)))
    (of_eq (sym (el-reduce q (comb_n n w.coefficients S) i) ∙ ap (λ (x : List ℕ). at x i) w.makes))

-- a row in the span has the product 0 with N where each of the rows has
pub span-dot : (q n : ℕ) (S : List (List ℕ)) (r N : List ℕ) → InSpan q n S r → All (λ s. Cong q (dot_n s N) 0) S → Cong q (dot_n r N) 0
span-dot q n S r N w h =
    c-trans (of_eq (ap (λ (x : List ℕ). dot_n x N) (sym w.makes)))
    (c-trans (dot-reduce q (comb_n n w.coefficients S) N) (dot-comb q n w.coefficients S N h))

module _ (q n : ℕ) (pos : 0 < q) where
  -- what is in a span has n numbers below q
  pub span-vector : (S : List (List ℕ)) (r : List ℕ) → All (Vector q n) S → InSpan q n S r → Vector q n r
  span-vector S r h_s w = subst (Vector q n) w.makes (vector-comb q n w.coefficients S pos h_s)

  -- and so have rows that are in a span
  pub spans-vectors : (S S' : List (List ℕ)) → All (Vector q n) S' → All (InSpan q n S') S → All (Vector q n) S
  spans-vectors S S' h_s' = all_map (InSpan q n S') (Vector q n) (λ s. span-vector S' s h_s') S

  -- the test passes the rows in the span, and no others
  pub in-span-iff : (S : List (List ℕ)) (r : List ℕ) → All (Vector q n) S → T (in_span q n S r) ↔ InSpan q n S r
  unfolding in_span
  in-span-iff S r h_s = (
    (λ t.
        let (cs, v, k) = any-list-found q (length S) (λ cs. same_list (comb q n cs S) r) t in
        record { coefficients = cs; one_each = v.size; makes = same→eq (comb q n cs S) r k }),
    (λ w.
        let cs : List ℕ = w.coefficients in
        any-list-at q (length S) (λ cs. same_list (comb q n cs S) r) (reduce q cs) (vector-reduce q (length S) cs pos w.one_each)
        (eq→same (comb q n (reduce q cs) S) r
        (comb-is q n (reduce q cs) S r h_s (span-vector S r h_s w) (λ i. c-trans (el-comb-reduce q n cs S i) (span-at q n S r w i))))),
  )

  -- ---- spans grow

  module _ (S S' : List (List ℕ)) (r : List ℕ) (h_s : All (Vector q n) S) (h_s' : All (Vector q n) S') where
    -- coefficients for S and for S' that make r together
    span-append : (cs ds : List ℕ) → Vector q n r → length cs ≡ length S → length ds ≡ length S'
        → ((i : ℕ) → Cong q (at (comb_n n cs S) i + at (comb_n n ds S') i) (at r i)) → InSpan q n (S ++ S') r
    span-append cs ds hr e_s e_s' c =
        span-made q n (S ++ S') r (cs ++ ds) (all_append (Vector q n) S S' h_s h_s') hr
        (length-append cs ds ∙ ap₂ ◌+◌ e_s e_s' ∙ sym (length-append S S'))
        (λ i. c-trans (of_eq (el-comb-append n cs ds S S' i e_s)) (c i))

    -- what is in the span of some rows is in the span of them and more rows after them
    pub span-more-after : InSpan q n S r → InSpan q n (S ++ S') r
    span-more-after w =
        span-append w.coefficients (zeros (length S')) (span-vector S r h_s w) w.one_each (length-zeros (length S'))
        (λ i. c-trans (of_eq (omega (arith, el-comb-zeros n (length S') S' i))) (span-at q n S r w i))

    -- and of them and more rows before them
    pub span-more-before : InSpan q n S' r → InSpan q n (S ++ S') r
    span-more-before w =
        span-append (zeros (length S)) w.coefficients (span-vector S' r h_s' w) (length-zeros (length S)) w.one_each
        (λ i. c-trans (of_eq (omega (arith, el-comb-zeros n (length S) S i))) (span-at q n S' r w i))

  -- each row is in the span of its list
  pub span-members : (S : List (List ℕ)) → All (Vector q n) S → All (InSpan q n S) S
  span-members [] h = tt
  span-members (s ∷ S) h = (
    span-made q n (s ∷ S) s (1 ∷ zeros (length S)) h h.0 (ap suc (length-zeros (length S)))
        (λ i. of_eq (omega (arith, el-comb n 1 (zeros (length S)) s S i, el-comb-zeros n (length S) S i))),
    all_map (InSpan q n S) (InSpan q n (s ∷ S)) (λ r. span-more-before (s ∷ []) S r (h.0, tt) h.1) S (span-members S h.1),
  )

  -- so the last row is
  pub span_last : (S : List (List ℕ)) (r : List ℕ) → All (Vector q n) (S ++ (r ∷ [])) → InSpan q n (S ++ (r ∷ [])) r
  span_last S r h = (all_right (InSpan q n (S ++ (r ∷ []))) S (r ∷ []) (span-members (S ++ (r ∷ [])) h)).0

  -- rows in the span of others are so with one row more at the end of both lists
  pub spans-snoc : (S S' : List (List ℕ)) (r : List ℕ) → All (Vector q n) S' → Vector q n r → All (InSpan q n S') S
      → All (InSpan q n (S' ++ (r ∷ []))) (S ++ (r ∷ []))
  spans-snoc S S' r h_s' hr h =
      all_snoc (InSpan q n (S' ++ (r ∷ []))) S r
      (all_map (InSpan q n S') (InSpan q n (S' ++ (r ∷ []))) (λ s. span-more-after S' (r ∷ []) s h_s' (hr, tt)) S h)
      (span_last S' r (all_snoc (Vector q n) S' r h_s' hr))
