-- A run of rounds, each with symbols of its own: where in each round two views have equal counts of each thing seen, so have the two runs of views, for every
-- test of all the views together.
use Prim.Native.Nat.{ℕ, zero, suc, ◌<◌}
use mathlib.Core.Path.{◌≡◌, refl, sym, ap, ap₂, ◌∙◌}
use mathlib.Core.Bool.{Bool, cond}
use mathlib.Core.List.{List, [], ◌∷◌, ◌++◌}
use native.Mathlib.Nat.{lt-suc_self}
use native.Mathlib.Omega.{arith}
use lib.ListN.{length}
use Rattle.lists.specs.Lists.{tab}
use Rattle.lists.specs.Sums.{sum_to}
use Rattle.lists.proofs.ListLaws.{tab-cong}
use Rattle.matrices.specs.Linear.{Vector}
use Rattle.matrices.specs.Rank.{same_list}
use Rattle.secrecy.specs.Counts.{count}
use Rattle.secrecy.proofs.OverAll.{over_all, count-over, over-cong, over-split, same-sums}
use Rattle.secrecy.proofs.Pieces.{tab-last, piece, piece-before, piece-last}

module _ (q : ℕ) (size : ℕ → ℕ) where
  -- the views of n rounds, in their order
  abbrev pub views : (ℕ → List ℕ → List ℕ) → ℕ → List ℕ → List (List ℕ)
  views see n N = tab n (λ k. see k (piece size N k))

  views-more : (see : ℕ → List ℕ → List ℕ) (n : ℕ) (X Y : List ℕ) → length X ≡ sum_to n size → length Y ≡ size n
      → views see (suc n) (X ++ Y) ≡ views see n X ++ (see n Y ∷ [])
  views-more see n X Y e l =
      tab-last n (λ k. see k (piece size (X ++ Y) k))
      ∙ ap₂ (λ (a : List (List ℕ)) (b : List ℕ). a ++ (see n b ∷ []))
      (tab-cong n (λ k. see k (piece size (X ++ Y) k)) (λ k. see k (piece size X k)) (λ k h. ap (see k) (piece-before size n X Y e k h)))
      (piece-last size n X Y e l)

  -- the last round by itself
  last-round : (see : ℕ → List ℕ → List ℕ) (n : ℕ) (f : List (List ℕ) → ℕ)
      → over_all q (sum_to (suc n) size) (λ N. f (views see (suc n) N))
      ≡ over_all q (sum_to n size) (λ X. over_all q (size n) (λ Y. f (views see n X ++ (see n Y ∷ []))))
  unfolding sum_to
  last-round see n f =
      over-split q (sum_to n size) (size n) (λ N. f (views see (suc n) N))
      ∙ over-cong q (sum_to n size) (λ X. over_all q (size n) (λ Y. f (views see (suc n) (X ++ Y))))
      (λ X. over_all q (size n) (λ Y. f (views see n X ++ (see n Y ∷ []))))
      (λ X v.
      over-cong q (size n) (λ Y. f (views see (suc n) (X ++ Y))) (λ Y. f (views see n X ++ (see n Y ∷ [])))
      (λ Y w. ap f (views-more see n X Y v.size w.size)))

  module _ (see see' : ℕ → List ℕ → List ℕ) where
    run-sums : (n : ℕ)
        → ((k : ℕ) → k < n → (f : List ℕ → ℕ) → over_all q (size k) (λ N. f (see k N)) ≡ over_all q (size k) (λ N. f (see' k N)))
        → (f : List (List ℕ) → ℕ) → over_all q (sum_to n size) (λ N. f (views see n N)) ≡ over_all q (sum_to n size) (λ N. f (views see' n N))
    unfolding sum_to tab
    run-sums zero h f = over-cong q 0 (λ N. f (views see 0 N)) (λ N. f (views see' 0 N)) (λ N v. refl)
    run-sums (suc n) h f =
        last-round see n f
        ∙ over-cong q (sum_to n size) (λ X. over_all q (size n) (λ Y. f (views see n X ++ (see n Y ∷ []))))
        (λ X. over_all q (size n) (λ Y. f (views see n X ++ (see' n Y ∷ []))))
        (λ X v. h n (lt-suc_self n) (λ s. f (views see n X ++ (s ∷ []))))
        ∙ run-sums n (λ k l. h k (omega arith)) (λ l. over_all q (size n) (λ Y. f (l ++ (see' n Y ∷ []))))
        ∙ sym (last-round see' n f)

    -- where in each round each thing seen has equal counts, every test of all that is seen in n rounds has
    pub run-counts : (n : ℕ) (places : ℕ → ℕ)
        → ((k : ℕ) → k < n → (N : List ℕ) → Vector q (places k) (see k N))
        → ((k : ℕ) → k < n → (N : List ℕ) → Vector q (places k) (see' k N))
        → ((k : ℕ) → k < n → (s : List ℕ) → count q (size k) (λ N. same_list (see k N) s) ≡ count q (size k) (λ N. same_list (see' k N) s))
        → (test : List (List ℕ) → Bool)
        → count q (sum_to n size) (λ N. test (views see n N)) ≡ count q (sum_to n size) (λ N. test (views see' n N))
    run-counts n places v v' h test =
        count-over q (sum_to n size) (λ N. test (views see n N))
        ∙ run-sums n (λ k l. same-sums q (size k) (places k) (see k) (see' k) (λ N w. v k l N) (λ N w. v' k l N) (h k l)) (λ s. cond (test s) 1 0)
        ∙ sym (count-over q (sum_to n size) (λ N. test (views see' n N)))
