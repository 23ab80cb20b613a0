-- Where a piece stands: one of those lists that are picked, and the part of a run's symbols that is one round's.
use Prim.Native.Nat.{ℕ, zero, suc, ◌+◌, ◌*◌, ◌≤◌, ◌<◌}
use mathlib.Core.Path.{◌≡◌, refl, sym, ap, ◌∙◌, subst}
use mathlib.Core.Bool.{Bool, cond}
use mathlib.Core.Logic.{⊎_elim}
use mathlib.Core.List.{List, [], ◌∷◌, ◌++◌, append_assoc}
use native.Mathlib.Nat.{lt-suc_self, not-suc-le-zero, eq-or-lt_of_le, le_of_suc-le-suc}
use native.Mathlib.Omega.{arith}
use lib.ListN.{length, take, drop, length-drop}
use lib.Seq.{take_at, drop_at, take_all, take-add, take-append-le, drop-append-le, get_or-take, get_or-drop, length-take-le}
use lib.Dec.{T}
use Rattle.lists.proofs.Searches.{T→true}
use Rattle.lists.specs.Lists.{tab, join_to, picked}
use Rattle.lists.specs.Sums.{sum_to, how_many}
use Rattle.lists.proofs.Joins.{length-lists}
use Rattle.matrices.specs.Linear.{Vector}
use Rattle.matrices.proofs.Vectors.{vector-nil}
use Rattle.matrices.proofs.MadeVectors.{vector-append}

-- the last entry by itself
pub tab-last : {A : Type 0} (n : ℕ) (f : ℕ → A) → tab (suc n) f ≡ tab n f ++ (f n ∷ [])
unfolding tab
tab-last zero f = refl
tab-last (suc n) f = ap (◌∷◌ (f 0)) (tab-last n (λ k. f (suc k)))

-- ---- lists of L symbols, of those that b picks

module _ (L : ℕ) (f : ℕ → List ℕ) (each : (i : ℕ) → length (f i) ≡ L) (b : ℕ → Bool) where
  -- that of i stands behind those that are picked before
  pub pick-part : (n : ℕ) (rest : List ℕ) (i : ℕ) → i < n → T (b i) → take L (drop (how_many i b * L) (picked n b f ++ rest)) ≡ f i
  unfolding picked join_to
  pick-part zero rest i h t = absurd (not-suc-le-zero h)
  pick-part (suc n) rest i h t =
      let last : List ℕ = cond (b n) (f n) [] in
      ap (λ (l : List ℕ). take L (drop (how_many i b * L) l)) (append_assoc (picked n b f) last rest)
      ∙ ⊎_elim
      (λ e.
      ap (λ (j : ℕ). take L (drop (how_many j b * L) (picked n b f ++ (last ++ rest)))) e
      ∙ ap (take L) (drop_at (picked n b f) (last ++ rest) (how_many n b * L) (length-lists n L b f each))
      ∙ ap (λ (c : Bool). take L (cond c (f n) [] ++ rest)) (T→true (b n) (subst (λ (j : ℕ). T (b j)) e t))
      ∙ take_at (f n) rest L (each n)
      ∙ ap f (sym e))
      (λ l. pick-part n (last ++ rest) i l t)
      (eq-or-lt_of_le (le_of_suc-le-suc h))

  -- and what follows them behind all
  pub pick-rest : (n : ℕ) (rest : List ℕ) → drop (how_many n b * L) (picked n b f ++ rest) ≡ rest
  pick-rest n rest = drop_at (picked n b f) rest (how_many n b * L) (length-lists n L b f each)

-- ---- of a run's symbols, those of one round

module _ (size : ℕ → ℕ) where
  abbrev pub piece : List ℕ → ℕ → List ℕ
  piece N k = take (size k) (drop (sum_to k size) N)

  sum-within : (n k : ℕ) → k < n → sum_to k size + size k ≤ sum_to n size
  unfolding sum_to
  sum-within zero k h = absurd (not-suc-le-zero h)
  sum-within (suc n) k h =
      ⊎_elim (λ e. subst (λ (j : ℕ). sum_to j size + size j ≤ sum_to n size + size n) (sym e) (omega arith)) (λ l. omega (arith, sum-within n k l))
      (eq-or-lt_of_le (le_of_suc-le-suc h))

  -- in the rounds before the last nothing of the last is read
  pub piece-before : (n : ℕ) (X Y : List ℕ) → length X ≡ sum_to n size → (k : ℕ) → k < n → piece (X ++ Y) k ≡ piece X k
  piece-before n X Y e k h =
      let w : sum_to k size + size k ≤ sum_to n size = sum-within n k h in
      ap (take (size k)) (drop-append-le (sum_to k size) X Y (omega arith))
      ∙ take-append-le (size k) (drop (sum_to k size) X) Y (omega (arith, length-drop (sum_to k size) X))

  pub piece-last : (n : ℕ) (X Y : List ℕ) → length X ≡ sum_to n size → length Y ≡ size n → piece (X ++ Y) n ≡ Y
  piece-last n X Y e l = ap (take (size n)) (drop_at X Y (sum_to n size) e) ∙ take_all (size n) Y (omega arith)

-- pieces of their own, one after the other, and such a list cut into its pieces
module _ (q : ℕ) (size : ℕ → ℕ) where
  pub whole : (n : ℕ) (B : ℕ → List ℕ) → ((k : ℕ) → k < n → Vector q (size k) (B k)) → Vector q (sum_to n size) (join_to n B)
  unfolding sum_to join_to
  whole zero B v = vector-nil q
  whole (suc n) B v = vector-append q (sum_to n size) (size n) (join_to n B) (B n) (whole n B (λ k l. v k (omega arith))) (v n (lt-suc_self n))

  pub pieces_whole : (n : ℕ) (B : ℕ → List ℕ) → ((k : ℕ) → k < n → Vector q (size k) (B k)) → (k : ℕ) → k < n → piece size (join_to n B) k ≡ B k
  unfolding join_to
  pieces_whole zero B v k h = absurd (not-suc-le-zero h)
  pieces_whole (suc n) B v k h =
      let e : length (join_to n B) ≡ sum_to n size = (whole n B (λ k l. v k (omega arith))).size in
      ⊎_elim
      (λ c. ap (piece size (join_to n B ++ B n)) c ∙ piece-last size n (join_to n B) (B n) e (v n (lt-suc_self n)).size ∙ ap B (sym c))
      (λ l. piece-before size n (join_to n B) (B n) e k l ∙ pieces_whole n B (λ k l. v k (omega arith)) k l)
      (eq-or-lt_of_le (le_of_suc-le-suc h))

  pub pieces_of : (n : ℕ) (N : List ℕ) → Vector q (sum_to n size) N → (k : ℕ) → k < n → Vector q (size k) (piece size N k)
  pieces_of n N v k h =
      let w : sum_to k size + size k ≤ sum_to n size = sum-within size n k h in
      record {
        size = length-take-le (size k) (drop (sum_to k size) N) (omega (arith, length-drop (sum_to k size) N, v.size));
        small = λ i l.
            subst (λ (z : ℕ). z < q) (sym (get_or-take (size k) (drop (sum_to k size) N) i 0 l ∙ get_or-drop (sum_to k size) N i 0))
            (v.small (sum_to k size + i) (omega arith));
      }

  join-taken : (n : ℕ) (N : List ℕ) → join_to n (piece size N) ≡ take (sum_to n size) N
  unfolding join_to sum_to
  join-taken zero N = refl
  join-taken (suc n) N = ap (λ (l : List ℕ). l ++ piece size N n) (join-taken n N) ∙ sym (take-add (sum_to n size) (size n) N)

  pub whole-pieces : (n : ℕ) (N : List ℕ) → Vector q (sum_to n size) N → join_to n (piece size N) ≡ N
  whole-pieces n N v = join-taken n N ∙ take_all (sum_to n size) N (omega (arith, v.size))
