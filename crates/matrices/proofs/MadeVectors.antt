-- Lists made of their entries, and of what is picked, as rows of numbers below q.
use Prim.Native.Nat.{ℕ, zero, suc, ◌+◌, ◌-◌, ◌*◌, ◌<◌}
use mathlib.Core.Path.{◌≡◌, refl, sym, ap, ap₂, ◌∙◌, subst}
use mathlib.Core.Bool.{Bool}
use mathlib.Core.List.{List, [], ◌∷◌, ◌++◌}
use native.Mathlib.Decide.{dec_lt}
use native.Mathlib.Omega.{arith}
use lib.Dec.{T}
use lib.ListN.{length-append, get_or-append, get_or-eq_default}
use lib.Seq.{get_or-append-add}
use Rattle.lists.specs.Lists.{at, tab, picked}
use Rattle.lists.specs.Sums.{sum_to, how_many}
use Rattle.lists.proofs.Members.{all-at}
use Rattle.lists.proofs.Sums.{sum-front}
use Rattle.lists.proofs.ListLaws.{at-tab, length-tab, length-picked, all-picked}
use Rattle.matrices.specs.Linear.{Vector}
use Rattle.matrices.proofs.Notions.{dot_n}

-- entries below q
pub tab-vector : (q n : ℕ) (f : ℕ → ℕ) → ((k : ℕ) → k < n → f k < q) → Vector q n (tab n f)
tab-vector q n f h =
    record { size = length-tab n f; small = λ i l. subst (λ (z : ℕ). z < q) (sym (at-tab n f i l)) (h i l) }

-- the product of two lists made of their entries
pub dot-tab : (n : ℕ) (f g : ℕ → ℕ) → dot_n (tab n f) (tab n g) ≡ sum_to n (λ k. f k * g k)
unfolding tab sum_to
dot-tab zero f g = refl
dot-tab (suc n) f g =
    ap (λ (z : ℕ). f 0 * g 0 + z) (dot-tab n (λ k. f (suc k)) (λ k. g (suc k))) ∙ sym (sum-front n (λ k. f k * g k))

-- past the end stands 0, which is below q too
pub entry-below : (q n : ℕ) (l : List ℕ) → 0 < q → Vector q n l → (k : ℕ) → at l k < q
entry-below q n l pos v k = go (dec_lt k n)
  where
    go : Dec (k < n) → at l k < q
    go (yes h) = v.small k h
    go (no h) = subst (λ (z : ℕ). z < q) (sym (get_or-eq_default l 0 (omega (arith, v.size)))) pos

-- one list after the other
pub vector-append : (q m n : ℕ) (a c : List ℕ) → Vector q m a → Vector q n c → Vector q (m + n) (a ++ c)
vector-append q m n a c v w =
    record { size = length-append a c ∙ ap₂ ◌+◌ v.size w.size; small = λ i l. go i l (dec_lt i m) }
  where
    go : (i : ℕ) → i < m + n → Dec (i < m) → at (a ++ c) i < q
    go i l (yes h) = subst (λ (z : ℕ). z < q) (sym (get_or-append a c 0 i (omega (arith, v.size)))) (v.small i h)
    go i l (no h) =
        subst (λ (z : ℕ). z < q)
        (sym (ap (at (a ++ c)) (omega (arith, v.size)) ∙ get_or-append-add a c (i - m) 0))
        (w.small (i - m) (omega arith))

-- numbers below q
pub vector-picked : (q n : ℕ) (b : ℕ → Bool) (f : ℕ → ℕ) → ((i : ℕ) → i < n → T (b i) → f i < q) → Vector q (how_many n b) (picked n b (λ i. f i ∷ []))
vector-picked q n b f h =
    let l : List ℕ = picked n b (λ i. f i ∷ []) in
    record {
      size = length-picked n b f;
      small = λ i k. all-at (λ x. x < q) l (all-picked (λ x. x < q) n b f h) i (subst (λ (z : ℕ). i < z) (sym (length-picked n b f)) k) 0;
    }
