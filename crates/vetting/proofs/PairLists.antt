-- The pairs of the walk are all coalitions of at most as many users as the limit says, each with all observers, and nothing else; and how many they are.
use mathlib.Core.Path.{◌≡◌, sym, ap, ◌∙◌, subst}
use mathlib.Core.Logic.{⊎_elim}
use mathlib.Core.Bool.{Bool, true, false, cond}
use mathlib.Core.List.{List, [], ◌∷◌, ◌++◌, map, map-append}
use Prim.Native.Nat.{ℕ, zero, suc, ◌+◌, ◌*◌, ◌^◌, ◌≤◌, ◌<◌}
use native.Mathlib.Nat.{mul_comm, not-suc-le-zero, le_of_suc-le-suc, eq-or-lt_of_le}
use native.Mathlib.Omega.{arith}
use lib.Dec.{T, leb, leb→le}
use lib.ListN.{length, length-append, length-map}
use borrow.Author.Tests.{le-leb}
use Rattle.lists.proofs.Searches.{true→T}
use Rattle.lists.specs.Lists.{All, tab, join_to, picked}
use Rattle.lists.proofs.Binomials.{sets-count}
use Rattle.lists.proofs.Joins.{length-lists}
use Rattle.lists.proofs.ListLaws.{length-tab, all-picked, map-picked}
use Rattle.lists.proofs.Members.{all_append, all_left, all_right}
use Rattle.lists.specs.Sums.{sum_to, how_many, binomial}
use Rattle.secrecy.specs.Model.{in_coalition}
use Rattle.plans.specs.declared.Plan.{Plan}
use Rattle.vetting.specs.declared.Pair.{Pair}
use Rattle.plans.specs.Plans.{users_of}
use Rattle.vetting.specs.Walk.{observers, pairs_with, pairs, InWalk}
use Rattle.vetting.specs.Length.{pair_count}
use Rattle.vetting.specs.Joint.{coalitions}

module _ {A : Type 0} (Q : A → Type 0) where
  all-tab : (n : ℕ) (f : ℕ → ℕ) (h : ℕ → A) → ((k : ℕ) → k < n → Q (h (f k))) → All Q (map h (tab n f))
  unfolding tab
  all-tab zero f h a = tt
  all-tab (suc n) f h a = (a 0 (omega arith), all-tab n (λ k. f (suc k)) h (λ k l. a (suc k) (omega arith)))

  tab-all : (n : ℕ) (f : ℕ → ℕ) (h : ℕ → A) → All Q (map h (tab n f)) → (k : ℕ) → k < n → Q (h (f k))
  unfolding tab
  tab-all zero f h a k l = absurd (not-suc-le-zero l)
  tab-all (suc n) f h a zero l = a.0
  tab-all (suc n) f h a (suc k) l = tab-all n (λ k. f (suc k)) h a.1 k (le_of_suc-le-suc l)

  all-lists : (n : ℕ) (b : ℕ → Bool) (f : ℕ → List A) → ((i : ℕ) → i < n → T (b i) → All Q (f i)) → All Q (picked n b f)
  unfolding picked join_to
  all-lists zero b f h = tt
  all-lists (suc n) b f h =
      all_append Q (picked n b f) (cond (b n) (f n) []) (all-lists n b f (λ i l. h i (omega arith))) (go (b n) (h n (omega arith)))
    where
      go : (t : Bool) → (T t → All Q (f n)) → All Q (cond t (f n) [])
      go true a = a tt
      go false a = tt

  lists-all : (n : ℕ) (b : ℕ → Bool) (f : ℕ → List A) → All Q (picked n b f) → (i : ℕ) → i < n → T (b i) → All Q (f i)
  unfolding picked join_to
  lists-all zero b f h i l t = absurd (not-suc-le-zero l)
  lists-all (suc n) b f h i l t =
      ⊎_elim
      (λ e. subst (λ (j : ℕ). All Q (f j)) (sym e) (go (b n) (all_right Q (picked n b f) (cond (b n) (f n) []) h) (subst (λ (j : ℕ). T (b j)) e t)))
      (λ c. lists-all n b f (all_left Q (picked n b f) (cond (b n) (f n) []) h) i c t)
      (eq-or-lt_of_le (le_of_suc-le-suc l))
    where
      go : (s : Bool) → All Q (cond s (f n) []) → T s → All Q (f n)
      go true a s = a
      go false a s = absurd s

abbrev pair_of : ℕ → ℕ → Pair
pair_of g w = record { coalition = g; observer = w }

-- each relay, and the server
pub observers-length : (clusters : ℕ) → length (observers clusters) ≡ clusters + 1
unfolding observers
observers-length clusters = length-append (tab clusters suc) (0 ∷ []) ∙ ap (λ (z : ℕ). z + 1) (length-tab clusters suc)

-- how many pairs there are
pub pairs-length : (clusters size limit : ℕ) → length (pairs clusters size limit) ≡ pair_count clusters size limit
unfolding pairs_with pair_count
pairs-length clusters size limit =
    let n : ℕ = clusters * size in
    length-lists (2 ^ n) (clusters + 1) (λ g. leb (how_many n (in_coalition g)) limit) (λ g. map (pair_of g) (observers clusters))
    (λ g. length-map (observers clusters) (pair_of g) ∙ observers-length clusters)
    ∙ ap (λ (z : ℕ). z * (clusters + 1)) (sets-count n limit)
    ∙ mul_comm (sum_to (limit + 1) (binomial n)) (clusters + 1)

module _ (P : Plan) where
  -- is a coalition within the limit?
  abbrev pub within : ℕ → Bool
  within g = leb (how_many (users_of P) (in_coalition g)) P.limit

  -- each pair of the walk is one of these
  pub pairs-in : All (λ p. InWalk P p.coalition p.observer) (pairs P.clusters P.size P.limit)
  unfolding pairs_with observers
  pairs-in =
      all-lists (λ p. InWalk P p.coalition p.observer) (2 ^ users_of P) within (λ g. map (pair_of g) (observers P.clusters))
      (λ g l t.
      let one : (w : ℕ) → w ≤ P.clusters → InWalk P g w
      = λ w h. record { users = l; few = leb→le (how_many (users_of P) (in_coalition g)) P.limit t; observer = h } in
      subst (All (λ p. InWalk P p.coalition p.observer)) (sym (map-append (pair_of g) (tab P.clusters suc) (0 ∷ [])))
      (all_append (λ p. InWalk P p.coalition p.observer) (map (pair_of g) (tab P.clusters suc)) (pair_of g 0 ∷ [])
      (all-tab (λ p. InWalk P p.coalition p.observer) P.clusters suc (pair_of g) (λ k m. one (suc k) m))
      (one 0 (omega arith), tt)))

  -- and each of these is a pair of the walk: it has what all of them have
  pub in_pairs : (Q : Pair → Type 0) → All Q (pairs P.clusters P.size P.limit) → (g w : ℕ) → InWalk P g w → Q (record { coalition = g; observer = w })
  unfolding pairs_with observers
  in_pairs Q a g w i =
      here w i.observer
      (subst (All Q) (map-append (pair_of g) (tab P.clusters suc) (0 ∷ []))
      (lists-all Q (2 ^ users_of P) within (λ g. map (pair_of g) (observers P.clusters)) a g i.users
      (true→T (within g) (le-leb (how_many (users_of P) (in_coalition g)) P.limit i.few))))
    where
      here : (w : ℕ) → w ≤ P.clusters → All Q (map (pair_of g) (tab P.clusters suc) ++ (pair_of g 0 ∷ [])) → Q (pair_of g w)
      here zero h a = (all_right Q (map (pair_of g) (tab P.clusters suc)) (pair_of g 0 ∷ []) a).0
      here (suc k) h a =
          tab-all Q P.clusters suc (pair_of g) (all_left Q (map (pair_of g) (tab P.clusters suc)) (pair_of g 0 ∷ []) a) k h

  -- ---- the coalitions, each with one observer

  -- what holds of each coalition with it, holds of each such pair
  pub all-with : (w : ℕ) (Q : Pair → Type 0) → ((g : ℕ) → g < 2 ^ users_of P → Q (record { coalition = g; observer = w }))
      → All Q (pairs_with (w ∷ []) P.clusters P.size P.limit)
  unfolding pairs_with
  all-with w Q h = all-picked Q (2 ^ users_of P) within (λ g. pair_of g w) (λ g l t. h g l)

  -- what is made of the coalitions of such pairs is made of the coalitions
  pub map_with : {A : Type 0} (w : ℕ) (f : ℕ → A)
      → map (λ p. f p.coalition) (pairs_with (w ∷ []) P.clusters P.size P.limit) ≡ map f (coalitions (users_of P) P.limit)
  unfolding pairs_with coalitions
  map_with w f =
      map-picked (2 ^ users_of P) within (λ p. f p.coalition) (λ g. pair_of g w) ∙ sym (map-picked (2 ^ users_of P) within f (λ g. g))
