-- A choice finds what a search finds.
use Prim.Native.Nat.{ℕ, zero, suc, ◌<◌}
use mathlib.Core.Path.{◌≡◌, refl, sym, subst}
use mathlib.Core.Bool.{Bool, true, false}
use mathlib.Core.Logic.{⊎_elim}
use mathlib.Core.List.{List, ◌∷◌}
use native.Mathlib.Nat.{lt-suc_self}
use native.Mathlib.Omega.{arith}
use lib.Dec.{T}
use Rattle.lists.specs.Search.{any_to}
use Rattle.lists.proofs.Searches.{T-or}
use Rattle.matrices.specs.Linear.{Vector}
use Rattle.matrices.specs.Rank.{any_list}
use Rattle.matrices.proofs.Vectors.{vector-nil, vector-cons}
use Rattle.cyclic.specs.Decoding.{chosen, chosen_list}

-- ---- choices

pub chosen-found : (n : ℕ) (f : ℕ → Bool) → T (any_to n f) → (chosen n f < n) × T (f (chosen n f))
unfolding any_to chosen
chosen-found zero f t = absurd t
chosen-found (suc n) f t = go (f n) refl (chosen-found n f)
  where
    go : (b : Bool) → f n ≡ b → (T (any_to n f) → (chosen n f < n) × T (f (chosen n f))) → (chosen (suc n) f < suc n) × T (f (chosen (suc n) f))
    go true e ih = rw e (lt-suc_self n, subst T (sym e) tt)
    go false e ih =
        let r : (chosen n f < n) × T (f (chosen n f)) = ih (⊎_elim (λ s. s) (λ s. absurd (subst T e s)) (T-or (any_to n f) (f n) t)) in
        rw e (omega (arith, r.0), r.1)

pub chosen-list-found : (q n : ℕ) (p : List ℕ → Bool) → T (any_list q n p) → Vector q n (chosen_list q n p) × T (p (chosen_list q n p))
unfolding any_list chosen_list
chosen-list-found q zero p t = (vector-nil q, t)
chosen-list-found q (suc n) p t =
    let x : ℕ = chosen q (λ x. any_list q n (λ l. p (x ∷ l))) in
    let f : (x < q) × T (any_list q n (λ l. p (x ∷ l))) = chosen-found q (λ x. any_list q n (λ l. p (x ∷ l))) t in
    let r : Vector q n (chosen_list q n (λ l. p (x ∷ l))) × T (p (x ∷ chosen_list q n (λ l. p (x ∷ l)))) = chosen-list-found q n (λ l. p (x ∷ l)) f.1 in
    (vector-cons q n x (chosen_list q n (λ l. p (x ∷ l))) f.0 r.0, r.1)
