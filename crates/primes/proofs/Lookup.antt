-- A search in a table that ascends finds what is a member of it.
use mathlib.Core.Path.{◌≡◌, sym}
use mathlib.Core.Logic.{⊎_elim}
use mathlib.Core.List.{List, [], ◌∷◌}
use Prim.Native.Nat.{ℕ, zero, suc, ◌≤◌, ◌<◌}
use native.Mathlib.Omega.{arith}
use lib.Dec.{T, eqb, ltb, ltb→lt, eqb→eq}
use lib.ListN.{length, get_or}
use Rattle.std.specs.Prelude.{Result, Ok, Err, is_ok, MatchResult}
use Rattle.lists.proofs.BitLaws.{lt-or-ge}
use Rattle.lists.proofs.Searches.{T_and, T-or, or_left, or_right, T→true, not-T→false}
use Rattle.pseudoprimes.proofs.Tables.{any_in, member}
use Rattle.pseudoprimes.proofs.TableLaws.{eq→T}
use Rattle.primes.specs.Trying.{is_ascending}

-- the first is the least
first-least : (x : ℕ) (s : List ℕ) → T (is_ascending (x ∷ s)) → (j : ℕ) → j < length (x ∷ s) → x ≤ get_or (x ∷ s) j 0
unfolding is_ascending
first-least x [] t zero h = omega arith
first-least x [] t (suc j) h = absurd (omega arith)
first-least x (y ∷ s) t zero h = omega arith
first-least x (y ∷ s) t (suc j) h =
    let (here, rest) = T_and (ltb x y) (is_ascending (y ∷ s)) t in
    omega (arith, ltb→lt x y here, first-least y s rest j (omega arith))

tail-ascends : (x : ℕ) (s : List ℕ) → T (is_ascending (x ∷ s)) → T (is_ascending s)
unfolding is_ascending
tail-ascends x [] t = tt
tail-ascends x (y ∷ s) t = (T_and (ltb x y) (is_ascending (y ∷ s)) t).1

pub ascending-at : (s : List ℕ) → T (is_ascending s) → (i j : ℕ) → i ≤ j → j < length s → get_or s i 0 ≤ get_or s j 0
ascending-at [] t i j l h = absurd (omega arith)
ascending-at (x ∷ s) t zero j l h = first-least x s t j h
ascending-at (x ∷ s) t (suc i) zero l h = absurd (omega arith)
ascending-at (x ∷ s) t (suc i) (suc j) l h = ascending-at s (tail-ascends x s t) i j (omega arith) (omega arith)

-- what stands at a place is a member, and a member stands at some place
pub at-member : (q : ℕ) (s : List ℕ) (i : ℕ) → i < length s → get_or s i 0 ≡ q → T (member q s)
unfolding any_in
at-member q [] i h e = absurd (omega arith)
at-member q (x ∷ s) zero h e = or_left (eqb q x) (member q s) (eq→T q x (sym e))
at-member q (x ∷ s) (suc i) h e = or_right (eqb q x) (member q s) (at-member q s i (omega arith) e)

pub member-at : (q : ℕ) (s : List ℕ) → T (member q s) → (i : ℕ) × (i < length s) × (get_or s i 0 ≡ q)
unfolding any_in
member-at q [] t = absurd t
member-at q (x ∷ s) t =
    ⊎_elim
    (λ e. (0, omega arith, sym (eqb→eq q x e)))
    (λ r. let (i, h, e) = member-at q s r in (suc i, omega arith, e))
    (T-or (eqb q x) (member q s) t)

-- so the search's answer is whether q is a member
pub found-member : (q : ℕ) (s : List ℕ) (r : Result ℕ ℕ)
    → MatchResult r (λ i. (i < length s) × (get_or s i 0 ≡ q))
    (λ i. (i ≤ length s) × ((k : ℕ) → k < i → get_or s k 0 < q) × ((k : ℕ) → i ≤ k → k < length s → q < get_or s k 0))
    → is_ok r ≡ member q s
found-member q s (Ok i) f = sym (T→true (member q s) (at-member q s i f.0 f.1))
found-member q s (Err i) f =
    sym
    (not-T→false (member q s)
    (λ t.
    let (k, h, e) = member-at q s t in
    ⊎_elim (λ (l : k < i). omega (arith, f.1 k l, e)) (λ (l : i ≤ k). omega (arith, f.2 k l h, e)) (lt-or-ge k i)))
