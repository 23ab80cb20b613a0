-- What the tests of lists and of the tree of products say.
use mathlib.Core.Path.{◌≡◌, sym, ap, ◌∙◌}
use mathlib.Core.Logic.{◌⊎◌, inl, inr, ⊎_elim}
use mathlib.Core.Bool.{Bool, true, false, ◌&&◌, ◌||◌}
use mathlib.Core.List.{List, [], ◌∷◌, ◌++◌}
use Prim.Native.Nat.{ℕ, ◌*◌, ◌%◌, ◌≤◌, ◌<◌}
use native.Mathlib.Nat.{mul-mod_right, mul-le-mul}
use native.Mathlib.Omega.{arith}
use lib.Dec.{T, eqb, leb, ltb, eqb→eq, leb→le, ltb→lt}
use borrow.Author.Tests.{eq-eqb}
use Rattle.lists.proofs.Searches.{true→T, T_and, T-or, or_left, or_right}
use Rattle.residues.specs.Primes.{Prime}
use Rattle.pseudoprimes.proofs.Tables.{any_in, some_divides, member, low_primes, high_primes, odd_primes, Tree, leaf, node, flat, listed_tree, listed_numbers}

pub eq→T : (m n : ℕ) → m ≡ n → T (eqb m n)
eq→T m n e = true→T (eqb m n) (eq-eqb m n e)

-- ---- one of a list

-- from one test to another
pub any-map : (f g : ℕ → Bool) → ((x : ℕ) → T (f x) → T (g x)) → (s : List ℕ) → T (any_in f s) → T (any_in g s)
unfolding any_in
any-map f g h [] t = absurd t
any-map f g h (x ∷ s) t =
    ⊎_elim (λ a. or_left (g x) (any_in g s) (h x a)) (λ r. or_right (g x) (any_in g s) (any-map f g h s r)) (T-or (f x) (any_in f s) t)

-- one of two lists
pub any_append : (f : ℕ → Bool) (a b : List ℕ) → T (any_in f (a ++ b)) → T (any_in f a) ⊎ T (any_in f b)
unfolding any_in
any_append f [] b t = inr t
any_append f (x ∷ a) b t =
    ⊎_elim
    (λ h. inl (or_left (f x) (any_in f a) h))
    (λ r. ⊎_elim (λ l. inl (or_right (f x) (any_in f a) l)) inr (any_append f a b r))
    (T-or (f x) (any_in f (a ++ b)) t)

-- ---- divisors

-- is each number of the list at least 2 and below n?
unfoldable pub within : ℕ → List ℕ → Bool
within n [] = true
within n (d ∷ ds) = leb 2 d && ltb d n && within n ds

-- a divisor of q that is at least 2 and below n
pub some-divisor : (n q : ℕ) (ds : List ℕ) → T (within n ds) → T (some_divides q ds) → (d : ℕ) × (2 ≤ d) × (d < n) × (q % d ≡ 0)
unfolding any_in within
some-divisor n q [] w t = absurd t
some-divisor n q (d ∷ ds) w t =
    let (fit, rest) = T_and (leb 2 d && ltb d n) (within n ds) w in
    let (two, small) = T_and (leb 2 d) (ltb d n) fit in
    ⊎_elim
    (λ e. (d, leb→le 2 d two, ltb→lt d n small, eqb→eq (q % d) 0 e))
    (λ r. some-divisor n q ds rest r)
    (T-or (eqb (q % d) 0) (some_divides q ds) t)

-- one of the numbers divides q, which is above them all: q is no prime
pub divided-composite : (n q : ℕ) (ds : List ℕ) → T (within n ds) → n ≤ q → T (some_divides q ds) → Prime q → ⊥
divided-composite n q ds w h t p =
    let (d, two, small, e) = some-divisor n q ds w t in
    p.none d two (omega arith) e

pub low-within : T (within 257 low_primes)
unfolding within low_primes
low-within = tt

pub high-within : T (within 1627 high_primes)
unfolding within high_primes
high-within = tt

pub odd-within : T (within 1627 odd_primes)
unfolding within low_primes high_primes
odd-within = tt

-- ---- the tree

-- does n stand in the tree?
unfoldable pub has : ℕ → Tree → Bool
has n leaf = false
has n (node p k l r) =
    let left = has n l in
    let right = has n r in
    (ltb n (p * k) && left) || (leb (p * k) n && (eqb n (p * k) || right))

-- what stands in the list stands in it also after the tree's products
flat-kept : (n : ℕ) (t : Tree) (s : List ℕ) → T (member n s) → T (member n (flat t s))
unfolding any_in flat
flat-kept n leaf s h = h
flat-kept n (node p k l r) s h =
    flat-kept n l (p * k ∷ flat r s) (or_right (eqb n (p * k)) (member n (flat r s)) (flat-kept n r s h))

has-member : (n : ℕ) (t : Tree) (s : List ℕ) → T (has n t) → T (member n (flat t s))
unfolding any_in flat has
has-member n leaf s t = absurd t
has-member n (node p k l r) s t =
    ⊎_elim
    (λ x. has-member n l (p * k ∷ flat r s) (T_and (ltb n (p * k)) (has n l) x).1)
    (λ x.
    flat-kept n l (p * k ∷ flat r s)
    (⊎_elim
    (λ e. or_left (eqb n (p * k)) (member n (flat r s)) e)
    (λ h. or_right (eqb n (p * k)) (member n (flat r s)) (has-member n r s h))
    (T-or (eqb n (p * k)) (has n r) (T_and (leb (p * k) n) (eqb n (p * k) || has n r) x).1)))
    (T-or (ltb n (p * k) && has n l) (leb (p * k) n && (eqb n (p * k) || has n r)) t)

pub has_listed : (n : ℕ) → T (has n listed_tree) → T (member n listed_numbers)
unfolding listed_numbers
has_listed n t = has-member n listed_tree [] t

-- ---- what is listed is a product

-- is each factor in the tree at least 2?
unfoldable products : Tree → Bool
products leaf = true
products (node p k l r) = leb 2 p && leb 2 k && products l && products r

abbrev Product : ℕ → Type 0
Product n = (p : ℕ) × (k : ℕ) × (2 ≤ p) × (2 ≤ k) × (p * k ≡ n)

member-product : (n : ℕ) (t : Tree) (s : List ℕ) → T (products t) → T (member n (flat t s)) → Product n ⊎ T (member n s)
unfolding any_in flat products
member-product n leaf s t h = inr h
member-product n (node p k l r) s t h =
    let (before, right) = T_and (leb 2 p && leb 2 k && products l) (products r) t in
    let (both, left) = T_and (leb 2 p && leb 2 k) (products l) before in
    let (two-p, two-k) = T_and (leb 2 p) (leb 2 k) both in
    ⊎_elim
    inl
    (λ x.
    ⊎_elim
    (λ e. inl (p, k, leb→le 2 p two-p, leb→le 2 k two-k, sym (eqb→eq n (p * k) e)))
    (λ y. member-product n r s right y)
    (T-or (eqb n (p * k)) (member n (flat r s)) x))
    (member-product n l (p * k ∷ flat r s) left h)

listed-products : T (products listed_tree)
unfolding products listed_tree
listed-products = tt

pub listed-composite : (q : ℕ) → T (member q listed_numbers) → Prime q → ⊥
unfolding any_in listed_numbers
listed-composite q h prime =
    ⊎_elim
    (λ x.
    let (p, k, a, b, e) = x in
    let m : p * 2 ≤ p * k = mul-le-mul {n₁ = p} {m₁ = 2} {n₂ = p} {m₂ = k} (omega arith) b in
    prime.none p a (omega arith) (ap (λ (w : ℕ). w % p) (sym e) ∙ mul-mod_right p k))
    (λ x. absurd x)
    (member-product q listed_tree [] listed-products h)
