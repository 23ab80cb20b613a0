-- Laws of sums, as numbers and modulo q.
use Prim.Native.Nat.{ℕ, zero, suc, ◌+◌, ◌-◌, ◌*◌, ◌%◌, ◌≤◌, ◌<◌}
use mathlib.Core.Path.{◌≡◌, refl, sym, ap, ap₂, ◌∙◌}
use mathlib.Core.Logic.{◌≢◌, ⊎_elim}
use native.Mathlib.Nat.{add-zero, add-suc, add_assoc, add_comm, mod-eq_of_lt, add-mod_left, zero-mul, suc-mul}
use native.Mathlib.Nat.{lt-suc_self, eq-or-lt_of_le, le_of_suc-le-suc, not-suc-le-zero}
use native.Mathlib.Numerals.{add-one}
use native.Mathlib.Omega.{arith}
use Rattle.lists.specs.Sums.{sum_to}

-- equal summands have equal sums
pub sum-cong : (n : ℕ) (f g : ℕ → ℕ) → ((k : ℕ) → k < n → f k ≡ g k) → sum_to n f ≡ sum_to n g
unfolding sum_to
sum-cong zero f g h = refl
sum-cong (suc n) f g h = ap₂ ◌+◌ (sum-cong n f g (λ k l. h k (omega arith))) (h n (lt-suc_self n))

-- summands that are 0 have the sum 0
pub sum-zero : (n : ℕ) (f : ℕ → ℕ) → ((k : ℕ) → k < n → f k ≡ 0) → sum_to n f ≡ 0
unfolding sum_to
sum-zero zero f h = refl
sum-zero (suc n) f h = ap₂ ◌+◌ (sum-zero n f (λ k l. h k (omega arith))) (h n (lt-suc_self n))

-- one summand more
pub sum-next : (n : ℕ) (f : ℕ → ℕ) → sum_to (n + 1) f ≡ sum_to n f + f n
unfolding sum_to
sum-next n f = rw add-one

-- smaller summands have a smaller sum
pub sum-smaller : (n : ℕ) (f g : ℕ → ℕ) → ((k : ℕ) → k < n → f k ≤ g k) → sum_to n f ≤ sum_to n g
unfolding sum_to
sum-smaller zero f g h = omega arith
sum-smaller (suc n) f g h = omega (arith, sum-smaller n f g (λ k l. h k (omega arith)), h n (lt-suc_self n))

-- a summand is at most the sum
pub sum-le : (n : ℕ) (f : ℕ → ℕ) (k : ℕ) → k < n → f k ≤ sum_to n f
unfolding sum_to
sum-le zero f k h = absurd (not-suc-le-zero h)
sum-le (suc n) f k h =
    ⊎_elim
    (λ e. rw e (omega arith))
    (λ l. omega (arith, sum-le n f k l))
    (eq-or-lt_of_le (le_of_suc-le-suc h))

-- the first a summands, and the b after them
pub sum-split : (a b : ℕ) (f : ℕ → ℕ) → sum_to (a + b) f ≡ sum_to a f + sum_to b (λ k. f (a + k))
unfolding sum_to
sum-split a zero f = simp add-zero
sum-split a (suc b) f = rw add-suc (ap (λ (s : ℕ). s + f (a + b)) (sum-split a b f) ∙ add_assoc (sum_to a f) (sum_to b (λ k. f (a + k))) (f (a + b)))

-- the first summands are at most the sum
pub sum-some : (m n : ℕ) (f : ℕ → ℕ) → m ≤ n → sum_to m f ≤ sum_to n f
sum-some m n f h = omega (arith, sum-split m (n - m) f, ap (λ (k : ℕ). sum_to k f) {x = m + (n - m)} {y = n} (omega arith))

-- a sum over all symbols, each moved by c modulo q, is the sum over all symbols
pub sum-shift : (q c : ℕ) (f : ℕ → ℕ) → c < q → sum_to q (λ x. f ((x + c) % q)) ≡ sum_to q f
sum-shift q c f h =
    let d : ℕ = q - c in
    let e : d + c ≡ q = omega arith in
    let e' : c + d ≡ q = omega arith in
    let g : ℕ → ℕ = λ x. f ((x + c) % q) in
    let low : sum_to d g ≡ sum_to d (λ k. f (c + k)) = sum-cong d g (λ k. f (c + k)) (λ k l. ap f (mod-eq_of_lt (omega arith) ∙ add_comm k c)) in
    let high : sum_to c (λ k. g (d + k)) ≡ sum_to c f
    = sum-cong c (λ k. g (d + k)) f (λ k l. ap f (ap (λ (z : ℕ). z % q) (omega arith) ∙ add-mod_left q k ∙ mod-eq_of_lt (omega arith))) in
    ap (λ (n : ℕ). sum_to n g) (sym e)
    ∙ sum-split d c g
    ∙ ap₂ ◌+◌ low high
    ∙ add_comm (sum_to d (λ k. f (c + k))) (sum_to c f)
    ∙ sym (sum-split c d f)
    ∙ ap (λ (n : ℕ). sum_to n f) e'

-- the sum of sums of two
pub sum-add : (n : ℕ) (f g : ℕ → ℕ) → sum_to n (λ k. f k + g k) ≡ sum_to n f + sum_to n g
unfolding sum_to
sum-add zero f g = refl
sum-add (suc n) f g = omega (arith, sum-add n f g)

-- m groups of n
pub sum-grid : (m n : ℕ) (f : ℕ → ℕ) → sum_to (m * n) f ≡ sum_to m (λ u. sum_to n (λ v. f (u * n + v)))
unfolding sum_to
sum-grid zero n f = ap (λ (k : ℕ). sum_to k f) (zero-mul n)
sum-grid (suc m) n f =
    ap (λ (k : ℕ). sum_to k f) (suc-mul m n)
    ∙ sum-split (m * n) n f
    ∙ ap (λ (s : ℕ). s + sum_to n (λ v. f (m * n + v))) (sum-grid m n f)

-- the first summand by itself
pub sum-front : (n : ℕ) (f : ℕ → ℕ) → sum_to (suc n) f ≡ f 0 + sum_to n (λ k. f (suc k))
unfolding sum_to
sum-front zero f = omega arith
sum-front (suc n) f = omega (arith, sum-front n f)

-- two sums whose summands are equal but for one
pub sum-but-one : (n : ℕ) (f g : ℕ → ℕ) (k : ℕ) → k < n → ((i : ℕ) → i < n → i ≢ k → f i ≡ g i) → sum_to n f + g k ≡ sum_to n g + f k
unfolding sum_to
sum-but-one zero f g k h same = absurd (not-suc-le-zero h)
sum-but-one (suc n) f g k h same =
    ⊎_elim
    (λ c. omega (arith, sum-cong n f g (λ i l. same i (omega arith) (omega arith)), ap f c, ap g c))
    (λ c. omega (arith, sum-but-one n f g k c (λ i l. same i (omega arith)), same n (lt-suc_self n) (omega arith)))
    (eq-or-lt_of_le (le_of_suc-le-suc h))

-- one summand, where the others are 0
pub sum-only : (n : ℕ) (f : ℕ → ℕ) (k : ℕ) → k < n → ((i : ℕ) → i < n → i ≢ k → f i ≡ 0) → sum_to n f ≡ f k
sum-only n f k h z = omega (arith, sum-but-one n f (λ _. 0) k h z, sum-zero n (λ _. 0) (λ i l. refl))

-- a 1 at k, and 0 elsewhere
pub sum_one : (n : ℕ) (f : ℕ → ℕ) (k : ℕ) → k < n → f k ≡ 1 → ((i : ℕ) → i < n → i ≢ k → f i ≡ 0) → sum_to n f ≡ 1
sum_one n f k h e z = sum-only n f k h z ∙ e

-- the first d summands, where the others are 0
pub sum_first : (n d : ℕ) (f : ℕ → ℕ) → d ≤ n → ((i : ℕ) → d ≤ i → i < n → f i ≡ 0) → sum_to n f ≡ sum_to d f
unfolding sum_to
sum_first zero d f h z = let e : 0 ≡ d = omega arith in ap (λ (k : ℕ). sum_to k f) e
sum_first (suc n) d f h z =
    ⊎_elim
    (λ e. ap (λ (k : ℕ). sum_to k f) (sym e))
    (λ l. omega (arith, sum_first n d f (omega arith) (λ i a b. z i a (omega arith)), z n (omega arith) (lt-suc_self n)))
    (eq-or-lt_of_le h)

-- a multiple of a sum
pub sum-mul : (n c : ℕ) (f : ℕ → ℕ) → sum_to n (λ k. c * f k) ≡ c * sum_to n f
unfolding sum_to
sum-mul zero c f = omega arith
sum-mul (suc n) c f = omega (arith, sum-mul n c f)

-- sums of sums, the other way round
pub sum-swap : (m n : ℕ) (f : ℕ → ℕ → ℕ) → sum_to m (λ i. sum_to n (λ j. f i j)) ≡ sum_to n (λ j. sum_to m (λ i. f i j))
unfolding sum_to
sum-swap zero n f = sym (sum-zero n (λ j. 0) (λ j l. refl))
sum-swap (suc m) n f =
    ap (λ (z : ℕ). z + sum_to n (f m)) (sum-swap m n f)
    ∙ sym (sum-add n (λ j. sum_to m (λ i. f i j)) (f m))
