-- What the counts of a plan satisfy, where they are within their bounds.
use Prim.Native.Nat.{ℕ, zero, suc, ◌+◌, ◌-◌, ◌*◌, ◌/◌, ◌%◌, ◌^◌, ◌≤◌, ◌<◌}
use mathlib.Core.Path.{◌≡◌, ap, ◌∙◌}
use mathlib.Core.Bool.{Bool, true, not, ◌&&◌}
use mathlib.Core.List.{List, [], ◌∷◌}
use mathlib.Core.Logic.{◌≢◌}
use native.Mathlib.Nat.{mul-le-mul, mod-lt, div-add-mod', div-lt_iff_lt-mul}
use native.Mathlib.Decide.{dec_lt}
use native.Mathlib.Omega.{arith}
use lib.Dec.{T, T_not, leb, eqb, leb→le, eqb→eq}
use lib.ListN.{length}
use borrow.Author.Tests.{eq-eqb}
use Rattle.lists.specs.Lists.{at}
use Rattle.lists.specs.Search.{all_to}
use Rattle.residues.specs.Primes.{Prime}
use Rattle.lists.proofs.Searches.{T→true, true→T, T_and, all-at, one_known}
use Rattle.residues.proofs.PrimeLaws.{undivided-prime}
use Rattle.plans.specs.declared.Plan.{Plan}
use Rattle.plans.specs.Plans.{users_of, counts_fit, length_fits, in_bounds, LargestPrime}

pub record Counts (u v t : ℕ) : Type 0 where
  pub some-clusters : 1 ≤ u
  pub few-clusters : u ≤ 8
  pub some_size : 1 ≤ v
  pub few-size : v ≤ 8
  pub few-users : u * v ≤ 16
  pub within : t ≤ u * v

pub counts-known : (u v t : ℕ) → counts_fit u v t ≡ true → Counts u v t
counts-known u v t e =
    let (f, s) = T_and (leb 1 u && leb u 8 && leb 1 v && leb v 8 && leb (u * v) 16) (leb t (u * v)) (true→T (counts_fit u v t) e) in
    let (f₁, s₁) = T_and (leb 1 u && leb u 8 && leb 1 v && leb v 8) (leb (u * v) 16) f in
    let (f₂, s₂) = T_and (leb 1 u && leb u 8 && leb 1 v) (leb v 8) f₁ in
    let (f₃, s₃) = T_and (leb 1 u && leb u 8) (leb 1 v) f₂ in
    let (f₄, s₄) = T_and (leb 1 u) (leb u 8) f₃ in
    record {
      some-clusters = leb→le 1 u f₄;
      few-clusters = leb→le u 8 s₄;
      some_size = leb→le 1 v s₃;
      few-size = leb→le v 8 s₂;
      few-users = leb→le (u * v) 16 s₁;
      within = leb→le t (u * v) s;
    }

pub some-users : {u v t : ℕ} → Counts u v t → 1 ≤ u * v
some-users {u} {v} c = mul-le-mul {n₁ = 1} {m₁ = 1} {n₂ = u} {m₂ = v} c.some-clusters c.some_size

pub record Bounds (P : Plan) : Type 0 where
  pub counts : Counts P.clusters P.size P.limit
  pub some-symbols : 1 ≤ P.rate
  pub few-symbols : P.rate ≤ 16

pub bounds-known : (P : Plan) → in_bounds P ≡ true → Bounds P
bounds-known P e =
    let (f, s) = T_and (counts_fit P.clusters P.size P.limit && leb 1 P.rate) (leb P.rate 16) (true→T (in_bounds P) e) in
    let (f₁, s₁) = T_and (counts_fit P.clusters P.size P.limit) (leb 1 P.rate) f in
    record {
      counts = counts-known P.clusters P.size P.limit (T→true (counts_fit P.clusters P.size P.limit) f₁);
      some-symbols = leb→le 1 P.rate s₁;
      few-symbols = leb→le P.rate 16 s;
    }

-- a key table has at most 256 symbols
pub few-numbers : {P : Plan} → Bounds P → users_of P * P.rate ≤ 16 * 16
few-numbers {P} b = mul-le-mul {n₁ = users_of P} {m₁ = P.rate} {n₂ = 16} {m₂ = 16} b.counts.few-users b.few-symbols

-- and what the length of a block satisfies
pub length-known : (L : ℕ) → length_fits L ≡ true → (1 ≤ L) × (L ≤ 64)
length-known L e = one_known 64 L e

-- ---- the largest prime of a width

-- does nothing from 2 below 2 + m n divide q? In m tests of n, so that none is nested deep
abbrev undivided : ℕ → ℕ → ℕ → Bool
undivided q m n = all_to m (λ i. all_to n (λ j. not (eqb (q % (2 + (i * n + j))) 0)))

undivided-none : (q m n : ℕ) → T (undivided q m n) → (e : ℕ) → 2 ≤ e → e < m * n → q % e ≢ 0
undivided-none q m n t e two h divides =
    let k : ℕ = e - 2 in
    let pos : 0 < n = some n h in
    let row : k / n < m = (div-lt_iff_lt-mul pos).1 (omega arith) in
    let z : q % (2 + (k / n * n + k % n)) ≡ 0 = ap (λ (d : ℕ). q % d) (omega (arith, div-add-mod' k n)) ∙ divides in
    let tests = all-at m (λ i. all_to n (λ j. not (eqb (q % (2 + (i * n + j))) 0))) t (k / n) row in
    let test = all-at n (λ j. not (eqb (q % (2 + (k / n * n + j))) 0)) tests (k % n) (mod-lt k pos) in
    T_not (eqb (q % (2 + (k / n * n + k % n))) 0) test (true→T _ (eq-eqb (q % (2 + (k / n * n + k % n))) 0 z))
  where
    some : (n : ℕ) → e < m * n → 0 < n
    some zero l = absurd (omega arith)
    some (suc n) l = omega arith

-- does each number of the list divide the one that stands in its place after q?
abbrev divided : ℕ → List ℕ → Bool
divided q ds = all_to (length ds) (λ k. leb 2 (at ds k) && leb (at ds k) q && eqb ((suc q + k) % at ds k) 0)

divided-none : (q : ℕ) (ds : List ℕ) → T (divided q ds) → (p : ℕ) → p < suc q + length ds → Prime p → p ≤ q
divided-none q ds t p h prime = go (dec_lt q p)
  where
    go : Dec (q < p) → p ≤ q
    go (no n) = omega arith
    go (yes l) =
        let k : ℕ = p - suc q in
        let d : ℕ = at ds k in
        let test = all-at (length ds) (λ k. leb 2 (at ds k) && leb (at ds k) q && eqb ((suc q + k) % at ds k) 0) t k (omega arith) in
        let (fit, e) = T_and (leb 2 d && leb d q) (eqb ((suc q + k) % d) 0) test in
        let (two, low) = T_and (leb 2 d) (leb d q) fit in
        let small : d ≤ q = leb→le d q low in
        absurd (prime.none d (leb→le 2 d two) (omega arith) (ap (λ (n : ℕ). n % d) (omega arith) ∙ eqb→eq ((suc q + k) % d) 0 e))

-- q is a prime, by all divisors up to its root, and each number after it up to the width has a divisor
largest-by : (q m n : ℕ) (ds : List ℕ) → 2 ≤ q → q < m * n * (m * n) → T (undivided q m n) → T (divided q ds) → LargestPrime (suc q + length ds) q
largest-by q m n ds two h t u =
    record {
      prime = undivided-prime q (m * n) two h (record { none = undivided-none q m n t });
      fits = omega arith;
      largest = divided-none q ds u;
    }

pub largest-prime : LargestPrime (2 ^ 32) 4294967291
unfolding all_to
largest-prime = largest-by 4294967291 256 256 (2 ∷ 9241 ∷ 2 ∷ 3 ∷ []) (omega arith) (omega arith) tt tt
