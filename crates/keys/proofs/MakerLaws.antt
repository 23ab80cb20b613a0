-- The made table: its rate, its rows, and what the vet finds before it looks for leaks: nothing.
use Rattle.std.proofs.Common.{◌≡◌, ℕ, zero, suc, ◌+◌, ◌-◌, ◌*◌, ◌/◌, ◌%◌, ◌^◌, ◌<◌, ◌≤◌, Bool, true, false, cond, not, ◌&&◌, eqb, ltb, leb, List, [], ◌∷◌, ◌++◌, map, length, take, drop, sym, refl, ap, ◌∙◌, subst, ap₂, mod-lt, mod-eq_of_lt, div-lt_iff_lt-mul, mul-zero, arith, le-ltb, lt-ltb, eq-eqb, ne_eqb, le-leb, leb-false}
use native.Mathlib.Nat.{mod-add-mod}
use lib.Arith.{digits_lt, digits_div, digits_mod}
use borrow.Author.Tests.{not-false}
use Rattle.secrecy.specs.Model.{column_sum, ZeroSum}
use Rattle.refusals.specs.declared.Code.{Code}
use Rattle.refusals.specs.Codes.{code, accepted, first_of}
use Rattle.refusals.proofs.CodeLaws.{NoneHolds, none-holds}
use Rattle.residues.specs.Primes.{Prime, is_prime, all_below}
use Rattle.residues.specs.Field.{residue, power_of, opposite_of}
use Rattle.lists.proofs.Searches.{T→true}
use Rattle.residues.proofs.Congruence.{residue-mod}
use Rattle.residues.proofs.PrimeLaws.{true-prime, prime-true, at-below}
use Rattle.residues.proofs.PowerLaws.{power-is}
use Rattle.residues.proofs.FieldLaws.{opposite-sum}
use Rattle.lists.specs.Lists.{at, tab}
use Rattle.lists.specs.Sums.{sum_to}
use Rattle.lists.proofs.Sums.{sum-cong}
use Rattle.lists.proofs.ListLaws.{at-tab, length-tab, tab-cong, tab-at, tab-append}
use Rattle.plans.specs.declared.Plan.{Plan}
use Rattle.plans.specs.Plans.{users_of, counts_fit, in_bounds}
use Rattle.vetting.specs.Pools.{pool_of}
use Rattle.vetting.specs.Walk.{pairs}
use Rattle.vetting.specs.Vet.{column_check, leak_check, other_checks, vet_checks, vet_code}
use Rattle.keys.specs.Maker.{rate_of, plan_of, entry, last_entry, made_table, maker_checks}
use Rattle.refusals.proofs.Orders.{none-decide, first-accepts}
use Rattle.plans.proofs.PlanBounds.{Counts, counts-known, some-users, Bounds, bounds-known}
use Rattle.lists.proofs.Fronts.{length_part, part_at}

-- ---- the rate

-- where a limit is at most (U − 1) V, R is from 1 to 16
module _ (u v t : ℕ) (c : Counts u v t) (below : t ≤ (u - 1) * v) where
  -- V + T is at most U V
  room : v + t ≤ u * v
  room =
      let m : ℕ = u - 1 in
      let e : u ≡ m + 1 = omega (arith, c.some-clusters) in
      omega (arith, ap (λ (z : ℕ). z * v) e, below)

  pub rate-low : 1 ≤ rate_of u v t
  rate-low = omega (arith, c.some_size)

  pub rate-high : rate_of u v t ≤ 16
  rate-high = omega (arith, room, c.few-users)

pub made-bounds : (u v t q : ℕ) → counts_fit u v t ≡ true → t ≤ (u - 1) * v → in_bounds (plan_of u v t q) ≡ true
made-bounds u v t q e h =
    let c : Counts u v t = counts-known u v t e in
    ap (λ (b : Bool). b && leb 1 (rate_of u v t) && leb (rate_of u v t) 16) e
    ∙ ap₂ (λ (a b : Bool). a && b) (le-leb 1 (rate_of u v t) (rate-low u v t c h)) (le-leb (rate_of u v t) 16 (rate-high u v t c h))

-- ---- lists made of their entries

pub tab-part : (n : ℕ) (f : ℕ → ℕ) (b k : ℕ) → b + k ≤ n → tab k (λ j. f (b + j)) ≡ take k (drop b (tab n f))
tab-part n f b k h =
    tab-at k (λ j. f (b + j)) (take k (drop b (tab n f))) (length_part k b (tab n f) (omega (arith, length-tab n f)))
    (λ j l. sym (part_at k b (tab n f) j l ∙ at-tab n f (b + j) (omega arith)))

-- ---- the rows

-- 1 followed by zeros are the powers of 0
zero-power : (q k : ℕ) → 2 ≤ q → power_of q 0 k ≡ cond (eqb k 0) 1 0
unfolding power_of
zero-power q zero h = residue-mod q 1 (omega arith) ∙ mod-eq_of_lt (omega arith)
zero-power q (suc k) h =
    rw (ne_eqb (suc k) 0 (λ e. omega arith))
    (ap (residue q) (mul-zero (power_of q 0 k)) ∙ residue-mod q 0 (omega arith) ∙ mod-eq_of_lt (omega arith))

-- so each row but the last holds the powers of one symbol
pub entry-power : (q γ i k : ℕ) → 2 ≤ q → power_of q (cond (eqb i 0) 0 (power_of q γ i)) k ≡ entry q γ i k
unfolding entry
entry-power q γ i k h = go (eqb i 0)
  where
    go : (b : Bool) → power_of q (cond b 0 (power_of q γ i)) k ≡ cond b (cond (eqb k 0) 1 0) (power_of q (power_of q γ i) k)
    go true = zero-power q k h
    go false = refl

-- the made table by its number of rows and columns
abbrev pub cell : (q γ n R x : ℕ) → ℕ
cell q γ n R x = cond (ltb (x / R) (n - 1)) (entry q γ (x / R) (x % R)) (last_entry q γ n (x % R))

module _ (q γ n R : ℕ) where
  cell-entry : (i k : ℕ) → i < n - 1 → k < R → cell q γ n R (i * R + k) ≡ entry q γ i k
  cell-entry i k h l =
      ap₂ (λ (a b : ℕ). cond (ltb a (n - 1)) (entry q γ a b) (last_entry q γ n b)) (digits_div i l) (digits_mod i l)
      ∙ ap (λ (b : Bool). cond b (entry q γ i k) (last_entry q γ n k)) (lt-ltb i (n - 1) h)

  cell-last : (k : ℕ) → k < R → cell q γ n R ((n - 1) * R + k) ≡ last_entry q γ n k
  cell-last k l =
      ap₂ (λ (a b : ℕ). cond (ltb a (n - 1)) (entry q γ a b) (last_entry q γ n b)) (digits_div (n - 1) l) (digits_mod (n - 1) l)
      ∙ ap (λ (b : Bool). cond b (entry q γ (n - 1) k) (last_entry q γ n k)) (le-ltb (n - 1) (n - 1) (omega arith))

  -- all rows but the last, and the last
  pub made-split : 1 ≤ n → 1 ≤ R → tab ((n - 1) * R) (λ x. entry q γ (x / R) (x % R)) ++ tab R (last_entry q γ n) ≡ tab (n * R) (cell q γ n R)
  made-split h k =
      let m : ℕ = n - 1 in
      let e : n ≡ m + 1 = omega arith in
      let size : n * R ≡ m * R + R = omega (arith, ap (λ (z : ℕ). z * R) e) in
      sym
      (ap (λ (z : ℕ). tab z (cell q γ n R)) size
      ∙ tab-append (m * R) R (cell q γ n R)
      ∙ ap₂ ◌++◌
      (tab-cong (m * R) (cell q γ n R) (λ x. entry q γ (x / R) (x % R))
      (λ x l. ap (λ (b : Bool). cond b (entry q γ (x / R) (x % R)) (last_entry q γ n (x % R))) (lt-ltb (x / R) m ((div-lt_iff_lt-mul (omega arith)).1 l))))
      (tab-cong R (λ k. cell q γ n R (m * R + k)) (last_entry q γ n) cell-last))

  -- every symbol is below q
  residue-below : (x : ℕ) → 2 ≤ q → residue q x < q
  residue-below x h = subst (λ (z : ℕ). z < q) (sym (residue-mod q x (omega arith))) (mod-lt x (omega arith))

  entry-below : (i k : ℕ) → 2 ≤ q → entry q γ i k < q
  unfolding entry
  entry-below i k h = go (eqb i 0) (eqb k 0)
    where
      go : (a b : Bool) → cond a (cond b 1 0) (power_of q (power_of q γ i) k) < q
      go true true = h
      go true false = omega arith
      go false b = subst (λ (z : ℕ). z < q) (sym (power-is q (power_of q γ i) k)) (residue-below (power_of q γ i ^ k) h)

  cell_below : (x : ℕ) → 2 ≤ q → cell q γ n R x < q
  unfolding last_entry
  cell_below x h = go (ltb (x / R) (n - 1))
    where
      go : (b : Bool) → cond b (entry q γ (x / R) (x % R)) (last_entry q γ n (x % R)) < q
      go true = entry-below (x / R) (x % R) h
      go false = residue-below (q - sum_to (n - 1) (λ i. entry q γ i (x % R)) % q % q) h

  -- every column sums to 0
  column-zero : (k : ℕ) → 1 ≤ n → 2 ≤ q → k < R → sum_to n (λ i. at (tab (n * R) (cell q γ n R)) (i * R + k)) % q ≡ 0
  unfolding sum_to last_entry
  column-zero k some two h =
      let m : ℕ = n - 1 in
      let e : n ≡ suc m = omega arith in
      let K : List ℕ = tab (n * R) (cell q γ n R) in
      let S : ℕ = sum_to m (λ i. entry q γ i k) in
      let inside : (i : ℕ) → i < n → i * R + k < n * R = λ i l. digits_lt l h in
      ap (λ (z : ℕ). sum_to z (λ i. at K (i * R + k)) % q) e
      ∙ ap₂ (λ (a b : ℕ). (a + b) % q)
      (sum-cong m (λ i. at K (i * R + k)) (λ i. entry q γ i k) (λ i l. at-tab (n * R) (cell q γ n R) (i * R + k) (inside i (omega arith)) ∙ cell-entry i k l h))
      (at-tab (n * R) (cell q γ n R) (m * R + k) (inside m (omega arith)) ∙ cell-last k h)
      ∙ sym (mod-add-mod S q (opposite_of q (S % q)))
      ∙ sym (residue-mod q (S % q + opposite_of q (S % q)) (omega arith))
      ∙ opposite-sum q (S % q)

-- ---- the made table of a plan, before the vet looks for leaks

none-tab : (f : ℕ → Bool × Code) (n : ℕ) (g : ℕ → ℕ) → ((k : ℕ) → k < n → (f (g k)).0 ≡ false) → NoneHolds (map f (tab n g))
unfolding tab
none-tab f zero g h = tt
none-tab f (suc n) g h = (h 0 (omega arith), none-tab f n (λ k. g (suc k)) (λ k l. h (suc k) (omega arith)))

module _ (P : Plan) (γ : ℕ) (b : Bounds P) (p : Prime P.q) (e : P.rate ≡ rate_of P.clusters P.size P.limit) where
  abbrev pub table_of : List ℕ
  table_of = made_table P.clusters P.size P.limit P.q γ

  pub made-is : tab (users_of P * P.rate) (cell P.q γ (users_of P) P.rate) ≡ table_of
  unfolding made_table
  made-is = ap (λ (R : ℕ). tab (users_of P * R) (cell P.q γ (users_of P) R)) e

  pub made-length : length table_of ≡ users_of P * P.rate
  made-length = ap length (sym made-is) ∙ length-tab (users_of P * P.rate) (cell P.q γ (users_of P) P.rate)

  pub made-below : all_below P.q table_of ≡ true
  made-below =
      let f : ℕ → ℕ = cell P.q γ (users_of P) P.rate in
      let n : ℕ = users_of P * P.rate in
      ap (all_below P.q) (sym made-is)
      ∙ T→true (all_below P.q (tab n f))
      (at-below P.q (tab n f) (λ i l. subst (λ (z : ℕ). z < P.q) (sym (at-tab n f i (omega (arith, length-tab n f))))
      (cell_below P.q γ (users_of P) P.rate i p.two)))

  pub made-zero-sum : ZeroSum (pool_of P table_of)
  unfolding column_sum
  made-zero-sum k h =
      ap (λ (K : List ℕ). sum_to (users_of P) (λ i. at K (i * P.rate + k)) % P.q) (sym made-is)
      ∙ column-zero P.q γ (users_of P) P.rate k (some-users b.counts) p.two h

  -- so the vet finds what the walk finds
  pub made-verdict : in_bounds P ≡ true → first_of (vet_checks P table_of) ≡ first_of (map (leak_check P table_of) (pairs P.clusters P.size P.limit))
  made-verdict within =
      none-decide (other_checks P table_of) (map (leak_check P table_of) (pairs P.clusters P.size P.limit)) (
        ap not within,
        (
          ap not (eq-eqb (length table_of) (users_of P * P.rate) made-length),
          (
            ap not (prime-true P.q p),
            (
              ap not made-below,
              none-tab (column_check P table_of) P.rate (λ k. k) (λ k l. ap not (eq-eqb (column_sum (pool_of P table_of) k) 0 (made-zero-sum k l))),
            ),
          ),
        ),
      )

-- ---- the maker vets its own table

-- its checks before that
abbrev pub own_checks : ℕ → ℕ → ℕ → ℕ → ℕ → List ℕ → List (Bool × Code)
own_checks u v t q γ out =
    (not (counts_fit u v t), code 1)
    ∷ (not (is_prime q), code 2)
    ∷ (not (ltb γ q), code 3)
    ∷ (leb ((u - 1) * v) t, code 10)
    ∷ (not (eqb (length out) (u * v * rate_of u v t)), code 4)
    ∷ []

module _ (u v t q γ : ℕ) (out : List ℕ) where
  -- where none of them refuses, the maker's code is the vet's
  pub maker-vets : NoneHolds (own_checks u v t q γ out) → first_of (maker_checks u v t q γ out) ≡ vet_code (plan_of u v t q) (made_table u v t q γ)
  maker-vets n =
      let P : Plan = plan_of u v t q in
      let walk : List (Bool × Code) = map (leak_check P (made_table u v t q γ)) (pairs u v t) in
      let within : in_bounds P ≡ true = made-bounds u v t q (not-false (counts_fit u v t) n.0) (omega (arith, leb-false ((u - 1) * v) t n.1.1.1.0)) in
      none-decide (own_checks u v t q γ out) walk n
      ∙ sym (made-verdict P γ (bounds-known P within) (true-prime q (not-false (is_prime q) n.1.0)) refl within)

  -- so the vet accepts what the maker makes
  pub made-vetted : accepted ≡ first_of (maker_checks u v t q γ out) → accepted ≡ vet_code (plan_of u v t q) (made_table u v t q γ)
  made-vetted e =
      let walk : List (Bool × Code) = map (leak_check (plan_of u v t q) (made_table u v t q γ)) (pairs u v t) in
      e ∙ maker-vets (none-holds (own_checks u v t q γ out) tt (first-accepts (own_checks u v t q γ out) walk tt e))
