-- The primes of a table are all: what none of them divides, nothing below the table's end divides.
use mathlib.Core.Path.{◌≡◌, ap, ◌∙◌}
use mathlib.Core.Logic.{◌≢◌, ⊎_elim}
use mathlib.Core.Bool.{Bool, false, ◌||◌}
use mathlib.Core.List.{List}
use Prim.Native.Nat.{ℕ, ◌+◌, ◌-◌, ◌%◌, ◌≤◌, ◌<◌}
use native.Mathlib.Omega.{arith}
use lib.Dec.{T, eqb, eqb→eq}
use Rattle.lists.specs.Search.{all_to}
use Rattle.lists.proofs.Searches.{T-or, not-T→false, false→not-T, all-at}
use Rattle.residues.proofs.PrimeLaws.{Undivided}
use Rattle.pseudoprimes.proofs.Tables.{any_in, some_divides, low_primes, high_primes, odd_primes}
use Rattle.pseudoprimes.proofs.TableLaws.{eq→T, any-map, any_append}
use Rattle.pseudoprimes.proofs.Divisors.{divides-through}

-- is 2 + k even, or does one of the list divide it?
abbrev covers : List ℕ → ℕ → Bool
covers ds k = eqb ((2 + k) % 2) 0 || some_divides (2 + k) ds

undivided-by : (q n : ℕ) (ds : List ℕ) → q % 2 ≡ 1 → T (all_to n (covers ds)) → some_divides q ds ≡ false → Undivided q (2 + n)
undivided-by q n ds odd t out = record { none = none }
  where
    none : (e : ℕ) → 2 ≤ e → e < 2 + n → q % e ≢ 0
    none e h l z =
        let c : ℕ = 2 + (e - 2) in
        let y : q % c ≡ 0 = ap (λ (x : ℕ). q % x) (omega arith) ∙ z in
        let through : (d : ℕ) → T (eqb (c % d) 0) → T (eqb (q % d) 0) = λ d w. eq→T (q % d) 0 (divides-through q c d y (eqb→eq (c % d) 0 w)) in
        ⊎_elim
        (λ x. omega (arith, eqb→eq (q % 2) 0 (through 2 x)))
        (λ x. false→not-T (some_divides q ds) out (any-map (λ d. eqb (c % d) 0) (λ d. eqb (q % d) 0) through ds x))
        (T-or (eqb (c % 2) 0) (some_divides c ds) (all-at n (covers ds) t (e - 2) (omega arith)))

low-covered : T (all_to 255 (covers low_primes))
unfolding all_to any_in low_primes
low-covered = tt

odd-covered : T (all_to 1625 (covers odd_primes))
unfolding all_to any_in low_primes high_primes
odd-covered = tt

module _ (q : ℕ) (odd : q % 2 ≡ 1) (low : some_divides q low_primes ≡ false) where
  pub low-undivided : Undivided q 257
  low-undivided = undivided-by q 255 low_primes odd low-covered low

  pub odd-undivided : some_divides q high_primes ≡ false → Undivided q 1627
  odd-undivided high =
      undivided-by q 1625 odd_primes odd odd-covered
      (not-T→false (some_divides q odd_primes)
      (λ t.
      ⊎_elim
      (false→not-T (some_divides q low_primes) low)
      (false→not-T (some_divides q high_primes) high)
      (any_append (λ d. eqb (q % d) 0) low_primes high_primes t)))
