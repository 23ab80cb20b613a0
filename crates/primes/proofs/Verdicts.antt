-- What each answer of the test stands on.
use mathlib.Core.Path.{◌≡◌, sym, ◌∙◌}
use mathlib.Core.Logic.{◌≢◌}
use mathlib.Core.Bool.{Bool, true, false}
use mathlib.Core.List.{List}
use Prim.Native.Nat.{ℕ, ◌-◌, ◌*◌, ◌%◌, ◌^◌, ◌≤◌, ◌<◌}
use native.Mathlib.Nat.{mod-eq_of_lt}
use lib.Dec.{T}
use Rattle.lists.proofs.Searches.{true→T, false→not-T}
use Rattle.residues.specs.Primes.{is_prime}
use Rattle.residues.proofs.Congruence.{cong-one, to-mod}
use Rattle.residues.proofs.PrimeLaws.{prime-true, not-prime-false, undivided-prime}
use Rattle.pseudoprimes.proofs.Tables.{some_divides, member, low_primes, high_primes, listed_numbers}
use Rattle.pseudoprimes.proofs.TableLaws.{within, divided-composite}
use Rattle.pseudoprimes.proofs.Trial.{low-undivided, odd-undivided}
use Rattle.pseudoprimes.proofs.Fermat.{fermat}
use Rattle.pseudoprimes.proofs.Complete.{complete}

-- a prime of a table divides q, which is above them
pub divided-false : (n q : ℕ) (ds : List ℕ) (r : Bool) → T (within n ds) → n ≤ q → r ≡ some_divides q ds → r ≡ true → false ≡ is_prime q
divided-false n q ds r w h d e = sym (not-prime-false q (divided-composite n q ds w h (true→T (some_divides q ds) (sym d ∙ e))))

-- the power is not 1
pub fails-false : (q x : ℕ) → q % 2 ≡ 1 → x ≡ 2 ^ (q - 1) % q → x ≢ 1 → false ≡ is_prime q
fails-false q x odd e n = sym (not-prime-false q (λ p. n (e ∙ to-mod (fermat q p odd) ∙ mod-eq_of_lt p.two)))

-- no prime of the first table divides q
module _ (q : ℕ) (r : Bool) (two : 2 ≤ q) (odd : q % 2 ≡ 1) (low : r ≡ some_divides q low_primes) (no-low : r ≡ false) where
  pub low-true : q < 257 * 257 → true ≡ is_prime q
  low-true l = sym (prime-true q (undivided-prime q 257 two l (low-undivided q odd (sym low ∙ no-low))))

  -- and none of the second
  module _ (u : Bool) (high : u ≡ some_divides q high_primes) (no-high : u ≡ false) where
    pub high-true : q < 1627 * 1627 → true ≡ is_prime q
    high-true l = sym (prime-true q (undivided-prime q 1627 two l (odd-undivided q odd (sym low ∙ no-low) (sym high ∙ no-high))))

    -- and the power is 1, and q is not listed
    pub unlisted-true : (x : ℕ) → q < 4294967296 → x ≡ 2 ^ (q - 1) % q → x ≡ 1 → member q listed_numbers ≡ false → true ≡ is_prime q
    unlisted-true x top ex one e =
        sym
        (prime-true q
        (complete q two top odd (odd-undivided q odd (sym low ∙ no-low) (sym high ∙ no-high)) (cong-one q two (2 ^ (q - 1)) (sym ex ∙ one))
        (false→not-T (member q listed_numbers) e)))
