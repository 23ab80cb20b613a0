-- Each answer by its law. What is known at an answer is what the tests before it left, one after the other.
use mathlib.Core.Path.{◌≡◌, sym, ap, ◌∙◌}
use mathlib.Core.Bool.{true, false, not}
use Prim.Native.Nat.{ℕ}
use lib.Dec.{T}
use Rattle.residues.specs.Primes.{Prime, is_prime}
use native.Mathlib.Omega.{arith}
use borrow.Author.Tests.{ne_eqb}
use Rattle.lists.proofs.Searches.{not-T→false, T→true, T-decide}
use Rattle.residues.proofs.PrimeLaws.{not-prime-false}
use Rattle.pseudoprimes.proofs.Tables.{low_primes, high_primes, member, listed_numbers}
use Rattle.pseudoprimes.proofs.TableLaws.{low-within, high-within, listed-composite}
use Rattle.primes.proofs.Verdicts.{divided-false, fails-false, low-true, high-true, unlisted-true}
use Rattle.primes.proofs.listed.large_prime.Goals as goal

pub returns-then-low_divisor : goal.returns-then-low_divisor
returns-then-low_divisor c =
    divided-false 257 _ low_primes c.low_divisor.result low-within (omega (arith, c.requires.0, c.requires.1)) c.low_divisor.ensures c.if-low_divisor.true

pub returns-then-q-lt-LOW_SQUARE : goal.returns-then-q-lt-LOW_SQUARE
returns-then-q-lt-LOW_SQUARE c =
    low-true _ c.low_divisor.result (omega (arith, c.requires.0)) c.requires.1 c.low_divisor.ensures c.if-low_divisor.false
    (omega (arith, c.if-q-lt-LOW_SQUARE.true))

pub returns-then-high_divisor : goal.returns-then-high_divisor
returns-then-high_divisor c =
    divided-false 1627 _ high_primes c.high_divisor.result high-within (omega (arith, c.if-q-lt-LOW_SQUARE.false)) c.high_divisor.ensures c.if-high_divisor.true

pub returns-then-q-lt-HIGH_SQUARE : goal.returns-then-q-lt-HIGH_SQUARE
returns-then-q-lt-HIGH_SQUARE c =
    high-true _ c.low_divisor.result (omega (arith, c.requires.0)) c.requires.1 c.low_divisor.ensures c.if-low_divisor.false
    c.high_divisor.result c.high_divisor.ensures c.if-high_divisor.false (omega (arith, c.if-q-lt-HIGH_SQUARE.true))

pub returns-else-power_of_two-eq1 : goal.returns-else-power_of_two-eq1
returns-else-power_of_two-eq1 c =
    ne_eqb _ _ c.if-power_of_two-eq1.false ∙ fails-false _ c.power_of_two.result c.requires.1 c.power_of_two.ensures c.if-power_of_two-eq1.false

-- by the list
pub returns-then-power_of_two-eq1 : goal.returns-then-power_of_two-eq1
returns-then-power_of_two-eq1 c =
    let q = c.args.q in
    ap not c.is_listed.ensures
    ∙ by_list q (λ m. listed-composite q m)
    (λ m.
    unlisted-true q c.low_divisor.result (omega (arith, c.requires.0)) c.requires.1 c.low_divisor.ensures c.if-low_divisor.false
    c.high_divisor.result c.high_divisor.ensures c.if-high_divisor.false
    c.power_of_two.result (omega arith) c.power_of_two.ensures c.if-power_of_two-eq1.true m)
  where
    by_list : (q : ℕ) → (T (member q listed_numbers) → Prime q → ⊥) → (member q listed_numbers ≡ false → true ≡ is_prime q)
        → not (member q listed_numbers) ≡ is_prime q
    by_list q is isnt = decide (T-decide (member q listed_numbers))
      where
        decide : Dec (T (member q listed_numbers)) → not (member q listed_numbers) ≡ is_prime q
        decide (yes t) = ap not (T→true (member q listed_numbers) t) ∙ sym (not-prime-false q (is t))
        decide (no n) = let f = not-T→false (member q listed_numbers) n in ap not f ∙ isnt f
