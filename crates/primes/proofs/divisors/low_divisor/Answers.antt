-- The tables fit the primes, by a test that antt computes.
use mathlib.Core.Path.{◌∙◌}
use borrow.Author.Rules.{rules}
use Rattle.pseudoprimes.proofs.Tables.{low_primes}
use Rattle.primes.proofs.Exact.{fitted, exact-table}
use Rattle.primes.proofs.divisors.low_divisor.Goals as goal

pub returns : goal.returns
unfolding fitted low_primes
returns c = c.any_exact.ensures ∙ exact-table _ low_primes _ _ (search rules) tt
