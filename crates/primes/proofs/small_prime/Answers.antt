-- The words tell the primes, by a test that antt computes.
use native.Mathlib.Omega.{arith}
use Rattle.lists.specs.Search.{all_to}
use Rattle.residues.specs.Primes.{is_prime}
use Rattle.primes.proofs.Words.{told}
use Rattle.primes.proofs.small_prime.Goals as goal
use Rattle.primes.proofs.small_prime.Goals.{in-0, in-1, in-2, in_default}

pub returns : goal.returns
unfolding is_prime all_to
returns c =
    let q = c.args.q in
    elim c.match-q-div64.branch [
      | in-0 w ↦ told q 0 _ tt w.in-0.is w.word-is
      | in-1 w ↦ told q 1 _ tt w.in-1.is w.word-is
      | in-2 w ↦ told q 2 _ tt w.in-2.is w.word-is
      | in_default w ↦ told q 3 _ tt (omega (arith, c.requires)) w.word-is
    ]
