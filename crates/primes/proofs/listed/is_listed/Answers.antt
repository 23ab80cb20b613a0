-- The table is the list, which antt computes.
use Rattle.pseudoprimes.proofs.Tables.{listed_numbers, listed_tree, flat}
use Rattle.primes.specs.Trying.{is_ascending}
use Rattle.primes.proofs.listed.is_listed.Goals as goal

pub stands_in-requires : goal.stands_in-requires
unfolding is_ascending
stands_in-requires c = tt

pub returns : goal.returns
unfolding listed_numbers listed_tree flat
returns c = c.stands_in.ensures
