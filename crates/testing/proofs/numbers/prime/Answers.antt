use Rattle.testing.specs.Numbers.{prime_of}
use Rattle.testing.proofs.numbers.prime.Goals as goal

pub returns : goal.returns
unfolding prime_of
returns c = rw c.clip.ensures.exact
