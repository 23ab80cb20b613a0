use borrow.Author.Tests.{lt-ltb, le-ltb}
use native.Mathlib.Omega.{arith}
use Rattle.testing.specs.Numbers.{clip_of}
use Rattle.testing.proofs.numbers.clip.Goals as goal

pub returns-then-n-most : goal.returns-then-n-most
unfolding clip_of
returns-then-n-most c = record {
  exact = rw (lt-ltb _ _ c.if-n-most.true);
  fits = omega arith;
}

pub returns-else-n-most : goal.returns-else-n-most
unfolding clip_of
returns-else-n-most c = record {
  exact = rw (le-ltb _ _ c.if-n-most.false);
  fits = omega arith;
}
