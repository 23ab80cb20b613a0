-- A ring from the five numbers that a caller lends in one run: K, d, n, R and q.
use Rattle.std.specs.Prelude.{ℕ, List}
use Rattle.lists.specs.Lists.{at}
use Rattle.networks.specs.declared.Ring.{Ring}

abbrev pub ring_of : List ℕ → Ring
ring_of counts = record { size = at counts 0; links = at counts 1; parts = at counts 2; rate = at counts 3; q = at counts 4 }
