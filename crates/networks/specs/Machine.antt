-- What private functions of the vet and the decoder ask and count. Nothing here has to be believed: proofs tie it to the checks of Rings.
use Rattle.std.specs.Prelude.{ℕ, zero, suc, ◌+◌, ◌*◌, ◌≤◌, ◌≡◌, List, T, length}
use Rattle.residues.specs.Primes.{Prime, all_below}
use Rattle.networks.specs.declared.Ring.{Ring}
use Rattle.networks.specs.Rings.{min_size, max_size, max_rate, max_parts}

-- the rows of an observer: a relay's links, the server's totals and relays; and how many of them are totals
abbrev pub rows_seen : Ring → ℕ → ℕ
rows_seen R zero = R.parts + R.size
rows_seen R (suc j) = R.links

abbrev pub totals_seen : Ring → ℕ → ℕ
totals_seen R zero = R.parts
totals_seen R (suc j) = 0

-- what is known once nothing before 7 is refused

pub record Counted (R : Ring) : Type 0 where
  pub size_low : min_size ≤ R.size
  pub size-high : R.size ≤ max_size
  pub rate-low : 1 ≤ R.rate
  pub rate-high : R.rate ≤ max_rate
  pub links-low : 1 ≤ R.links
  pub links-high : R.links ≤ R.size
  pub parts_low : 1 ≤ R.parts
  pub parts-high : R.parts ≤ max_parts

pub record Ready (R : Ring) (K A : List ℕ) : Type 0 where
  pub counted : Counted R
  pub prime : Prime R.q
  pub table : length K ≡ R.size * R.rate
  pub weights : length A ≡ R.size * R.links * (R.parts + 1)
  pub table_below : T (all_below R.q K)
  pub weights-below : T (all_below R.q A)
