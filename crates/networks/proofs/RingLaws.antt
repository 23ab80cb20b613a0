-- The counts of a ring are small, and indices of its lists are within them.
use Prim.Native.Nat.{ℕ, zero, suc, ◌+◌, ◌-◌, ◌*◌, ◌/◌, ◌%◌, ◌≤◌, ◌<◌}
use mathlib.Core.Path.{◌≡◌, refl}
use mathlib.Core.List.{List}
use native.Mathlib.Nat.{mul-le-mul, mod-lt, div-lt_iff_lt-mul}
use native.Mathlib.Omega.{arith}
use lib.Arith.{digits_lt}
use Rattle.residues.proofs.PrimeLaws.{prime-pos, below_at}
use Rattle.cyclic.proofs.NetworkVerdicts.{Sound}
use Rattle.networks.specs.Rings.{network_of}
use Rattle.networks.specs.Machine.{rows_seen, totals_seen, Counted, Ready}
use Rattle.networks.specs.declared.Ring.{Ring}

module _ (R : Ring) (c : Counted R) where
  pub few-symbols : R.size * R.parts ≤ 32
  few-symbols = mul-le-mul {n₁ = R.size} {m₁ = R.parts} {n₂ = 8} {m₂ = 4} c.size-high c.parts-high

  pub few-keys : R.size * R.rate ≤ 128
  few-keys = mul-le-mul {n₁ = R.size} {m₁ = R.rate} {n₂ = 8} {m₂ = 16} c.size-high c.rate-high

  pub few-links : R.size * R.links ≤ 64
  few-links =
      mul-le-mul {n₁ = R.size} {m₁ = R.links} {n₂ = 8} {m₂ = 8} c.size-high
      (let a : R.links ≤ R.size = c.links-high in let b : R.size ≤ 8 = c.size-high in omega arith)

  pub few-weights : R.size * R.links * (R.parts + 1) ≤ 320
  few-weights =
      mul-le-mul {n₁ = R.size * R.links} {m₁ = R.parts + 1} {n₂ = 64} {m₂ = 5} few-links (let b : R.parts ≤ 4 = c.parts-high in omega arith)

  -- a link of a user
  pub link-place : (k l : ℕ) → k < R.size → l < R.links → k * R.links + l < R.size * R.links
  link-place k l h b = digits_lt h b

  pub weight-place : (k l s : ℕ) → k < R.size → l < R.links → s ≤ R.parts → (k * R.links + l) * (R.parts + 1) + s < R.size * R.links * (R.parts + 1)
  weight-place k l s h b e =
      digits_lt {q = k * R.links + l} {m = R.size * R.links} {r = s} {c = R.parts + 1} (link-place k l h b) (omega arith)

  pub key-place : (k s : ℕ) → k < R.size → s < R.rate → k * R.rate + s < R.size * R.rate
  key-place k s h b = digits_lt h b

  -- the user and the symbol of a column
  pub column-user : (i : ℕ) → i < R.size * R.parts → i / R.parts < R.size
  column-user i h = (div-lt_iff_lt-mul {k = R.parts} {x = i} {y = R.size} (let a : 1 ≤ R.parts = c.parts_low in omega arith)).1 h

  pub column-part : (i : ℕ) → i % R.parts < R.parts
  column-part i = mod-lt i (let a : 1 ≤ R.parts = c.parts_low in omega arith)

  pub around : (i : ℕ) → i % R.size < R.size
  around i = mod-lt i (let a : 2 ≤ R.size = c.size_low in omega arith)

-- what the theorems ask for
pub sound : (R : Ring) (K A : List ℕ) → Ready R K A → Sound (network_of R K A)
sound R K A r =
    let low : 2 ≤ R.size = r.counted.size_low in
    record {
      prime = r.prime;
      some = omega arith;
      few = r.counted.links-high;
      table = record { size = r.table; small = λ i l. below_at R.q K (prime-pos r.prime) r.table_below i };
      weights = record { size = r.weights; small = λ i l. below_at R.q A (prime-pos r.prime) r.weights-below i };
    }

-- ---- the rows of an observer

pub server-rows : (R : Ring) (w : ℕ) → w ≡ 0 → rows_seen R w ≡ R.parts + R.size
server-rows R zero e = refl
server-rows R (suc w) e = absurd (omega arith)

pub relay-rows : (R : Ring) (w : ℕ) → (w ≡ 0 → ⊥) → rows_seen R w ≡ R.links
relay-rows R zero e = absurd (e refl)
relay-rows R (suc w) e = refl

pub server-totals : (R : Ring) (w : ℕ) → w ≡ 0 → totals_seen R w ≡ R.parts
server-totals R zero e = refl
server-totals R (suc w) e = absurd (omega arith)

pub relay-totals : (R : Ring) (w : ℕ) → (w ≡ 0 → ⊥) → totals_seen R w ≡ 0
relay-totals R zero e = absurd (e refl)
relay-totals R (suc w) e = refl

module _ (R : Ring) (c : Counted R) where
  pub few-rows : (w : ℕ) → rows_seen R w ≤ 12
  few-rows zero = let a : R.parts ≤ 4 = c.parts-high in let b : R.size ≤ 8 = c.size-high in omega arith
  few-rows (suc w) = let a : R.links ≤ R.size = c.links-high in let b : R.size ≤ 8 = c.size-high in omega arith

  pub totals-among : (w : ℕ) → totals_seen R w ≤ rows_seen R w
  totals-among zero = omega arith
  totals-among (suc w) = omega arith

  pub few-columns : R.size * R.parts + R.rate ≤ 48
  few-columns = let a : R.rate ≤ 16 = c.rate-high in omega (arith, few-symbols R c)

  -- where number t of a grid stands
  pub cell_row : (rows first width t : ℕ) → 0 < width → first ≤ rows → t < (rows - first) * width → first + t / width < rows
  cell_row rows first width t pos h b =
      let l : t / width < rows - first = (div-lt_iff_lt-mul {k = width} {x = t} {y = rows - first} pos).1 b in omega arith

  pub cell-column : (from cols t : ℕ) → from < cols → from + t % (cols - from) < cols
  cell-column from cols t h = let l : t % (cols - from) < cols - from = mod-lt t (omega arith) in omega arith

  pub few-cells : (w first from : ℕ) → (rows_seen R w - first) * (R.size * R.parts + R.rate - from) ≤ 576
  few-cells w first from =
      mul-le-mul {n₁ = rows_seen R w - first} {m₁ = R.size * R.parts + R.rate - from} {n₂ = 12} {m₂ = 48} (omega (arith, few-rows w))
      (omega (arith, few-columns))
