-- Request Q-1: which caps fit, and why no larger one does.
use Prim.Native.Nat.{ℕ, ◌*◌, ◌%◌}
use mathlib.Core.Path.{◌≡◌, refl}
use mathlib.Core.Bool.{true, false}
use mathlib.Core.List.{List}
use native.Mathlib.Decide.{ℕ_discrete}
use native.Mathlib.Omega.{arith}
use lib.IntN.{ℤ, pos, neg_ℤ}
use borrow.Author.Tests.{eq-eqb, ne_eqb, le-ltb}
use Rattle.refusals.specs.Codes.{code}
use Rattle.lists.specs.Search.{all_to}
use Rattle.lists.specs.Sums.{sum_to}
use Rattle.residues.specs.Primes.{is_prime}
use Rattle.plans.specs.Plans.{plan}
use Rattle.signed.specs.Numbers.{symbol_of, shown_of, true_sum}
use Rattle.signed.specs.Caps.{cap_fits}
use Rattle.signed.specs.SignedBlocks.{signed_upload_code, signed_unmask_code, totals_code}

-- "the small pool, whose q leaves room for none"
pub no-cap : (m : ℕ) → cap_fits (plan 2 2 1 3 5) m ≡ false
no-cap m = go (ℕ_discrete m 0)
  where
    go : Dec (m ≡ 0) → cap_fits (plan 2 2 1 3 5) m ≡ false
    go (yes e) = rw (eq-eqb m 0 e)
    go (no n) = rw (ne_eqb m 0 n) (le-ltb (8 * m) 5 (omega (arith, n)))

-- so every signed call on it is refused with 16
pub small-upload : (m L : ℕ) (readings : List ℤ) (key out : List ℕ) → signed_upload_code (plan 2 2 1 3 5) m L readings key out ≡ code 16
unfolding is_prime all_to
small-upload m L readings key out = rw (no-cap m)

pub small-unmask : (m L : ℕ) (upload key : List ℕ) (out : List ℤ) → signed_unmask_code (plan 2 2 1 3 5) m L upload key out ≡ code 16
unfolding is_prime all_to
small-unmask m L upload key out = rw (no-cap m)

pub small-totals : (m L : ℕ) (totals : List ℕ) (out : List ℤ) → totals_code (plan 2 2 1 3 5) m L totals out ≡ code 16
unfolding is_prime all_to
small-totals m L totals out = rw (no-cap m)

-- "With q 65,521 and 16 meters m may be 2,047 and not 2,048."
pub largest-cap : (cap_fits (plan 4 4 1 1 65521) 2047 ≡ true) × (cap_fits (plan 4 4 1 1 65521) 2048 ≡ false)
largest-cap = (refl, refl)

-- the symbol of the total, where all sixteen have the same reading
abbrev total_of : ℤ → ℕ
total_of w = sum_to 16 (λ i. symbol_of 65521 w) % 65521

-- at the cap it is shown as the true sum, 32,752 or its opposite; one more each, and it is no longer
pub at-the-cap : shown_of 65521 (total_of (pos 2047)) ≡ pos 32752
unfolding sum_to
at-the-cap = refl

pub at-the-other-end : shown_of 65521 (total_of (neg_ℤ (pos 2047))) ≡ neg_ℤ (pos 32752)
unfolding sum_to
at-the-other-end = refl

pub past-the-cap : (true_sum 16 (λ i. pos 2048) ≡ pos 32768) × (shown_of 65521 (total_of (pos 2048)) ≡ neg_ℤ (pos 32753))
unfolding sum_to true_sum
past-the-cap = (refl, refl)
