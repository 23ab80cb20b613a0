-- Request Q-2: the figures of examples/rolling-hour.md.
use Prim.Native.Nat.{ℕ, ◌+◌, ◌*◌, ◌%◌}
use mathlib.Core.Path.{◌≡◌, refl}
use mathlib.Core.List.{List}
use native.Mathlib.Omega.{arith}
use lib.IntN.{ℤ, pos, neg_ℤ, ◌-ℤ◌}
use Rattle.lists.specs.Lists.{tab}
use Rattle.signed.specs.Numbers.{shown_of}
use Rattle.windows.specs.Runs.{sum_of, largest_from}
use Rattle.windows.specs.Windows.{opened_window, given_sum, given_largest, pushed_all}
use Rattle.demands.proofs.RollingHour.{sum-afresh, largest-afresh}

-- the total of quarter hour k, and those of the first n
abbrev quarter : ℕ → ℤ
quarter k = pos (20 * (37 * k % 97)) -ℤ pos 900

abbrev quarters : ℕ → List ℤ
quarters n = tab n (λ i. quarter (i + 1))

-- what the relays' sums of the first four add up to is shown as these
pub shown-first : shown_of 65521 ((12185 + 53176) % 65521) ≡ quarter 1
shown-first = refl

pub shown-second : shown_of 65521 ((25270 + 40831) % 65521) ≡ quarter 2
shown-second = refl

pub shown-third : shown_of 65521 ((36415 + 28486) % 65521) ≡ quarter 3
shown-third = refl

pub shown-fourth : shown_of 65521 ((49500 + 16141) % 65521) ≡ quarter 4
shown-fourth = refl

-- the sum and the largest after m quarter hours, of a window over the last n
abbrev sum_after : ℕ → ℕ → ℤ
sum_after n m = given_sum (pushed_all (opened_window n) (quarters m))

abbrev largest_after : ℕ → ℕ → ℤ
largest_after n m = given_largest (pushed_all (opened_window n) (quarters m))

pub first-hour : (sum_after 4 4 ≡ neg_ℤ (pos 80)) × (largest_after 4 4 ≡ pos 580)
unfolding sum_of largest_from tab
first-hour = (sum-afresh 4 refl (quarters 4), (largest-afresh 4 refl (quarters 4) (omega arith)).1)

-- the first quarter hour is no longer in it
pub rolled-on : (sum_after 4 5 ≡ pos 940) × (largest_after 4 5 ≡ pos 860)
unfolding sum_of largest_from tab
rolled-on = (sum-afresh 4 refl (quarters 5), (largest-afresh 4 refl (quarters 5) (omega arith)).1)

pub last-hour : (sum_after 4 96 ≡ pos 640) × (largest_after 4 96 ≡ pos 760)
unfolding sum_of largest_from tab
last-hour = (sum-afresh 4 refl (quarters 96), (largest-afresh 4 refl (quarters 96) (omega arith)).1)

pub whole-day : (sum_after 96 96 ≡ pos 6720) × (largest_after 96 96 ≡ pos 1020)
unfolding sum_of largest_from tab
whole-day = (sum-afresh 96 refl (quarters 96), (largest-afresh 96 refl (quarters 96) (omega arith)).1)
