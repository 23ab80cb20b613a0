-- The rolling hour (document 02, Q-2). The promises of `Window::open`, `push`, `sum` and `largest` and of `push_total` (windows) are `open_code`, `opened_window`
-- and so on, which the statements name.
use Rattle.std.specs.Prelude.{ℕ, ◌^◌, ◌≤◌, ◌<◌, ◌≡◌, ◌↔◌, ◌⊎◌, true, List, [], ◌++◌, ℤ, pos, neg_ℤ, ◌≤ℤ◌, ◌<ℤ◌, length, get_or}
use Rattle.refusals.specs.Codes.{code, accepted}
use Rattle.lists.specs.Lists.{All}
use Rattle.signed.specs.Numbers.{shown_of}
use Rattle.windows.specs.declared.Window.{Window}
use Rattle.windows.specs.Runs.{sum_of, largest_of, last_of}
use Rattle.windows.specs.Windows.{max_span, span_fits, window_of, IsTotal, Left, open_code, opened_window, window_code, pushed_window, given_sum, largest_code}
use Rattle.windows.specs.Windows.{given_largest, pushed_all}

-- "Dispatchers watch the sum and the largest of the last n shown totals, n from 1 to 96."
abbrev pub SpanMeans : Type 0
SpanMeans = (n : ℕ) → (span_fits n ≡ true) ↔ ((1 ≤ n) × (n ≤ 96))

-- n that fits, and any run, one total after the other from an opening
module _ (n : ℕ) (fits : span_fits n ≡ true) (run : List ℤ) where
  abbrev window : Window
  window = pushed_all (opened_window n) run

  -- along the run nothing is refused, and the window is what the run leaves
  abbrev pub AlongRun : Type 0
  AlongRun = (accepted ≡ open_code n) × (accepted ≡ window_code window) × (window ≡ window_of n run)

  -- the last n are the end of the run, and n of them where there are as many
  abbrev pub LastOnes : Type 0
  LastOnes = ((first : List ℤ) × (first ++ last_of n run ≡ run)) × (n ≤ length run → length (last_of n run) ≡ n)

  -- "Until n totals are in, both cover those there are."
  abbrev pub UntilFull : Type 0
  UntilFull = length run ≤ n → (given_sum window ≡ sum_of run) × (0 < length run → given_largest window ≡ largest_of run)

  -- "Both equal those worked out afresh from the whole run."
  abbrev pub SumAfresh : Type 0
  SumAfresh = given_sum window ≡ sum_of (last_of n run)

  abbrev pub LargestAfresh : Type 0
  LargestAfresh = 0 < length run → (accepted ≡ largest_code window) × (given_largest window ≡ largest_of (last_of n run))

  -- the largest is one of them, and none is larger
  abbrev pub LargestIs : Type 0
  LargestIs =
      0 < length run
      → ((k : ℕ) × (k < length (last_of n run)) × (get_or (last_of n run) k (pos 0) ≡ given_largest window))
      × ((k : ℕ) → k < length (last_of n run) → get_or (last_of n run) k (pos 0) ≤ℤ given_largest window)

  -- "A window takes one shown total at a time, a signed 32-bit number, and keeps its sum in 64 bits.": the sum that it holds is that of its totals, and 64
  -- bits hold it
  abbrev pub SumKept : Type 0
  SumKept =
      (window.sum ≡ sum_of (last_of n run))
      × (All IsTotal run → (neg_ℤ (pos (2 ^ 63)) ≤ℤ window.sum) × (window.sum <ℤ pos (2 ^ 63)))

-- what is shown of a symbol, of a q of 32 bits, is such a number
abbrev pub ShownIsTotal : Type 0
ShownIsTotal = (q t : ℕ) → q < 2 ^ 32 → t < q → IsTotal (shown_of q t)

-- "With no total yet, the sum is 0 and the largest is refused with 12."
abbrev pub NothingYet : Type 0
NothingYet =
    (n : ℕ) → span_fits n ≡ true
    → (accepted ≡ window_code (opened_window n)) × (given_sum (opened_window n) ≡ pos 0) × (largest_code (opened_window n) ≡ code 12)

-- "17, first of all, when n is outside 1 to 96 or a window handed in is one that no run of totals leaves.": exactly then. A window has 96 places of 32 bits
module _ (W : Window) (places : length W.totals ≡ max_span) (held : All IsTotal W.totals) where
  abbrev pub LeftExactly : Type 0
  LeftExactly = (accepted ≡ window_code W) ↔ Left W

  abbrev pub RefusedExactly : Type 0
  RefusedExactly = ((window_code W ≡ code 17) ↔ (¬ (Left W))) × ((largest_code W ≡ code 17) ↔ (¬ (Left W)))

abbrev pub OpensExactly : Type 0
OpensExactly = (n : ℕ) → (open_code n ≡ code 17) ↔ (¬ (span_fits n ≡ true))

-- and 12 is answered of a window with no total yet alone
abbrev pub EmptyExactly : Type 0
EmptyExactly = (W : Window) → length W.totals ≡ max_span → (largest_code W ≡ code 12) ↔ ((n : ℕ) × (span_fits n ≡ true) × (W ≡ opened_window n))

-- a window says its span and its totals, and nothing else of the run
abbrev pub OneWindow : Type 0
OneWindow = (n n' : ℕ) (run run' : List ℤ) → (window_of n run ≡ window_of n' run') ↔ ((n ≡ n') × (last_of n run ≡ last_of n' run'))

-- "a refusal leaves all lent memory and every round state as it found them.": the window that is handed in is handed back, and 0 stands for a refused figure
abbrev pub RefusedKeeps : Type 0
RefusedKeeps =
    (W : Window)
    → (window_code W ≡ code 17 → ((t : ℤ) → pushed_window W t ≡ W) × (given_sum W ≡ pos 0))
    × ((largest_code W ≡ code 17) ⊎ (largest_code W ≡ code 12) → given_largest W ≡ pos 0)

-- nothing but zeros stand for the window of a refused opening, and no call takes them for a window
abbrev pub RefusedOpening : Type 0
RefusedOpening = (n : ℕ) → open_code n ≡ code 17 → (opened_window n ≡ window_of 0 []) × (window_code (opened_window n) ≡ code 17)
