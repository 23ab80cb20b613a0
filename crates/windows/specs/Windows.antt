-- Windows over the last shown totals. "A window takes one shown total at a time, a signed 32-bit number, and keeps its sum in 64 bits." Document 02 gives no
-- order to the calls but "17, first of all".
use Rattle.std.specs.Prelude.{ℕ, ◌-◌, ◌^◌, ◌≡◌, Bool, true, not, ◌&&◌, List, [], ◌∷◌, ◌++◌, leb, eqb, ℤ, pos, neg_ℤ, ◌≤ℤ◌, ◌<ℤ◌, length, take, drop, replicate}
use Rattle.refusals.specs.declared.Code.{Code}
use Rattle.refusals.specs.Codes.{code, first_of, if_accepted}
use Rattle.lists.specs.Lists.{All}
use Rattle.windows.specs.declared.Window.{Window}
use Rattle.windows.specs.Runs.{sum_of, largest_of, last_of, same, all_zero}

-- "n from 1 to 96"
abbrev pub max_span : ℕ
max_span = 96

abbrev pub span_fits : ℕ → Bool
span_fits n = leb 1 n && leb n max_span

-- ---- what a run leaves

-- 96 places: the run, and 0 past it
abbrev pub placed : List ℤ → List ℤ
placed run = run ++ replicate (max_span - length run) (pos 0)

-- the window of span n after a run of totals: "Until n totals are in, both cover those there are."
abbrev pub window_of : ℕ → List ℤ → Window
window_of n run = record { span = n; held = length (last_of n run); totals = placed (last_of n run); sum = sum_of (last_of n run) }

-- the totals that a window holds
abbrev pub held_of : Window → List ℤ
held_of W = take W.held W.totals

-- a signed number of 32 bits
abbrev pub IsTotal : ℤ → Type 0
IsTotal t = (neg_ℤ (pos (2 ^ 31)) ≤ℤ t) × (t <ℤ pos (2 ^ 31))

-- some span from 1 to 96 and some run of totals leave it
pub record Left (W : Window) : Type 0 where
  pub span : ℕ
  pub run : List ℤ
  pub fits : span_fits span ≡ true
  pub totals : All IsTotal run
  pub is : W ≡ window_of span run

-- the same as a test of a window that is handed in: `LeftExactly` (demands, RollingHour) says that it is the same
abbrev pub is_window : Window → Bool
is_window W = span_fits W.span && leb W.held W.span && all_zero (drop W.held W.totals) && same (sum_of (held_of W)) W.sum

-- ---- what each call answers: "17, first of all, when n is outside 1 to 96 or a window handed in is one that no run of totals leaves."

abbrev pub open_code : ℕ → Code
open_code n = first_of ((not (span_fits n), code 17) ∷ [])

-- the window that is opened; nothing but zeros stand for it where the opening is refused
abbrev pub opened_window : ℕ → Window
opened_window n = if_accepted (open_code n) (window_of n []) (window_of 0 [])

-- of one total more, and of the sum
abbrev pub window_code : Window → Code
window_code W = first_of ((not (is_window W), code 17) ∷ [])

abbrev pub pushed_window : Window → ℤ → Window
pushed_window W total = if_accepted (window_code W) (window_of W.span (held_of W ++ (total ∷ []))) W

abbrev pub given_sum : Window → ℤ
given_sum W = if_accepted (window_code W) (sum_of (held_of W)) (pos 0)

-- "With no total yet, the sum is 0 and the largest is refused with 12."
abbrev pub largest_code : Window → Code
largest_code W = first_of ((not (is_window W), code 17) ∷ (eqb W.held 0, code 12) ∷ [])

abbrev pub given_largest : Window → ℤ
given_largest W = if_accepted (largest_code W) (largest_of (held_of W)) (pos 0)

-- ---- one total after the other

abbrev pub pushed_all : Window → List ℤ → Window
pushed_all W [] = W
pushed_all W (total ∷ run) = pushed_all (pushed_window W total) run
