-- Request Q-10: two pools on a stream of ten symbols. The first has a reserve of 3 and a limit of 8, the second a reserve of 4 and a limit of 5.
use Prim.Native.Nat.{ℕ}
use mathlib.Core.Path.{◌≡◌, refl}
use mathlib.Core.List.{List, [], ◌∷◌}
use lib.ListN.{take}
use Rattle.refusals.specs.Codes.{code, accepted}
use Rattle.lists.specs.Lists.{zeros, tab}
use Rattle.lists.specs.Search.{all_to}
use Rattle.lists.specs.Sums.{sum_to}
use Rattle.stocks.specs.declared.Stock.{Stock}
use Rattle.stocks.specs.Stocks.{open_code, opened, Draw, draw_of, stock_code, out_after, run_of}

abbrev stream : List ℕ
stream = 10 ∷ 11 ∷ 12 ∷ 13 ∷ 14 ∷ 15 ∷ 16 ∷ 17 ∷ 18 ∷ 19 ∷ []

abbrev reserves : List ℕ
reserves = 3 ∷ 4 ∷ []

abbrev limits : List ℕ
limits = 8 ∷ 5 ∷ []

abbrev start : Stock
start = opened 2 reserves limits

-- a draw with a right buffer
abbrev asks : ℕ → ℕ → Draw
asks pool L = draw_of pool L (zeros L)

-- after this draw what is left is the second pool's reserve
abbrev after : Stock
after = run_of stream start (asks 1 6 ∷ [])

pub opens : accepted ≡ open_code 2 reserves limits stream
unfolding all_to sum_to
opens = refl

-- the first pool may draw more than its reserve, but not what the second is sure of: 13; past its limit 20 comes first
pub first-pool : (accepted ≡ stock_code stream start (asks 1 6)) × (stock_code stream start (asks 1 7) ≡ code 13) × (stock_code stream start (asks 1 9) ≡ code 20)
unfolding all_to sum_to tab
first-pool = (refl, refl, refl)

-- the second gets its reserve, the symbols after the first one's
pub second-pool : (accepted ≡ stock_code stream after (asks 2 4)) × (out_after stream after (asks 2 4) ≡ 16 ∷ 17 ∷ 18 ∷ 19 ∷ [])
unfolding all_to sum_to tab run_of
second-pool = (refl, refl)

-- pools are counted from 1, and on a shorter stream no draws leave this stock
pub refused : (stock_code stream after (asks 0 1) ≡ code 8) × (stock_code (take 9 stream) after (asks 2 4) ≡ code 21)
unfolding all_to sum_to tab run_of
refused = (refl, refl)
