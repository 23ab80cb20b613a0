-- One key stream for several pools (document 02, Q-10). The promises of `Stock::open` and `draw` (stocks) are `open_code`, `open_stock`, `stock_code`,
-- `stock_after` and `out_after`; `run_of` is a list of draws, each on the stock that the one before it handed back. A sure share is a reserve there, and the tape
-- the stream.
use Rattle.std.specs.Prelude.{ℕ, ◌+◌, ◌-◌, ◌≤◌, ◌<◌, ◌≡◌, ◌≢◌, ◌↔◌, true, List, length}
use Rattle.refusals.specs.Codes.{code, accepted}
use Rattle.lists.specs.Lists.{at, All, tab}
use Rattle.lists.specs.Search.{one_of}
use Rattle.lists.specs.Sums.{sum_to}
use Rattle.streams.specs.Streams.{drawn}
use Rattle.stocks.specs.declared.Stock.{Stock}
use Rattle.stocks.specs.Stocks.{max_pools, reserve_of, limit_of, drawn_of, position, owed_to_others, Eight, fits, open_code, opened, Draw, Asks}
use Rattle.stocks.specs.Stocks.{stock_code, stock_after, out_after, run_of, answered, symbols_given, places_given, Left, of_pool, added_up}

-- any draws of any pools, from an opening that is not refused
module _ (stream : List ℕ) (pools : ℕ) (reserves limits : List ℕ) (opens : accepted ≡ open_code pools reserves limits stream) where
  -- "from one tape, from position 0 on"
  abbrev pub FromZero : Type 0
  FromZero = position (opened pools reserves limits) ≡ 0

  module _ (draws : List Draw) where
    abbrev end : Stock
    end = run_of stream (opened pools reserves limits) draws

    abbrev all : List Draw
    all = answered stream (opened pools reserves limits) draws

    -- "The symbols drawn by each pool, added up from the list of its answered draws, together make the tape's position." They are what the stock says of each
    -- pool; added over the pools, and over all answered draws, they are the position
    abbrev pub AddedUp : Type 0
    AddedUp =
        ((i : ℕ) → i < pools → drawn_of end i ≡ added_up (of_pool (i + 1) all))
        × (position end ≡ sum_to pools (λ i. added_up (of_pool (i + 1) all)))
        × (position end ≡ added_up all)

-- document 01: "No symbol is drawn twice from a position that only draws have moved." Whoever draws, the position moves on by one for each place that the
-- answered draws take; these are the places from the first position on, one after the other; each symbol that they write has a place, and is the stream's
-- there; and no two have the same place
abbrev pub GivenOnce : Type 0
GivenOnce =
    (stream : List ℕ) (S : Stock) (draws : List Draw)
    → (let places = places_given stream S draws in
    let symbols = symbols_given stream S draws in
    (position (run_of stream S draws) ≡ position S + length places)
    × (places ≡ tab (length places) (λ k. position S + k))
    × (symbols ≡ drawn stream (position S) (length places))
    × (length symbols ≡ length places)
    × ((k : ℕ) → k < length places → at symbols k ≡ at stream (at places k))
    × ((i j : ℕ) → i < length places → j < length places → at places i ≡ at places j → i ≡ j))

-- document 01: "a refusal leaves all lent memory and every round state as it found them.": a refused draw hands back the stock, and leaves the buffer as it was
abbrev pub RefusedDraw : Type 0
RefusedDraw =
    (stream : List ℕ) (S : Stock) (d : Draw) → stock_code stream S d ≢ accepted → (stock_after stream S d ≡ S) × (out_after stream S d ≡ d.out)

-- "21 when a share exceeds its limit, the shares exceed the tape, or a stock handed in is one that no draws on this tape could leave.": a stock for one to
-- eight pools (otherwise 1) is refused so exactly where no draws from an opening leave it. `fits` is the test
module _ (stream : List ℕ) (S : Stock) (eight : Eight S) (counted : one_of max_pools S.pools ≡ true) where
  abbrev pub LeftExactly : Type 0
  LeftExactly = (fits (length stream) S ≡ true) ↔ Left stream S

  abbrev pub RefusedExactly : Type 0
  RefusedExactly = (d : Draw) → (stock_code stream S d ≡ code 21) ↔ (¬ (Left stream S))

-- what follows is said of every stock that draws leave; what draws leave, further draws leave
module _ (stream : List ℕ) (S : Stock) (left : Left stream S) where
  abbrev pub StillLeft : Type 0
  StillLeft = (draws : List Draw) → Left stream (run_of stream S draws)

  -- "A draw is answered when it stays in the pool's limit and leaves on the tape, for each other pool, what that pool hasn't yet drawn of its sure share.": a
  -- draw of 1 to 64 symbols by one of the pools, with a right buffer, exactly then
  abbrev pub AnsweredWhen : Type 0
  AnsweredWhen =
      (d : Draw) → Asks S.pools d
      → (accepted ≡ stock_code stream S d)
      ↔ ((drawn_of S (d.pool - 1) + d.length ≤ limit_of S (d.pool - 1)) × (position S + d.length + owed_to_others S d.pool ≤ length stream))

  -- "No draws of others can keep a pool from its sure share.": after any draws of others, a draw that stays in the reserve is answered
  abbrev pub SureShare : Type 0
  SureShare =
      (others : List Draw) (d : Draw) → All (λ (o : Draw). o.pool ≢ d.pool) others → Asks S.pools d
      → drawn_of S (d.pool - 1) + d.length ≤ reserve_of S (d.pool - 1)
      → accepted ≡ stock_code stream (run_of stream S others) d

  -- and so it is after any draws, the pool's own and refused ones among them: what it hasn't drawn of its reserve by then is there
  abbrev pub SureNow : Type 0
  SureNow =
      (draws : List Draw) (d : Draw) → Asks S.pools d
      → drawn_of (run_of stream S draws) (d.pool - 1) + d.length ≤ reserve_of S (d.pool - 1)
      → accepted ≡ stock_code stream (run_of stream S draws) d

  -- the same of many draws, with any draws of others before, between and after them: all of the pool's are answered
  abbrev pub SureShares : Type 0
  SureShares =
      (p : ℕ) → 1 ≤ p → p ≤ S.pools
      → (draws : List Draw) → All (λ (d : Draw). d.pool ≡ p → Asks S.pools d) draws
      → drawn_of S (p - 1) + added_up (of_pool p draws) ≤ reserve_of S (p - 1)
      → of_pool p (answered stream S draws) ≡ of_pool p draws

  -- so after any draws of others a pool can draw until it has its reserve
  abbrev pub WholeShare : Type 0
  WholeShare =
      (others : List Draw) (p : ℕ) → 1 ≤ p → p ≤ S.pools → drawn_of S (p - 1) ≤ reserve_of S (p - 1) → All (λ (o : Draw). o.pool ≢ p) others
      → (own : List Draw) × All (λ (d : Draw). d.pool ≡ p) own × (drawn_of (run_of stream (run_of stream S others) own) (p - 1) ≡ reserve_of S (p - 1))
