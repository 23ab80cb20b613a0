-- Key stocks: "A service bureau draws for one to eight pools (otherwise 1) from one tape, from position 0 on. Each pool has a sure share and an upper limit in
-- symbols." The tape is the stream here, a sure share a reserve, an upper limit a limit. What all pools have drawn is the position, so that none is kept.
use Rattle.std.specs.Prelude.{ℕ, ◌+◌, ◌-◌, ◌≤◌, ◌≡◌, Bool, cond, not, ◌&&◌, ◌||◌, List, [], ◌∷◌, ◌++◌, leb, ltb, eqb, length}
use Rattle.refusals.specs.declared.Code.{Code}
use Rattle.refusals.specs.Codes.{code, accepted, first_of, if_accepted}
use Rattle.lists.specs.Lists.{at, zeros, tab}
use Rattle.lists.specs.Search.{all_to, one_of}
use Rattle.lists.specs.Sums.{sum_to}
use Rattle.plans.specs.Plans.{max_length, length_fits}
use Rattle.streams.specs.Streams.{drawn}
use Rattle.stocks.specs.declared.Stock.{Stock}

abbrev pub max_pools : ℕ
max_pools = 8

-- ---- the entries of a stock, by index: those of pool p stand at p - 1

abbrev pub reserve_of : Stock → ℕ → ℕ
reserve_of S i = at S.reserves i

abbrev pub limit_of : Stock → ℕ → ℕ
limit_of S i = at S.limits i

abbrev pub drawn_of : Stock → ℕ → ℕ
drawn_of S i = at S.drawn i

-- what all pools have drawn: the position on the stream
abbrev pub position : Stock → ℕ
position S = sum_to S.pools (drawn_of S)

-- "what that pool hasn't yet drawn of its sure share"
abbrev pub owed_to : Stock → ℕ → ℕ
owed_to S i = reserve_of S i - drawn_of S i

-- the same of all pools but this one
abbrev pub owed_to_others : Stock → ℕ → ℕ
owed_to_others S pool = sum_to S.pools (λ i. cond (eqb (i + 1) pool) 0 (owed_to S i))

-- ---- a stock that is handed in, on a stream of so many symbols

-- its arrays have eight entries: every stock has this
pub record Eight (S : Stock) : Type 0 where
  pub reserves : length S.reserves ≡ max_pools
  pub limits : length S.limits ≡ max_pools
  pub drawn : length S.drawn ≡ max_pools

-- a pool's reserve and what it has drawn stay in its limit; past the pools all is 0
abbrev pub entry_fits : Stock → ℕ → Bool
entry_fits S i = leb (reserve_of S i) (limit_of S i) && (leb (drawn_of S i) (limit_of S i) && (ltb i S.pools || eqb (limit_of S i) 0))

-- what a pool has drawn and what it is still sure of, together: the larger of its reserve and what it has drawn
abbrev pub held_by : Stock → ℕ → ℕ
held_by S i = drawn_of S i + owed_to S i

-- what the pools hold is no more than the stream has
abbrev pub held_fits : ℕ → Stock → Bool
held_fits size S = leb (sum_to S.pools (held_by S)) size

-- Some draws leave it: `LeftExactly` (demands, SharedStream) says that this test passes just the stocks that are left by draws
abbrev pub fits : ℕ → Stock → Bool
fits size S = all_to max_pools (entry_fits S) && held_fits size S

-- ---- opening: 1; 4 where there is not one reserve and one limit for each pool; "21 when a share exceeds its limit, the shares exceed the tape"

abbrev pub open_checks : ℕ → List ℕ → List ℕ → List ℕ → List (Bool × Code)
open_checks pools reserves limits stream =
    (not (one_of max_pools pools), code 1)
    ∷ (not (eqb (length reserves) pools && eqb (length limits) pools), code 4)
    ∷ (not (all_to pools (λ i. leb (at reserves i) (at limits i)) && leb (sum_to pools (at reserves)) (length stream)), code 21)
    ∷ []

abbrev pub open_code : ℕ → List ℕ → List ℕ → List ℕ → Code
open_code pools reserves limits stream = first_of (open_checks pools reserves limits stream)

-- nothing is drawn yet; past the pools all is 0
abbrev pub opened : ℕ → List ℕ → List ℕ → Stock
opened pools reserves limits =
    record { pools = pools; reserves = tab max_pools (at reserves); limits = tab max_pools (at limits); drawn = zeros max_pools }

-- the stock that is opened; nothing but zeros stand for it where the opening is refused
abbrev pub open_stock : ℕ → List ℕ → List ℕ → List ℕ → Stock
open_stock pools reserves limits stream = if_accepted (open_code pools reserves limits stream) (opened pools reserves limits) (opened 0 [] [])

-- ---- a draw: a pool, from 1, a length and a lent buffer

pub record Draw : Type 0 where
  pub pool : ℕ
  pub length : ℕ
  pub out : List ℕ

-- one of the pools asks for 1 to 64 symbols, with a right buffer
pub record Asks (pools : ℕ) (d : Draw) : Type 0 where
  pub from : 1 ≤ d.pool
  pub to : d.pool ≤ pools
  pub some : 1 ≤ d.length
  pub few : d.length ≤ max_length
  pub room : length d.out ≡ d.length

abbrev pub draw_of : ℕ → ℕ → List ℕ → Draw
draw_of pool L out = record { pool = pool; length = L; out = out }

-- L symbols more are drawn by a pool
abbrev pub with_drawn : Stock → ℕ → ℕ → Stock
with_drawn S pool L =
    record {
      pools = S.pools;
      reserves = S.reserves;
      limits = S.limits;
      drawn = tab max_pools (λ i. drawn_of S i + cond (eqb (i + 1) pool) L 0);
    }

module _ (stream : List ℕ) where
  -- "A draw is checked in the order 1, 21, 8 (no such pool, counted from 1), 9, 4, 20, 13 (tape too short as said). 20 when a draw would pass the pool's
  -- limit"; 13 unless it "leaves on the tape, for each other pool, what that pool hasn't yet drawn of its sure share"
  abbrev pub stock_checks : Stock → Draw → List (Bool × Code)
  stock_checks S d =
      (not (one_of max_pools S.pools), code 1)
      ∷ (not (fits (length stream) S), code 21)
      ∷ (not (one_of S.pools d.pool), code 8)
      ∷ (not (length_fits d.length), code 9)
      ∷ (not (eqb (length d.out) d.length), code 4)
      ∷ (ltb (limit_of S (d.pool - 1)) (drawn_of S (d.pool - 1) + d.length), code 20)
      ∷ (ltb (length stream) (position S + d.length + owed_to_others S d.pool), code 13)
      ∷ []

  abbrev pub stock_code : Stock → Draw → Code
  stock_code S d = first_of (stock_checks S d)

  -- the stock that is handed back, and what the lent buffer holds
  abbrev pub stock_after : Stock → Draw → Stock
  stock_after S d = if_accepted (stock_code S d) (with_drawn S d.pool d.length) S

  abbrev pub out_after : Stock → Draw → List ℕ
  out_after S d = if_accepted (stock_code S d) (drawn stream (position S) d.length) d.out

  -- ---- a list of draws, each on the stock that the one before it handed back

  -- the stock after them
  unfoldable pub run_of : Stock → List Draw → Stock
  run_of S [] = S
  run_of S (d ∷ draws) = run_of (stock_after S d) draws

  -- those that were answered
  unfoldable pub answered : Stock → List Draw → List Draw
  answered S [] = []
  answered S (d ∷ draws) = if_accepted (stock_code S d) (d ∷ []) [] ++ answered (stock_after S d) draws

  -- the symbols that these wrote, one draw after the other
  unfoldable pub symbols_given : Stock → List Draw → List ℕ
  symbols_given S [] = []
  symbols_given S (d ∷ draws) = if_accepted (stock_code S d) (out_after S d) [] ++ symbols_given (stock_after S d) draws

  -- where each of these symbols stands on the stream
  unfoldable pub places_given : Stock → List Draw → List ℕ
  places_given S [] = []
  places_given S (d ∷ draws) = if_accepted (stock_code S d) (tab d.length (λ k. position S + k)) [] ++ places_given (stock_after S d) draws

  -- some draws on this stream, from an opening, leave this stock
  pub record Left (S : Stock) : Type 0 where
    pub reserves : List ℕ
    pub limits : List ℕ
    pub draws : List Draw
    pub opens : accepted ≡ open_code S.pools reserves limits stream
    pub leaves : run_of (opened S.pools reserves limits) draws ≡ S

-- the draws of one pool, and the symbols that some draws ask for, added up
unfoldable pub of_pool : ℕ → List Draw → List Draw
of_pool p [] = []
of_pool p (d ∷ draws) = cond (eqb p d.pool) (d ∷ of_pool p draws) (of_pool p draws)

unfoldable pub added_up : List Draw → ℕ
added_up [] = 0
added_up (d ∷ draws) = d.length + added_up draws
