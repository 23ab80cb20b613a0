-- What the private parts of an opening and a draw compute. Nothing here has to be believed: proofs tie it to the checks and steps of Stocks.
use Rattle.std.specs.Prelude.{ℕ, ◌+◌, ◌-◌, ◌^◌, ◌≤◌, ◌<◌, ◌≡◌, Bool, true, not, List, [], ◌∷◌, ltb, eqb}
use Rattle.refusals.specs.declared.Code.{Code}
use Rattle.refusals.specs.Codes.{code}
use Rattle.lists.specs.Search.{one_of}
use Rattle.plans.specs.Plans.{length_fits}
use Rattle.stocks.specs.declared.Stock.{Stock}
use Rattle.stocks.specs.Stocks.{max_pools, limit_of, drawn_of, position, owed_to_others, fits}

-- the checks of a draw in two parts: those of the stock, and those of what is asked of it
abbrev pub state_checks : ℕ → Stock → List (Bool × Code)
state_checks size S = (not (one_of max_pools S.pools), code 1) ∷ (not (fits size S), code 21) ∷ []

abbrev pub ask_checks : ℕ → Stock → ℕ → ℕ → ℕ → List (Bool × Code)
ask_checks size S pool L room =
    (not (one_of S.pools pool), code 8)
    ∷ (not (length_fits L), code 9)
    ∷ (not (eqb room L), code 4)
    ∷ (ltb (limit_of S (pool - 1)) (drawn_of S (pool - 1) + L), code 20)
    ∷ (ltb size (position S + L + owed_to_others S pool), code 13)
    ∷ []

-- a stock that the first part accepts
pub record Sound (size : ℕ) (S : Stock) : Type 0 where
  pub some : 1 ≤ S.pools
  pub few : S.pools ≤ max_pools
  pub fit : fits size S ≡ true

-- what counting a pool's symbols asks
pub record Countable (S : Stock) (pool L : ℕ) : Type 0 where
  pub from : 1 ≤ pool
  pub to : pool ≤ max_pools
  pub small : drawn_of S (pool - 1) + L < 2 ^ 64

-- the stock with another list of what is drawn
abbrev pub with_list : Stock → List ℕ → Stock
with_list S l = record { pools = S.pools; reserves = S.reserves; limits = S.limits; drawn = l }
