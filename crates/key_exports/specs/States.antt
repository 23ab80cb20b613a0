-- A stock from the numbers that a caller lends.
use Rattle.std.specs.Prelude.{ℕ, List}
use Rattle.stocks.specs.declared.Stock.{Stock}

abbrev pub stock_of : ℕ → List ℕ → List ℕ → List ℕ → Stock
stock_of pools reserves limits drawn = record { pools = pools; reserves = reserves; limits = limits; drawn = drawn }
