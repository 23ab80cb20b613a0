-- One key stream for several pools: the statements of specs/SharedStream.
use Prim.Native.Nat.{ℕ}
use mathlib.Core.Path.{◌≡◌}
use mathlib.Core.Bool.{true}
use mathlib.Core.List.{List}
use Rattle.refusals.specs.Codes.{accepted}
use Rattle.lists.specs.Search.{one_of}
use Rattle.streams.specs.Streams.{drawn}
use Rattle.stocks.specs.declared.Stock.{Stock}
use Rattle.stocks.specs.Stocks.{max_pools, position, Eight, open_code, Draw, with_drawn, stock_checks, Left}
use Rattle.stocks.proofs.StockLaws.{opens}
use Rattle.stocks.proofs.Runs as runs
use Rattle.stocks.proofs.Exactness as exactness
use Rattle.stocks.proofs.Shares as shares
use Rattle.demands.proofs.Refusals.{refused-leaves}
use Rattle.demands.specs.SharedStream.{FromZero, AddedUp, GivenOnce, RefusedDraw, LeftExactly, RefusedExactly, StillLeft, AnsweredWhen}
use Rattle.demands.specs.SharedStream.{SureShare, SureNow, SureShares, WholeShare}

module _ (stream : List ℕ) (pools : ℕ) (reserves limits : List ℕ) (pass : accepted ≡ open_code pools reserves limits stream) where
  pub from_zero : FromZero stream pools reserves limits pass
  from_zero = runs.from_zero stream pools reserves limits (opens pools reserves limits stream pass).few

  pub added-up : (draws : List Draw) → AddedUp stream pools reserves limits pass draws
  added-up draws =
      let few = (opens pools reserves limits stream pass).few in (
        runs.added-each stream pools reserves limits few draws,
        runs.added-pools stream pools reserves limits few draws,
        runs.added-all stream pools reserves limits few draws,
      )

pub given-once : GivenOnce
given-once stream S draws = (
  runs.given-moved stream S draws,
  runs.given-consecutive stream S draws,
  runs.given-symbols stream S draws,
  runs.given_counted stream S draws,
  runs.given-placed stream S draws,
  runs.given-once stream S draws,
)

pub refused-draw : RefusedDraw
refused-draw stream S d n = (
  refused-leaves (stock_checks stream S d) tt n (with_drawn S d.pool d.length) S,
  refused-leaves (stock_checks stream S d) tt n (drawn stream (position S) d.length) d.out,
)

module _ (stream : List ℕ) (S : Stock) (eight : Eight S) (counted : one_of max_pools S.pools ≡ true) where
  pub left-exactly : LeftExactly stream S eight counted
  left-exactly = exactness.fits-left stream S eight counted

  pub refused-exactly : RefusedExactly stream S eight counted
  refused-exactly = exactness.refused-21 stream S eight counted

module _ (stream : List ℕ) (S : Stock) (left : Left stream S) where
  pub still-left : StillLeft stream S left
  still-left = exactness.still-left stream S left

  pub answered-when : AnsweredWhen stream S left
  answered-when = shares.answered-when stream S left

  pub sure-share : SureShare stream S left
  sure-share = shares.sure-share stream S left

  pub sure-now : SureNow stream S left
  sure-now = shares.sure-now stream S left

  pub sure-shares : SureShares stream S left
  sure-shares p from to draws = shares.all-answered stream p from S draws (exactness.left-good left) to

  pub whole-share : WholeShare stream S left
  whole-share = shares.whole-share stream S left
