use mathlib.Core.Path.{refl, sym, ◌∙◌}
use Rattle.lists.specs.Search.{all_to}
use Rattle.stocks.specs.Stocks.{max_pools, entry_fits}
use Rattle.lists.proofs.Searches.{all-fails, all-next}
use Rattle.stocks.proofs.Stock.entries_fit.Goals as goal

pub loop-i-init : goal.loop-i-init
unfolding all_to
loop-i-init c = refl

pub returns-then-not-entry_fits : goal.returns-then-not-entry_fits
returns-then-not-entry_fits c =
    sym (all-fails (entry_fits c.args.self) c.loop-i.i max_pools c.loop-i-test.true (sym c.entry_fits.ensures ∙ c.if-not-entry_fits.true))

pub loop-i-preserved : goal.loop-i-preserved
loop-i-preserved c = all-next (entry_fits c.args.self) c.loop-i.i c.loop-i.invariant (sym c.entry_fits.ensures ∙ c.if-not-entry_fits.false)
