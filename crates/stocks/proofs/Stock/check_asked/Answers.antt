use Prim.Native.Nat.{◌-◌, ◌<◌}
use mathlib.Core.Path.{sym, ◌∙◌}
use native.Mathlib.Omega.{arith}
use Rattle.refusals.specs.declared.Refusal.TheVariants.{UnknownNumber}
use Rattle.refusals.proofs.CodeLaws.{held}
use Rattle.lists.proofs.Searches.{one_known}
use Rattle.stocks.specs.Stocks.{max_pools}
use Rattle.stocks.proofs.StockLaws.{good-sound, position-within, others-within}
use Rattle.stocks.proofs.Stock.check_asked.Goals as goal

pub overflow_sub-self : goal.overflow_sub-self
overflow_sub-self c =
    let (from, to) = one_known c.args.self.pools c.args.pool (sym c.one_of.ensures ∙ held _ tt UnknownNumber c.in_ok-refuse_unless.ensures) in
    let index : c.args.pool - 1 < max_pools = omega (arith, from, to, c.requires.few) in
    (good-sound c.requires).drawn-in _ index

pub position-requires : goal.position-requires
position-requires c = (c.requires.few, omega (arith, position-within (good-sound c.requires)))

pub overflow_sub-left : goal.overflow_sub-left
overflow_sub-left c = omega (arith, position-within (good-sound c.requires), c.position.ensures)

pub owed_to_others-requires : goal.owed_to_others-requires
owed_to_others-requires c = (c.requires.few, omega (arith, others-within (good-sound c.requires) c.args.pool))
