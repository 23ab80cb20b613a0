use mathlib.Core.Path.{refl, ap}
use native.Mathlib.Omega.{arith}
use lib.ListN.{length}
use Rattle.lists.specs.Lists.{at}
use Rattle.lists.proofs.Filling.{filling-none, filling-next}
use Rattle.stocks.proofs.entries.padded.Goals as goal

pub loop-i-init : goal.loop-i-init
loop-i-init c = (ap length c.no_symbols-made.ensures, filling-none _ _ 0 refl)

pub loop-i-preserved : goal.loop-i-preserved
loop-i-preserved c =
    let s = c.loop-i in
    (s.invariant.0, filling-next (at c.args.lent.now) _ s.made s.i c.entry.result s.invariant.1 (omega arith) c.entry.ensures)
