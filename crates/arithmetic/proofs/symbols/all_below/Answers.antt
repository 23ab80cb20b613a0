use mathlib.Core.Path.{sym, ap, ◌∙◌}
use mathlib.Core.Bool.{Bool, ◌&&◌, and_assoc, and-true}
use Rattle.std.proofs.Common.{◌+◌, drop, get_or}
use lib.Dec.{ltb}
use Rattle.residues.specs.Primes.{all_below}
use Rattle.residues.proofs.PrimeLaws.{below_step, below_end}
use Rattle.arithmetic.proofs.symbols.all_below.Goals as goal

pub loop-symbol-preserved : goal.loop-symbol-preserved
loop-symbol-preserved c =
    let s = c.loop-symbol in
    let q = c.args.q in
    let xs = c.args.symbols.now in
    and_assoc s.below (ltb (get_or xs s.symbol-index 0) q) (all_below q (drop (s.symbol-index + 1) xs))
    ∙ ap (λ (b : Bool). s.below && b) (sym (below_step q xs s.symbol-index c.loop-symbol-test.true))
    ∙ s.invariant

pub returns : goal.returns
returns c =
    let s = c.loop-symbol in
    sym (and-true s.below)
    ∙ ap (λ (b : Bool). s.below && b) (sym (below_end c.args.q c.args.symbols.now s.symbol-index c.loop-symbol-test.false))
    ∙ s.invariant
