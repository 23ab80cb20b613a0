use mathlib.Core.Path.{refl, sym, ◌∙◌}
use mathlib.Core.List.{map}
use native.Mathlib.Omega.{arith}
use lib.IntN.{pos}
use lib.ListN.{length-map}
use mir.Syntax.{w32}
use Rattle.lists.specs.Lists.{at}
use Rattle.lists.proofs.ListLaws.{tab-get, map_get}
use Rattle.lists.proofs.Filling.{filling-none, filling-next, filling-whole}
use Rattle.residues.proofs.PrimeLaws.{below_at}
use Rattle.integers.proofs.Bits.{back}
use Rattle.signed.specs.Numbers.{shown_of}
use Rattle.signed.proofs.blocks.write_totals.Goals as goal

pub loop-p-init : goal.loop-p-init
loop-p-init c = filling-none _ _ 0 refl

pub shown-requires : goal.shown-requires
shown-requires c = below_at c.args.q c.args.totals.now c.requires.0 c.requires.2 c.loop-p.p

pub loop-p-preserved : goal.loop-p-preserved
loop-p-preserved c =
    let s = c.loop-p in
    filling-next _ _ s.out s.p _ s.invariant (omega (arith, c.loop-p-test.true, s.auto.out))
    (back w32 c.shown.result c.shown.type_inv ∙ c.shown.ensures)

pub returns : goal.returns
returns c =
    let q = c.args.q in
    let totals = c.args.totals.now in
    let s = c.loop-p in
    filling-whole _ _ _ s.p s.invariant (omega (arith, c.loop-p-test.false, s.auto.out))
    ∙ tab-get _ (λ p. shown_of q (at totals p)) (map (shown_of q) totals) (pos 0) (length-map totals (shown_of q) ∙ c.requires.1)
    (λ k h. sym (map_get (shown_of q) totals k 0 (pos 0) (omega (arith, c.requires.1))))
