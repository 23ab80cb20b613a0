use mathlib.Core.Path.{◌≡◌, refl, sym, ap, ◌∙◌}
use mathlib.Core.List.{map}
use Prim.Native.Nat.{ℕ, ◌-◌}
use native.Mathlib.Omega.{arith}
use lib.IntN.{pos}
use lib.ListN.{get_or}
use mir.Syntax.{w32}
use Rattle.lists.specs.Lists.{at}
use Rattle.lists.proofs.ListLaws.{map_get}
use Rattle.lists.proofs.Filling.{filling-none, filling-next}
use Rattle.residues.specs.Field.{sum_of, symbol_sum}
use Rattle.residues.proofs.PrimeLaws.{below_at}
use Rattle.residues.proofs.SymbolLaws.{symbol-sum}
use Rattle.integers.proofs.Bits.{back}
use Rattle.signed.specs.Numbers.{symbol_of}
use Rattle.signed.proofs.NumberLaws.{symbol-below}
use Rattle.signed.proofs.CapLaws.{cap-at}
use Rattle.signed.proofs.blocks.write_upload.Goals as goal

pub loop-p-init : goal.loop-p-init
loop-p-init c = filling-none _ _ 0 refl

pub symbol_of-requires : goal.symbol_of-requires
symbol_of-requires c =
    let a = c.args in
    rw (back w32 (get_or a.readings.now c.loop-p.p (pos 0)) c.symbol_of-arg-1.given)
    (omega (arith, c.requires.0, cap-at (a.q - 1) a.readings.now c.requires.3 c.loop-p.p))

pub loop-p-preserved : goal.loop-p-preserved
loop-p-preserved c =
    let a = c.args in
    let s = c.loop-p in
    let w = get_or a.readings.now s.p (pos 0) in
    let is : at (map (symbol_of a.q) a.readings.now) s.p ≡ symbol_of a.q w
    = map_get (symbol_of a.q) a.readings.now s.p (pos 0) 0 (omega (arith, c.requires.1, c.loop-p-test.true)) in
    filling-next _ _ s.out s.p c.add_symbols.result s.invariant (omega (arith, c.loop-p-test.true, s.auto.out))
    (c.add_symbols.ensures
    ∙ ap (λ (x : ℕ). symbol_sum a.q x (at a.key.now s.p))
    (c.symbol_of.ensures ∙ ap (symbol_of a.q) (back w32 w c.symbol_of-arg-1.given))
    ∙ symbol-sum a.q (symbol_of a.q w) (at a.key.now s.p) (symbol-below a.q w c.requires.0)
    (below_at a.q a.key.now c.requires.0 c.requires.4 s.p)
    ∙ sym (ap (λ (x : ℕ). sum_of a.q x (at a.key.now s.p)) is))
