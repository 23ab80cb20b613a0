use mathlib.Core.Path.{◌≡◌, refl, sym, ap, ◌∙◌, subst}
use Prim.Native.Nat.{ℕ, ◌<◌}
use native.Mathlib.Nat.{mod-lt}
use native.Mathlib.Omega.{arith}
use lib.ListN.{length}
use mir.Syntax.{w32}
use Rattle.lists.specs.Lists.{at}
use Rattle.lists.proofs.ListLaws.{map-tab}
use Rattle.lists.proofs.Filling.{filling-none, filling-next, filling-whole}
use Rattle.residues.specs.Field.{difference_of}
use Rattle.residues.proofs.Congruence.{residue-mod}
use Rattle.residues.proofs.PrimeLaws.{below_at}
use Rattle.residues.proofs.SymbolLaws.{symbol-difference}
use Rattle.integers.proofs.Bits.{back}
use Rattle.signed.specs.Numbers.{shown_of}
use Rattle.signed.proofs.blocks.write_shown.Goals as goal
use Rattle.signed.proofs.blocks.write_shown.Goals.{After-sub_symbols}

pub loop-p-init : goal.loop-p-init
loop-p-init c = filling-none _ _ 0 refl

-- the symbol that is shown is the difference
is : (c : After-sub_symbols)
    → (let a = c.args in c.sub_symbols.result ≡ difference_of a.q (at a.upload.now c.loop-p.p) (at a.key.now c.loop-p.p))
is c =
    let a = c.args in
    c.sub_symbols.ensures
    ∙ symbol-difference a.q _ _ (below_at a.q a.upload.now c.requires.0 c.requires.3 c.loop-p.p)
    (below_at a.q a.key.now c.requires.0 c.requires.4 c.loop-p.p)

pub shown-requires : goal.shown-requires
shown-requires c =
    let q = c.args.q in
    subst (λ (n : ℕ). n < q) (sym (is c ∙ residue-mod q _ c.requires.0)) (mod-lt _ c.requires.0)

pub loop-p-preserved : goal.loop-p-preserved
loop-p-preserved c =
    let s = c.loop-p in
    filling-next _ _ s.out s.p _ s.invariant (omega (arith, c.loop-p-test.true, s.auto.out))
    (back w32 c.shown.result c.shown.type_inv
    ∙ c.shown.ensures
    ∙ ap (shown_of c.args.q) (is (goal.at.loop-p-preserved c).After-sub_symbols))

pub returns : goal.returns
returns c =
    let a = c.args in
    let s = c.loop-p in
    filling-whole _ _ _ s.p s.invariant (omega (arith, c.loop-p-test.false, s.auto.out))
    ∙ sym (map-tab (shown_of a.q) (length a.out.now) (λ p. difference_of a.q (at a.upload.now p) (at a.key.now p)))
