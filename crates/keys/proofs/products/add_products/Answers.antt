use Rattle.std.proofs.Common.{◌≡◌, ℕ, ◌+◌, ◌*◌, ◌%◌, ◌∙◌, ap₂, arith}
use Rattle.lists.specs.Lists.{at}
use Rattle.residues.proofs.Congruence.{c-refl, c-add, of-rem, to-mod}
use Rattle.lists.proofs.InPlace.{in-place-next, in-place-whole}
use Rattle.keys.proofs.products.add_products.Invariants.{more}
use Rattle.keys.proofs.products.add_products.Goals as goal
use Rattle.keys.proofs.products.add_products.Goals.{In-loop-p, Start}

abbrev start : In-loop-p → Start
start i = (goal.at.In-loop-p i).Start

-- its sum is still the one that came in
still : (i : In-loop-p) → at i.loop-p.sums i.loop-p.p ≡ at (start i).args.sums.now i.loop-p.p
still i = i.loop-p.invariant.rest i.loop-p.p (omega arith)

pub loop-p-preserved : goal.loop-p-preserved
loop-p-preserved c =
    let i = (goal.at.loop-p-preserved c).In-loop-p in
    let s = i.loop-p in
    let a = (start i).args in
    in-place-next (more a.q a.a a.symbols.now a.sums.now) _ s.sums s.p c.add_to.result s.invariant (omega (arith, i.loop-p-test.true, s.auto.sums))
    (c.add_to.ensures
    ∙ ap₂ (λ (x y : ℕ). (x + y) % a.q) (still i) c.product-more.ensures
    ∙ to-mod (c-add c-refl (of-rem a.q (a.a * at a.symbols.now s.p))))

pub returns : goal.returns
returns c = in-place-whole _ _ _ c.loop-p.p c.loop-p.invariant (omega (arith, c.loop-p-test.false, c.loop-p.auto.sums))
