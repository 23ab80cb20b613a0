-- The invariant: up to k the table is what it is to be.
use mathlib.Core.Path.{refl, sym, ◌∙◌}
use mathlib.Core.List.{List}
use Prim.Native.Nat.{ℕ, ◌-◌}
use native.Mathlib.Omega.{arith}
use lib.ListN.{length, length-append}
use Rattle.lists.specs.Lists.{zeros}
use Rattle.lists.proofs.ListLaws.{length-zeros}
use Rattle.lists.proofs.Fronts.{front-none, front-next}
use Rattle.numerals.specs.Bytes.{numbers_at}
use Rattle.numerals.proofs.Bytes.{length-numbers}
use Rattle.numerals.proofs.Rows.{padded-at}
use Rattle.numerals.proofs.fill.Invariants.{meant}
use Rattle.numerals.proofs.fill.Goals as goal

pub loop-k-init : goal.loop-k-init
loop-k-init c =
    let a = c.args in
    let K : List ℕ = numbers_at a.width a.count a.bytes.now a.from in
    let rest : ℕ = length a.table.now - a.count in
    front-none a.table.now (meant a.width a.count a.bytes.now a.from a.table.now) 0 refl
    (length-append K (zeros rest)
    ∙ omega (arith, length-numbers a.width a.count a.bytes.now a.from, length-zeros rest, c.requires.2))

pub loop-k-preserved : goal.loop-k-preserved
loop-k-preserved c =
    let s = c.loop-k in
    let a = c.args in
    front-next _ _ s.table s.k c.symbol_at.result s.invariant (omega (arith, c.loop-k-test.true, s.auto.table))
    (c.symbol_at.ensures ∙ sym (padded-at (numbers_at a.width a.count a.bytes.now a.from) (length a.table.now - a.count) s.k))
