-- The invariant: up to i the entries are those that are meant, from i on as they were, and the one that is held goes in at i.
use mathlib.Core.Path.{sym, ap, ap₂, ◌∙◌}
use mathlib.Core.List.{List, ◌∷◌, ◌++◌}
use Prim.Native.Nat.{ℕ, suc, ◌≤◌}
use native.Mathlib.Numerals.{add-one}
use native.Mathlib.Omega.{arith}
use lib.ListN.{length, take, drop, set}
use Rattle.lists.specs.Lists.{at}
use Rattle.trials.proofs.DrawLaws.{moved-next, moved_at}
use Rattle.trials.proofs.draws.bring_forward.Goals as goal

pub loop-i-preserved : goal.loop-i-preserved
loop-i-preserved c =
    let inside : suc c.loop-i.i ≤ length c.loop-i.owing = omega (arith, c.loop-i-test.true, c.loop-i.auto.owing, c.requires) in
    let s = c.loop-i in
    let a = c.args in
    let L : List ℕ = a.owing.now in
    let M : List ℕ = at L a.k ∷ L in
    let h = inside in
    let l : suc s.i ≤ length L = omega (arith, h, s.auto.owing) in (
      ap₂ (λ (T : List ℕ) (v : ℕ). set T s.i v) s.invariant.0 s.invariant.1
          ∙ moved-next s.i M L (omega arith) (omega arith)
          ∙ ap (λ (n : ℕ). take n M ++ drop n L) (sym (add-one s.i)),
      ap (λ (T : List ℕ). at T s.i) s.invariant.0
          ∙ moved_at s.i M L (omega arith) (omega arith)
          ∙ ap (at M) (sym (add-one s.i)),
    )
