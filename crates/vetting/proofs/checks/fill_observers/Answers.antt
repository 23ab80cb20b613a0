use mathlib.Core.Path.{◌≡◌, refl, ap, ap₂, ◌∙◌}
use mathlib.Core.List.{[], ◌∷◌, ◌++◌}
use Prim.Native.Nat.{ℕ, suc, ◌+◌, ◌-◌, ◌%◌}
use native.Mathlib.Nat.{mod_self, mod-eq_of_lt}
use native.Mathlib.Omega.{arith}
use lib.ListN.{length}
use Rattle.lists.specs.Lists.{tab}
use Rattle.lists.proofs.ListLaws.{tab-append, tab-cong}
use Rattle.lists.proofs.Filling.{filling-none, filling-next, filling-whole}
use Rattle.vetting.specs.Walk.{observers}
use Rattle.vetting.proofs.checks.fill_observers.Invariants.{placed}
use Rattle.vetting.proofs.checks.fill_observers.Goals as goal

placed-are : (u : ℕ) → tab (u + 1) (placed (u + 1)) ≡ observers u
unfolding observers tab
placed-are u =
    tab-append u 1 (placed (u + 1))
    ∙ ap₂ ◌++◌
    (tab-cong u (placed (u + 1)) suc (λ k l. mod-eq_of_lt {n = k + 1} (omega arith) ∙ omega arith))
    (ap (λ (x : ℕ). x ∷ []) (ap (λ (x : ℕ). (x + 1) % (u + 1)) {x = u + 0} {y = u} (omega arith) ∙ mod_self (u + 1)))

pub loop-i-init : goal.loop-i-init
loop-i-init c = filling-none _ _ 0 refl

pub returns : goal.returns
returns c =
    let s = c.loop-i in
    let n : ℕ = length c.args.watching.now in
    let e : n ≡ n - 1 + 1 = omega (arith, c.requires.0) in
    filling-whole _ _ _ s.i s.invariant (omega (arith, c.loop-i-test.false, s.invariant.whole)) ∙ ap (λ (m : ℕ). tab m (placed m)) e ∙ placed-are (n - 1)

pub loop-i-preserved : goal.loop-i-preserved
loop-i-preserved c = filling-next _ _ c.loop-i.watching c.loop-i.i _ c.loop-i.invariant (omega (arith, c.loop-i-test.true, c.loop-i.invariant.whole)) refl
