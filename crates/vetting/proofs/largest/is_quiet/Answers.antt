use mathlib.Core.Path.{◌≡◌, refl, sym, ap, ◌∙◌}
use mathlib.Core.Bool.{not}
use Prim.Native.Nat.{ℕ, ◌+◌}
use native.Mathlib.Omega.{arith}
use Rattle.lists.specs.Search.{all_to}
use Rattle.vetting.specs.Growing.{is_quiet_at}
use Rattle.lists.proofs.Searches.{all-next, all-fails}
use Rattle.vetting.proofs.largest.is_quiet.Invariants.{test}
use Rattle.vetting.proofs.largest.is_quiet.Goals as goal

pub loop-w-init : goal.loop-w-init
unfolding all_to
loop-w-init c = refl

pub returns-then-leaks_to : goal.returns-then-leaks_to
unfolding is_quiet_at
returns-then-leaks_to c =
    let a = c.args in
    sym (all-fails (test a.q a.clusters a.size a.cols a.k a.g a.levels.now) c.loop-w.w (a.clusters + 1)
    c.loop-w-test.true (ap not (sym c.leaks_to.ensures ∙ c.if-leaks_to.true)))

pub loop-w-preserved : goal.loop-w-preserved
loop-w-preserved c =
    let a = c.args in
    all-next (test a.q a.clusters a.size a.cols a.k a.g a.levels.now) c.loop-w.w
    c.loop-w.invariant (ap not (sym c.leaks_to.ensures ∙ c.if-leaks_to.false))

pub returns : goal.returns
unfolding is_quiet_at
returns c =
    let a = c.args in
    let e : c.loop-w.w ≡ a.clusters + 1 = omega (arith, c.loop-w-test.false, c.loop-w.auto.w-end) in
    sym (ap (λ (n : ℕ). all_to n (test a.q a.clusters a.size a.cols a.k a.g a.levels.now)) (sym e) ∙ c.loop-w.invariant)
