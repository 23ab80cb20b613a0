-- The invariant: the sum so far, which is below 32,768 for each reading passed.
use mathlib.Core.Path.{refl, sym, ap, ◌∙◌}
use mathlib.Core.List.{List}
use Prim.Native.Nat.{ℕ, ◌+◌, ◌*◌, ◌≤◌}
use native.Mathlib.Numerals.{add-one}
use native.Mathlib.Omega.{arith}
use Rattle.lists.specs.Lists.{at}
use Rattle.lists.specs.Sums.{sum_to}
use Rattle.trials.proofs.uploads.true_sum.Goals as goal

pub loop-reading-init : goal.loop-reading-init
unfolding sum_to
loop-reading-init c = (refl, omega arith)

pub loop-reading-preserved : goal.loop-reading-preserved
unfolding sum_to
loop-reading-preserved c =
    let next : (let s = c.loop-reading in s.sum + at c.args.readings.now s.reading-index ≤ 32767 * (s.reading-index + 1)) = let s = c.loop-reading in
    omega (arith, s.invariant.1, c.requires.1 s.reading-index) in
    let s = c.loop-reading in
    let L : List ℕ = c.args.readings.now in (
      ap (λ (x : ℕ). x + at L s.reading-index) s.invariant.0 ∙ ap (λ (n : ℕ). sum_to n (at L)) (sym (add-one s.reading-index)),
      next,
    )
