use mathlib.Core.Path.{◌≡◌, sym, ap, ◌∙◌}
use Prim.Native.Nat.{◌-◌}
use native.Mathlib.Omega.{arith}
use lib.IntN.{ℤ, pos}
use lib.ListN.{get_or, take, drop}
use lib.Signed.{lt_z}
use mir.Syntax.{w32}
use mir.Val.{of_z, to_z}
use Rattle.std.proofs.lemmas.List.{take_all}
use Rattle.integers.proofs.Bits.{back}
use Rattle.windows.specs.Runs.{larger, largest_from}
use Rattle.windows.proofs.RunLaws.{larger-first, larger-second, largest-next, largest-rest}
use Rattle.windows.proofs.places.largest_of.Goals.{else-best-total, then-best-total}
use Rattle.windows.proofs.places.largest_of.Goals as goal

pub loop-total-init : goal.loop-total-init
unfolding largest_from
loop-total-init c = back w32 (get_or c.args.totals.now 0 (pos 0)) (omega arith)

pub loop-total-preserved : goal.loop-total-preserved
loop-total-preserved c =
    let s = c.loop-total in
    let l = c.args.totals.now in
    let run = take (c.args.held - 1) (drop 1 l) in
    let t = get_or run s.total-index (pos 0) in
    let is : to_z w32 (of_z w32 t) ≡ t = back w32 t (omega arith) in
    let best : to_z w32 c.if-best-total.best-bits ≡ larger (to_z w32 s.best-bits) t
    = elim c.if-best-total.branch [
      | then-best-total w ↦ w.best-is ∙ is ∙ sym (larger-second (to_z w32 s.best-bits) t (ap (lt_z (to_z w32 s.best-bits)) (sym is) ∙ w.if-best-total.true))
      | else-best-total w ↦ w.best-is ∙ sym (larger-first (to_z w32 s.best-bits) t (ap (lt_z (to_z w32 s.best-bits)) (sym is) ∙ w.if-best-total.false))
    ] in
    best ∙ ap (λ (z : ℤ). larger z t) s.invariant ∙ sym (largest-next (get_or l 0 (pos 0)) run s.total-index c.loop-total-test.true)

pub returns : goal.returns
returns c =
    let s = c.loop-total in
    let l = c.args.totals.now in
    let run = take (c.args.held - 1) (drop 1 l) in
    s.invariant
    ∙ ap (largest_from (get_or l 0 (pos 0))) (take_all s.total-index run c.loop-total-test.false)
    ∙ largest-rest l c.args.held (omega arith) (omega arith)
