use mathlib.Core.Path.{sym, ap, ◌∙◌}
use mathlib.Core.Bool.{Bool, ◌&&◌, and_assoc, and-true}
use Prim.Native.Nat.{◌+◌}
use native.Mathlib.Omega.{arith}
use lib.IntN.{pos}
use lib.ListN.{drop, get_or}
use Rattle.windows.specs.Runs.{same, all_zero}
use Rattle.windows.proofs.RunLaws.{zero-step, zero-end, bits-zero}
use Rattle.windows.proofs.places.all_zero.Goals as goal

pub loop-k-preserved : goal.loop-k-preserved
loop-k-preserved c =
    let s = c.loop-k in
    let l = c.args.totals.now in
    let t = get_or l s.k (pos 0) in
    let rest : Bool = all_zero (drop (s.k + 1) l) in
    ap (λ (here : Bool). (s.zero && here) && rest) (bits-zero t (omega arith))
    ∙ and_assoc s.zero (same t (pos 0)) rest
    ∙ ap (λ (b : Bool). s.zero && b) (sym (zero-step l s.k (omega arith)))
    ∙ s.invariant

pub returns : goal.returns
returns c =
    let s = c.loop-k in
    let none = zero-end c.args.totals.now s.k (omega arith) in
    sym (and-true s.zero) ∙ ap (λ (b : Bool). s.zero && b) (sym none) ∙ s.invariant
