use mathlib.Core.Path.{◌≡◌, sym, ap, ◌∙◌}
use mathlib.Core.Bool.{Bool, ◌&&◌}
use Prim.Native.Nat.{◌+◌}
use lib.ListN.{drop, get_or}
use lib.IntN.{pos}
use mir.Syntax.{w32}
use Rattle.signed.specs.Caps.{is_in_cap, all_in_cap}
use Rattle.integers.proofs.Bits.{back}
use Rattle.signed.proofs.CapLaws.{cap-step, cap-end}
use Rattle.signed.proofs.caps.all_in_cap.Goals as goal
use Rattle.signed.proofs.caps.all_in_cap.Goals.{After-in_cap}

-- the answer is about the reading at its place, and so the rest decides
step : (c : After-in_cap)
    → (let a = c.args in
    (c.in_cap.result && all_in_cap a.cap (drop (c.loop-w.w-index + 1) a.readings.now)) ≡ all_in_cap a.cap a.readings.now)
step c =
    let a = c.args in
    let s = c.loop-w in
    let w = get_or a.readings.now s.w-index (pos 0) in
    ap (λ (t : Bool). t && all_in_cap a.cap (drop (s.w-index + 1) a.readings.now))
    (c.in_cap.ensures ∙ ap (is_in_cap a.cap) (back w32 w c.w-1.given))
    ∙ sym (cap-step a.cap a.readings.now s.w-index c.loop-w-test.true)
    ∙ s.invariant

pub returns-then-not-in_cap : goal.returns-then-not-in_cap
returns-then-not-in_cap c = rw c.if-not-in_cap.true at (step (goal.at.returns-then-not-in_cap c).After-in_cap)

pub loop-w-preserved : goal.loop-w-preserved
loop-w-preserved c = rw c.if-not-in_cap.false at (step (goal.at.loop-w-preserved c).After-in_cap)

pub returns : goal.returns
returns c =
    let a = c.args in
    sym (cap-end a.cap a.readings.now c.loop-w.w-index c.loop-w-test.false) ∙ c.loop-w.invariant
