-- The invariant: what is left of the way decides what the whole way does.
use mathlib.Core.Path.{◌≡◌, sym, ap, ap₂, ◌∙◌}
use mathlib.Core.List.{List}
use mathlib.Core.Bool.{false}
use Prim.Native.Nat.{ℕ, ◌+◌, ◌-◌, ◌<◌}
use native.Mathlib.Omega.{arith}
use Rattle.checkpoints.specs.Checkpoints.{distance_at, bad_trailer_at, end_back, bad_way}
use Rattle.checkpoints.proofs.Ways.{way-bad, way_on, end_on, way_end, end-end}
use Rattle.checkpoints.proofs.reading.end_of.Goals as goal

pub returns-then-bad_trailer_at-clause-code : goal.returns-then-bad_trailer_at-clause-code
returns-then-bad_trailer_at-clause-code c =
    let s = c.loop-step in
    let bad = sym c.bad_trailer_at.ensures ∙ c.if-bad_trailer_at.true in
    rw (sym s.invariant.way ∙ way-bad c.args.bytes.now (c.args.steps - s._step) s.end (omega (arith, c.loop-step-test.true)) bad)

pub loop-step-preserved : goal.loop-step-preserved
loop-step-preserved c =
    let s = c.loop-step in
    let B : List ℕ = c.args.bytes.now in
    let left : ℕ = c.args.steps - s._step in
    let some : 0 < left = omega (arith, c.loop-step-test.true) in
    let good : bad_trailer_at B s.end ≡ false = sym c.bad_trailer_at.ensures ∙ c.if-bad_trailer_at.false in
    let fewer : c.args.steps - (s._step + 1) ≡ left - 1 = omega arith in
    let next : s.end - c.distance_at-end.result ≡ s.end - distance_at B s.end = ap (λ (d : ℕ). s.end - d) c.distance_at-end.ensures in
    record {
      within = omega (arith, s.invariant.within);
      way = ap₂ (bad_way B) fewer next ∙ sym (way_on B left s.end some good) ∙ s.invariant.way;
      place = ap₂ (end_back B) fewer next ∙ sym (end_on B left s.end some) ∙ s.invariant.place;
    }

pub returns-then-bad_trailer_at-2-clause-code : goal.returns-then-bad_trailer_at-2-clause-code
returns-then-bad_trailer_at-2-clause-code c =
    let s = c.loop-step in
    let bad = sym c.bad_trailer_at-2.ensures ∙ c.if-bad_trailer_at-2.true in
    rw (sym s.invariant.way ∙ way_end c.args.bytes.now (c.args.steps - s._step) s.end (omega (arith, c.loop-step-test.false)) ∙ bad)

pub returns-clause-code : goal.returns-clause-code
returns-clause-code c =
    let s = c.loop-step in
    let good = sym c.bad_trailer_at-2.ensures ∙ c.if-bad_trailer_at-2.false in
    rw (sym s.invariant.way ∙ way_end c.args.bytes.now (c.args.steps - s._step) s.end (omega (arith, c.loop-step-test.false)) ∙ good)

pub returns-clause-found : goal.returns-clause-found
returns-clause-found c =
    let s = c.loop-step in (
      sym (end-end c.args.bytes.now (c.args.steps - s._step) s.end (omega (arith, c.loop-step-test.false))) ∙ s.invariant.place,
      s.invariant.within,
      sym c.bad_trailer_at-2.ensures ∙ c.if-bad_trailer_at-2.false,
    )
