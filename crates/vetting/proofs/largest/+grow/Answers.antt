-- The levels of a call up to its own stay, so the second call finds its table where the first found it.
use mathlib.Core.Path.{◌≡◌, refl, ◌∙◌}
use mathlib.Core.List.{List}
use Prim.Native.Nat.{ℕ, ◌+◌, ◌-◌, ◌*◌, ◌^◌, ◌≤◌, ◌<◌}
use native.Mathlib.Omega.{arith}
use lib.ListN.{length}
use lib.Pow.{pow_pos}
use Rattle.plans.specs.Plans.{plan}
use Rattle.vetting.specs.Walking.{level_at, levels_size}
use Rattle.vetting.proofs.GrowLaws.{grown-full, grown-few, Step, bit_is, room-half}
use Rattle.vetting.proofs.GrowLaws.{ends-at-row, stays-once, ends-inside, stays_twice, ends-after}
use Rattle.vetting.proofs.largest.+grow.Goals as goal

-- a call that asks for one more user
step : (q clusters size limit cols i k g : ℕ) (L : List ℕ)
    → (length L ≡ levels_size) × (clusters ≤ 8) × (size ≤ 8) × (clusters * size ≤ 16) × (cols ≤ 16) × (k ≤ limit) × (i + k ≤ 16) × (g + 2 ^ i ≤ 65536)
    → (limit - k ≡ 0 → ⊥) → limit - k ≤ i
    → Step q clusters size limit cols i k g L
step q clusters size limit cols i k g L p some enough =
    record {
      len = p.0;
      few = p.1;
      users = p.3;
      narrow = p.4;
      within = omega (arith, p.5, some);
      low = p.6;
      room = p.7;
      some = omega (arith, some, enough);
      enough = omega (arith, p.5, enough);
    }

pub returns-then-left-eq0 : goal.returns-then-left-eq0
returns-then-left-eq0 t c =
    let a = c.args in
    let U = level_at ((a.clusters * a.size + a.clusters) * a.cols) a.levels.now a.k in
    let full : a.k ≡ a.limit = omega (arith, c.if-left-eq0.true, c.requires.5) in
    (c.is_quiet.ensures ∙ grown-full a.q a.clusters a.size a.limit a.cols a.i a.k a.g U full, refl)

pub returns-then-i-left : goal.returns-then-i-left
returns-then-i-left t c =
    let a = c.args in
    let U = level_at ((a.clusters * a.size + a.clusters) * a.cols) a.levels.now a.k in
    let few : a.i + a.k < a.limit = omega (arith, c.if-i-left.true, c.requires.5) in
    (grown-few (plan a.clusters a.size a.limit a.cols a.q) a.k a.g U a.i few, refl)

pub overflow_add-h : goal.overflow_add-h
overflow_add-h t c =
    let a = c.args in
    let s = step a.q a.clusters a.size a.limit a.cols a.i a.k a.g a.levels.now c.requires c.if-left-eq0.false c.if-i-left.false in
    omega (arith, bit_is s, room-half s, pow_pos (a.i - 1))

pub grow-requires : goal.grow-requires
grow-requires t c =
    let a = c.args in
    let s = step a.q a.clusters a.size a.limit a.cols a.i a.k a.g a.levels.now c.requires c.if-left-eq0.false c.if-i-left.false in (
      omega (arith, s.some),
      (
        c.descend.auto.levels ∙ s.len,
        s.few,
        c.requires.2,
        s.users,
        s.narrow,
        omega (arith, s.within),
        omega (arith, s.low, s.some),
        omega (arith, bit_is s, room-half s),
      ),
    )

pub grow-requires-then-grow : goal.grow-requires-then-grow
grow-requires-then-grow t c =
    let a = c.args in
    let s = step a.q a.clusters a.size a.limit a.cols a.i a.k a.g a.levels.now c.requires c.if-left-eq0.false c.if-i-left.false in (
      omega (arith, s.some),
      (
        c.grow.auto.levels ∙ c.descend.auto.levels ∙ s.len,
        s.few,
        c.requires.2,
        s.users,
        s.narrow,
        c.requires.5,
        omega (arith, s.low),
        omega (arith, room-half s),
      ),
    )

pub returns-then-grow : goal.returns-then-grow
returns-then-grow t c =
    let a = c.args in
    let s = step a.q a.clusters a.size a.limit a.cols a.i a.k a.g a.levels.now c.requires c.if-left-eq0.false c.if-i-left.false in
    let d = c.descend in
    let e = c.grow in
    let f = c.grow-then-grow in
    let len : length e.new.levels ≡ levels_size = e.auto.levels ∙ d.auto.levels ∙ s.len in (
      ends-after s d.result d.ensures.0 d.new.levels d.ensures.1 e.result e.ensures.0 e.new.levels len e.ensures.1 c.if-descend.true c.if-grow.true
          f.result f.ensures.0,
      f.ensures.1 ∙ stays_twice s d.result d.ensures.0 d.new.levels d.ensures.1 e.result e.ensures.0 e.new.levels len e.ensures.1,
    )

pub returns-then-descend : goal.returns-then-descend
returns-then-descend t c =
    let a = c.args in
    let s = step a.q a.clusters a.size a.limit a.cols a.i a.k a.g a.levels.now c.requires c.if-left-eq0.false c.if-i-left.false in
    let d = c.descend in
    let e = c.grow in (
      ends-inside s d.result d.ensures.0 d.new.levels d.ensures.1 e.result e.ensures.0 c.if-descend.true c.if-grow.false,
      stays_twice s d.result d.ensures.0 d.new.levels d.ensures.1 e.result e.ensures.0 e.new.levels
          (e.auto.levels ∙ d.auto.levels ∙ s.len) e.ensures.1,
    )

pub returns : goal.returns
returns t c =
    let a = c.args in
    let s = step a.q a.clusters a.size a.limit a.cols a.i a.k a.g a.levels.now c.requires c.if-left-eq0.false c.if-i-left.false in
    let d = c.descend in (
      ends-at-row s d.result d.ensures.0 c.if-descend.false,
      stays-once s d.result d.ensures.0 d.new.levels d.ensures.1,
    )
