use Prim.Native.Nat.{◌+◌, ◌*◌, ◌^◌, ◌<◌, ◌≤◌}
use mathlib.Core.Path.{◌≡◌, refl, sym, ap, ap₂, ◌∙◌, subst}
use mathlib.Core.Bool.{Bool, true, false}
use mathlib.Core.List.{List, [], ◌∷◌, ◌++◌}
use native.Mathlib.Omega.{arith}
use lib.IntN.{ℤ, pos, nat_abs, ◌+ℤ◌, ◌-ℤ◌}
use lib.ListN.{set, get_or, drop}
use lib.Signed.{mag}
use mir.Syntax.{w32, w64}
use mir.Val.{SFits, to_z, of_z}
use mir.Facts.{to_z-of_z}
use Rattle.integers.proofs.Bits.{back, widened}
use Rattle.refusals.specs.declared.Step.{Step}
use Rattle.windows.specs.declared.Tally.{Tally}
use Rattle.windows.specs.declared.Window.{Window}
use Rattle.windows.specs.Windows.{max_span, is_window, window_of, held_of, pushed_window}
use Rattle.windows.proofs.RunLaws.{sum_bound, difference-bound, bound-fits}
use Rattle.windows.proofs.WindowLaws.{tested, good, push-room, push-full, gives-new}
use Rattle.windows.proofs.rolling.push_total.Goals as goal

-- an i64, and an i32 cast to one, as the machine reads them
abbrev wide : ℤ → ℤ
wide z = to_z w64 (of_z w64 z)

abbrev cast : ℤ → ℤ
cast z = wide (to_z w32 (of_z w32 z))

abbrev oldest_of : Window → ℤ
oldest_of W = get_or W.totals 0 (pos 0)

-- a small sum and one total more, or one for another, as the machine adds them
module _ (sum : ℤ) (range : mag sum < 2 ^ 63) (small : nat_abs sum ≤ max_span * 2 ^ 31) (t : ℤ) (total : SFits w32 t) where
  added-is : wide (wide sum +ℤ cast t) ≡ sum +ℤ t
  added-is =
      let plain : wide sum +ℤ cast t ≡ sum +ℤ t = ap₂ (λ (a b : ℤ). a +ℤ b) (back w64 sum range) (widened {z = t} total) in
      let fits : SFits w64 (sum +ℤ t) = bound-fits (sum +ℤ t) (omega (arith, sum_bound sum t max_span small total.sfits)) in
      ap wide plain ∙ to_z-of_z fits

  module _ (old : ℤ) (fit : mag old < 2 ^ 31) where
    low : nat_abs (sum -ℤ old) ≤ (max_span + 1) * 2 ^ 31
    low = difference-bound sum old max_span small fit

    less-is : wide (wide sum -ℤ cast old) ≡ sum -ℤ old
    less-is =
        let plain : wide sum -ℤ cast old ≡ sum -ℤ old = ap₂ (λ (a b : ℤ). a -ℤ b) (back w64 sum range) (widened {z = old} (record { sfits = fit })) in
        ap wide plain ∙ to_z-of_z (bound-fits (sum -ℤ old) (omega (arith, low)))

    moved : wide (wide sum -ℤ cast old) +ℤ cast t ≡ (sum -ℤ old) +ℤ t
    moved = ap₂ (λ (a b : ℤ). a +ℤ b) less-is (widened {z = t} total)

    fits : SFits w64 ((sum -ℤ old) +ℤ t)
    fits = bound-fits ((sum -ℤ old) +ℤ t) (sum_bound (sum -ℤ old) t (max_span + 1) low total.sfits)

    moved-fits : SFits w64 (wide (wide sum -ℤ cast old) +ℤ cast t)
    moved-fits = subst (SFits w64) (sym moved) fits

    moved-is : wide (wide (wide sum -ℤ cast old) +ℤ cast t) ≡ (sum -ℤ old) +ℤ t
    moved-is = ap wide moved ∙ to_z-of_z fits

-- what the test of a window's parts found
module _ (W : Window) (range : mag W.sum < 2 ^ 63) (b : Bool)
    (is : b ≡ is_window (record { span = W.span; held = W.held; totals = W.totals; sum = wide W.sum })) (found : b ≡ true)
  where
    passes : is_window W ≡ true
    passes = sym (tested W range is) ∙ found

    small-sum : (b ≡ true → nat_abs (wide W.sum) ≤ max_span * 2 ^ 31) → nat_abs W.sum ≤ max_span * 2 ^ 31
    small-sum low = subst (λ (z : ℤ). nat_abs z ≤ max_span * 2 ^ 31) (back w64 W.sum range) (low found)

    -- pushed, where that is what the run and the total leave
    pushed-is : (t : ℤ) → window_of W.span (held_of W ++ (t ∷ [])) ≡ pushed_window W t
    pushed-is t = gives-new (is_window W) false (window_of W.span (held_of W ++ (t ∷ []))) W passes refl

-- the parts that a step leaves, and the window that they are
abbrev left_by : Window → List ℤ → Step Tally → Window
left_by W totals step = record { span = W.span; held = step.state.held; totals = totals; sum = step.state.sum }

pub returns-then-held-span-clause-window : goal.returns-then-held-span-clause-window
returns-then-held-span-clause-window c =
    let W : Window = record { span = c.args.span; held = c.args.held; totals = c.args.totals.now; sum = c.args.sum } in
    let t = c.args.total in
    let range : mag W.sum < 2 ^ 63 = c.ranges.sum.sfits in
    let found = c.if-not-is_left.false in
    let small = small-sum W range _ c.is_left.ensures.is found c.is_left.ensures.small in
    ap (left_by W (set W.totals W.held (to_z w32 (of_z w32 t)))) c.made.ensures
    ∙ (λ i.
    record {
      span = W.span;
      held = W.held + 1;
      totals = set W.totals W.held (to_z-of_z c.ranges.total i);
      sum = added-is W.sum range small t c.ranges.total i;
    })
    ∙ push-room W c.told-totals (good W (passes W range _ c.is_left.ensures.is found)) t c.if-held-span.true
    ∙ pushed-is W range _ c.is_left.ensures.is found t

pub overflow_add-sum-2 : goal.overflow_add-sum-2
overflow_add-sum-2 c =
    let W : Window = record { span = c.args.span; held = c.args.held; totals = c.args.totals.now; sum = c.args.sum } in
    let range : mag W.sum < 2 ^ 63 = c.ranges.sum.sfits in
    let small = small-sum W range _ c.is_left.ensures.is c.if-not-is_left.false c.is_left.ensures.small in
    moved-fits W.sum range small c.args.total c.ranges.total (oldest_of W) (omega arith)

pub returns-clause-window : goal.returns-clause-window
returns-clause-window c =
    let W : Window = record { span = c.args.span; held = c.args.held; totals = c.args.totals.now; sum = c.args.sum } in
    let t = c.args.total in
    let range : mag W.sum < 2 ^ 63 = c.ranges.sum.sfits in
    let found = c.if-not-is_left.false in
    let small = small-sum W range _ c.is_left.ensures.is found c.is_left.ensures.small in
    ap (left_by W c.shift.new.totals) c.made-2.ensures
    ∙ (λ i.
    record {
      span = W.span;
      held = W.held;
      totals =
          (c.shift.ensures
          ∙ ap (λ (t : ℤ). (drop 1 (held_of W) ++ (t ∷ [])) ++ drop W.held W.totals) (to_z-of_z c.ranges.total)) i;
      sum = moved-is W.sum range small t c.ranges.total (oldest_of W) (omega arith) i;
    })
    ∙ push-full W c.told-totals (good W (passes W range _ c.is_left.ensures.is found)) t c.if-held-span.false
    ∙ pushed-is W range _ c.is_left.ensures.is found t
