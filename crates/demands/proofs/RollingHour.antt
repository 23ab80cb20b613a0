-- The rolling hour: the statements of specs/RollingHour.
use Prim.Native.Nat.{ℕ, ◌-◌, ◌*◌}
use mathlib.Core.Path.{◌≡◌, refl, ap, ◌∙◌}
use mathlib.Core.Logic.Iff
use mathlib.Core.Bool.{Bool, true, false, cond}
use mathlib.Core.List.{List, [], ◌∷◌}
use native.Mathlib.Omega.{arith}
use lib.Dec.{eqb, ltb}
use lib.IntN.{ℤ, pos, ◌-ℤ◌}
use lib.ListN.{length, take, take-append-drop, length-drop}
use lib.Signed.{◌≤ℤ◌}
use borrow.Author.Tests.{ltb-true, ltb-false}
use mir.Syntax.{w32}
use mir.Val.{SFits}
use Rattle.lists.specs.Lists.{All}
use Rattle.lists.proofs.Members.{all-at}
use Rattle.signed.specs.Numbers.{shown_of}
use Rattle.signed.proofs.NumberLaws.{half-fits}
use Rattle.windows.specs.declared.Window.{Window}
use Rattle.windows.specs.Runs.{sum_of, last_of, largest_of}
use Rattle.windows.specs.Windows.{max_span, span_fits, IsTotal, is_window, window_code}
use Rattle.windows.proofs.RunLaws.{last-all}
use Rattle.windows.proofs.WindowLaws.{span-iff, accepted-iff, refused-iff}
use Rattle.windows.proofs.AlongRuns.{values-total, left-iff, left-once, left-code, left-largest, opens, opened-is, sum-range, none-sum, none-largest, none-iff}
use Rattle.windows.proofs.AlongRuns.{last_some, refused-left, refused-largest}
use Rattle.windows.proofs.AlongRuns as along
use Rattle.demands.specs.RollingHour.{SpanMeans, AlongRun, LastOnes, UntilFull, SumAfresh, LargestAfresh, LargestIs, SumKept, ShownIsTotal, NothingYet}
use Rattle.demands.specs.RollingHour.{LeftExactly, RefusedExactly, OpensExactly, EmptyExactly, OneWindow, RefusedKeeps, RefusedOpening}

pub span-means : SpanMeans
span-means = span-iff

module _ (n : ℕ) (fits : span_fits n ≡ true) (run : List ℤ) where
  pub along-run : AlongRun n fits run
  along-run = let is = along.along-run n fits run in (opens n fits, rw is (left-code n fits run), is)

  pub last-ones : LastOnes n fits run
  last-ones =
      let d : ℕ = length run - n in
      ((take d run, take-append-drop d run), (λ h. omega (arith, length-drop d run)))

  pub sum-afresh : SumAfresh n fits run
  sum-afresh = rw (along.along-run n fits run) (along.sum-afresh n fits run)

  pub largest-afresh : LargestAfresh n fits run
  largest-afresh h = rw (along.along-run n fits run) (left-largest n fits run h, along.largest-afresh n fits run h)

  pub until-full : UntilFull n fits run
  until-full h =
      let all = last-all n run h in
      (sum-afresh ∙ ap sum_of all, (λ some. (largest-afresh some).1 ∙ ap largest_of all))

  pub largest-is : LargestIs n fits run
  largest-is h =
      let last : List ℤ = last_of n run in
      let (one, none-larger) = along.largest-is last (last_some n fits run h) in
      rw (largest-afresh h).1 (one, (λ k l. all-at (λ t. t ≤ℤ largest_of last) last none-larger k l (pos 0)))

  pub sum_kept : SumKept n fits run
  sum_kept = rw (along.along-run n fits run) (refl, sum-range n fits run)

pub shown-is-total : ShownIsTotal
shown-is-total q t small below = (values-total (shown_of q t ∷ []) (go (ltb (2 * t) q) refl, tt)).0
  where
    go : (b : Bool) → ltb (2 * t) q ≡ b → SFits w32 (cond b (pos t) (pos t -ℤ pos q))
    go true e = record { sfits = omega (arith, ltb-true (2 * t) q e) }
    go false e = half-fits q t small below (ltb-false (2 * t) q e)

pub nothing_yet : NothingYet
nothing_yet n fits = rw (opened-is n fits) (left-code n fits [], none-sum n fits, none-largest n fits)

module _ (W : Window) (places : length W.totals ≡ max_span) (held : All IsTotal W.totals) where
  pub left-exactly : LeftExactly W places held
  left-exactly = Iff.trans (accepted-iff (is_window W)) (left-iff W places held)

  pub refused-exactly : RefusedExactly W places held
  refused-exactly =
      let no = Iff.not (left-iff W places held) in
      (Iff.trans (refused-iff (is_window W) false) no, Iff.trans (refused-iff (is_window W) (eqb W.held 0)) no)

pub opens-exactly : OpensExactly
opens-exactly n = refused-iff (span_fits n) false

pub empty-exactly : EmptyExactly
empty-exactly = none-iff

pub one-window : OneWindow
one-window = left-once

pub refused-keeps : RefusedKeeps
refused-keeps W = (refused-left W, refused-largest W)

pub refused-opening : RefusedOpening
refused-opening n e = let is = along.refused-opening n e in (is, ap window_code is)
