-- The window's theorems: which windows a run leaves; and that pushing along a run keeps the sum and the largest of its last totals.
use Prim.Native.Nat.{ℕ, zero, suc, ◌-◌, ◌^◌, ◌≤◌, ◌<◌}
use mathlib.Core.Path.{◌≡◌, refl, sym, ap, ap₂, ◌∙◌, subst}
use mathlib.Core.Logic.{◌↔◌, ◌⊎◌, inl, inr, ⊎_elim}
use mathlib.Core.Bool.{Bool, true, false, cond}
use mathlib.Core.List.{List, [], ◌∷◌, ◌++◌, append_assoc, append-nil}
use native.Mathlib.Omega.{arith}
use native.Mathlib.Nat.{not-suc-le-zero}
use lib.Dec.{eqb}
use lib.IntN.{ℤ, pos, neg_ℤ}
use lib.ListN.{length, take, drop, get_or, take-append-drop, length-drop}
use lib.Signed.{lt_z, ◌≤ℤ◌, ◌<ℤ◌, ≤ℤ_refl}
use borrow.Author.Tests.{eq-eqb, ne_eqb, eqb-true}
use mir.Syntax.{w32, w64}
use mir.Val.{SFits}
use Rattle.lists.specs.Lists.{All}
use Rattle.lists.proofs.Members.{all_left, all_right, all_map}
use Rattle.refusals.specs.Codes.{code, accepted}
use Rattle.refusals.specs.declared.Refusal.TheVariants.{NotFull, BadWindow}
use Rattle.refusals.proofs.CodeLaws.{accepted-takes, refused-keeps}
use Rattle.integers.proofs.Parts.{less-true, less-false, order-parts, parts-order}
use Rattle.integers.proofs.Bits.{fits-range}
use Rattle.windows.specs.declared.Window.{Window}
use Rattle.windows.specs.Runs.{sum_of, larger, largest_from, largest_of, last_of}
use Rattle.windows.specs.Windows.{max_span, span_fits, placed, window_of, held_of, IsTotal, is_window, Left, open_code, opened_window}
use Rattle.windows.specs.Windows.{window_code, pushed_window, given_sum, largest_code, given_largest, pushed_all}
use Rattle.windows.proofs.RunLaws.{last-last, last-all, last-few, sum-size, bound-fits}
use Rattle.windows.proofs.WindowLaws.{good, good-is, held-is, left-passes, fits_low, fits-high, answers-0, answers-12, empty-iff}

-- ---- "a window handed in is one that no run of totals leaves": the test finds it, and nothing else

-- what an array of 32-bit numbers holds, a run can bring
pub values-total : (l : List ℤ) → All (SFits w32) l → All IsTotal l
values-total = all_map (SFits w32) IsTotal (fits-range w32)

-- of any 96 totals of 32 bits, as every window of the code has
pub left-iff : (W : Window) → length W.totals ≡ max_span → All IsTotal W.totals → (is_window W ≡ true) ↔ Left W
left-iff W places totals = (
  (λ e.
      let g = good W e in
      let rest : List ℤ = drop W.held W.totals in
      record {
        span = W.span;
        run = held_of W;
        fits = g.fits;
        totals = all_left IsTotal (held_of W) rest (subst (All IsTotal) (sym (take-append-drop W.held W.totals)) totals);
        is = good-is W places g;
      }),
  (λ k. ap is_window k.is ∙ left-passes k.span k.run k.fits),
)

-- and there is one way to write it: span and last totals are those of the run
pub left-once : (n n' : ℕ) (run run' : List ℤ) → (window_of n run ≡ window_of n' run') ↔ ((n ≡ n') × (last_of n run ≡ last_of n' run'))
left-once n n' run run' = (
  (λ e. (ap (λ (W : Window). W.span) e, sym (held-is n run) ∙ ap held_of e ∙ held-is n' run')),
  (λ (e, l). ap₂ (λ (k : ℕ) (r : List ℤ). record { span = k; held = length r; totals = placed r; sum = sum_of r }) e l),
)

-- a refusal leaves the window, and its figures are 0
module _ (W : Window) where
  pub refused-left : window_code W ≡ code 17 → ((t : ℤ) → pushed_window W t ≡ W) × (given_sum W ≡ pos 0)
  refused-left e = (
    (λ t. refused-keeps (window_code W) (window_of W.span (held_of W ++ (t ∷ []))) W BadWindow (sym e)),
    refused-keeps (window_code W) (sum_of (held_of W)) (pos 0) BadWindow (sym e),
  )

  pub refused-largest : (largest_code W ≡ code 17) ⊎ (largest_code W ≡ code 12) → given_largest W ≡ pos 0
  refused-largest =
      ⊎_elim
      (λ e. refused-keeps (largest_code W) (largest_of (held_of W)) (pos 0) BadWindow (sym e))
      (λ e. refused-keeps (largest_code W) (largest_of (held_of W)) (pos 0) NotFull (sym e))

pub refused-opening : (n : ℕ) → open_code n ≡ code 17 → opened_window n ≡ window_of 0 []
refused-opening n e = refused-keeps (open_code n) (window_of n []) (window_of 0 []) BadWindow (sym e)

-- ---- along a run

module _ (n : ℕ) (fits : span_fits n ≡ true) where
  -- what a run leaves is refused by no call
  pub left-code : (run : List ℤ) → accepted ≡ window_code (window_of n run)
  left-code run = answers-0 (is_window (window_of n run)) false (left-passes n run fits) refl

  -- where a run has a total, so have its last ones
  pub last_some : (run : List ℤ) → 0 < length run → 0 < length (last_of n run)
  last_some run h = omega (arith, length-drop (length run - n) run, fits_low n fits)

  pub left-largest : (run : List ℤ) → 0 < length run → accepted ≡ largest_code (window_of n run)
  left-largest run h =
      answers-0 (is_window (window_of n run)) (eqb (length (last_of n run)) 0) (left-passes n run fits)
      (ne_eqb (length (last_of n run)) 0 (λ z. omega (arith, z, last_some run h)))

  push-one : (run : List ℤ) (t : ℤ) → pushed_window (window_of n run) t ≡ window_of n (run ++ (t ∷ []))
  push-one run t =
      accepted-takes (window_code (window_of n run)) (window_of n (held_of (window_of n run) ++ (t ∷ []))) (window_of n run) (left-code run)
      ∙ ap (λ (l : List ℤ). window_of n (l ++ (t ∷ []))) (held-is n run)
      ∙ ap (λ (l : List ℤ). record { span = n; held = length l; totals = placed l; sum = sum_of l }) (last-last n run (t ∷ []))

  push-more : (run more : List ℤ) → pushed_all (window_of n run) more ≡ window_of n (run ++ more)
  push-more run [] = ap (window_of n) (sym (append-nil run))
  push-more run (t ∷ more) =
      ap (λ (W : Window). pushed_all W more) (push-one run t) ∙ push-more (run ++ (t ∷ [])) more ∙ ap (window_of n) (append_assoc run (t ∷ []) more)

  pub opens : accepted ≡ open_code n
  opens = answers-0 (span_fits n) false fits refl

  pub opened-is : opened_window n ≡ window_of n []
  opened-is = accepted-takes (open_code n) (window_of n []) (window_of 0 []) opens

  -- opened and pushed along a run, a window is what the run leaves
  pub along-run : (run : List ℤ) → pushed_all (opened_window n) run ≡ window_of n run
  along-run run = ap (λ (W : Window). pushed_all W run) opened-is ∙ push-more [] run

  -- "Both equal those worked out afresh from the whole run."
  pub sum-afresh : (run : List ℤ) → given_sum (window_of n run) ≡ sum_of (last_of n run)
  sum-afresh run = accepted-takes (window_code (window_of n run)) (sum_of (held_of (window_of n run))) (pos 0) (left-code run) ∙ ap sum_of (held-is n run)

  -- in 64 bits
  pub sum-range : (run : List ℤ) → All IsTotal run → (neg_ℤ (pos (2 ^ 63)) ≤ℤ sum_of (last_of n run)) × (sum_of (last_of n run) <ℤ pos (2 ^ 63))
  sum-range run totals =
      let d : ℕ = length run - n in
      let last : List ℤ = last_of n run in
      let size = sum-size last (all_right IsTotal (take d run) last (subst (All IsTotal) (sym (take-append-drop d run)) totals)) in
      let few : length last ≤ max_span = omega (arith, last-few n run, fits-high n fits) in
      fits-range w64 (sum_of last) (bound-fits (sum_of last) (omega (arith, size, few)))

  -- and the largest, once there is a total
  pub largest-afresh : (run : List ℤ) → 0 < length run → given_largest (window_of n run) ≡ largest_of (last_of n run)
  largest-afresh run h =
      accepted-takes (largest_code (window_of n run)) (largest_of (held_of (window_of n run))) (pos 0) (left-largest run h) ∙ ap largest_of (held-is n run)

  -- "With no total yet, the sum is 0 and the largest is refused with 12."
  pub none-sum : given_sum (window_of n []) ≡ pos 0
  unfolding sum_of
  none-sum = sum-afresh [] ∙ ap sum_of (last-all n [] (omega arith))

  pub none-largest : largest_code (window_of n []) ≡ code 12
  none-largest =
      let none : length (last_of n []) ≡ 0 = ap length (last-all n [] (omega arith)) in
      sym (answers-12 (is_window (window_of n [])) (eqb (length (last_of n [])) 0) (left-passes n [] fits) (eq-eqb (length (last_of n [])) 0 none))

-- 12 is answered of what no total leaves, and of nothing else
pub none-iff : (W : Window) → length W.totals ≡ max_span → (largest_code W ≡ code 12) ↔ ((n : ℕ) × (span_fits n ≡ true) × (W ≡ opened_window n))
none-iff W places = (
  (λ e.
      let (passes, none) = (empty-iff (is_window W) (eqb W.held 0)).0 e in
      let g = good W passes in
      let empty : held_of W ≡ [] = ap (λ (k : ℕ). take k W.totals) (eqb-true W.held 0 none) in
      (W.span, g.fits, good-is W places g ∙ ap (window_of W.span) empty ∙ sym (opened-is W.span g.fits))),
  (λ (n, fits, is). ap largest_code (is ∙ opened-is n fits) ∙ none-largest n fits),
)

-- ---- what the largest is

-- one of a run, by its place
abbrev pub Among : ℤ → List ℤ → Type 0
Among x run = (k : ℕ) × (k < length run) × (get_or run k (pos 0) ≡ x)

larger-cases : (a b : ℤ) → ((larger a b ≡ b) × (a ≤ℤ b)) ⊎ ((larger a b ≡ a) × (b ≤ℤ a))
larger-cases a b = go (lt_z a b) refl
  where
    go : (t : Bool) → lt_z a b ≡ t → ((cond t b a ≡ b) × (a ≤ℤ b)) ⊎ ((cond t b a ≡ a) × (b ≤ℤ a))
    go true e = inl (refl, parts-order a b (omega (arith, less-true a b e)))
    go false e = inr (refl, parts-order b a (omega (arith, less-false a b e)))

≤ℤ-trans : {a b c : ℤ} → a ≤ℤ b → b ≤ℤ c → a ≤ℤ c
≤ℤ-trans {a} {b} {c} h l = parts-order a c (omega (arith, order-parts a b h, order-parts b c l))

from-above : (a : ℤ) (run : List ℤ) → (a ≤ℤ largest_from a run) × All (λ t. t ≤ℤ largest_from a run) run
unfolding largest_from
from-above a [] = (≤ℤ_refl a, tt)
from-above a (t ∷ run) =
    let (first, rest) = from-above (larger a t) run in
    let m : ℤ = larger a t in
    let both : (a ≤ℤ m) × (t ≤ℤ m)
    = ⊎_elim (λ w. (subst (λ (z : ℤ). a ≤ℤ z) (sym w.0) w.1, subst (λ (z : ℤ). t ≤ℤ z) (sym w.0) (≤ℤ_refl t)))
    (λ w. (subst (λ (z : ℤ). a ≤ℤ z) (sym w.0) (≤ℤ_refl a), subst (λ (z : ℤ). t ≤ℤ z) (sym w.0) w.1))
    (larger-cases a t) in
    (≤ℤ-trans both.0 first, (≤ℤ-trans both.1 first, rest))

from-among : (a : ℤ) (run : List ℤ) → Among (largest_from a run) (a ∷ run)
unfolding largest_from
from-among a [] = (0, omega arith, refl)
from-among a (t ∷ run) = step (from-among (larger a t) run)
  where
    step : {x : ℤ} → Among x (larger a t ∷ run) → Among x (a ∷ t ∷ run)
    step (zero, h, e) = ⊎_elim (λ w. (1, omega arith, sym w.0 ∙ e)) (λ w. (0, omega arith, sym w.0 ∙ e)) (larger-cases a t)
    step (suc k, h, e) = (suc (suc k), omega arith, e)

-- the largest of a run is one of it, and no total of the run is larger
pub largest-is : (run : List ℤ) → 0 < length run → Among (largest_of run) run × All (λ t. t ≤ℤ largest_of run) run
largest-is [] h = absurd (not-suc-le-zero h)
largest-is (t ∷ run) h = (from-among t run, from-above t run)
