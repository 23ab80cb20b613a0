-- Laws of windows: what passes the test of a window, what one total more does, and the codes.
use Prim.Native.Nat.{ℕ, suc, ◌+◌, ◌-◌, ◌^◌, ◌≤◌, ◌<◌}
use mathlib.Core.Path.{◌≡◌, refl, sym, ap, ap₂, ◌∙◌}
use mathlib.Core.Logic.{◌↔◌}
use mathlib.Core.Bool.{Bool, true, false, not, ◌&&◌}
use mathlib.Core.List.{List, [], ◌∷◌, ◌++◌, append_assoc}
use native.Mathlib.Omega.{arith}
use lib.Dec.{T, leb, leb→le}
use lib.IntN.{ℤ, pos, ◌+ℤ◌, ◌-ℤ◌}
use lib.ListN.{length, drop, set, get_or, replicate, take-append-drop, length-drop, length-append}
use lib.Seq.{length-take-le, take-append_seam, drop-append_seam, set_at, drop-append-le, get_or-take}
use lib.Signed.{mag}
use borrow.Author.Tests.{le-leb}
use mir.Syntax.{w64}
use mir.Val.{to_z, of_z}
use Rattle.lists.proofs.Searches.{T_and, T→true, true→T}
use Rattle.refusals.specs.declared.Code.{Code}
use Rattle.refusals.specs.declared.Refusal.TheVariants.{NotFull, BadWindow}
use Rattle.refusals.specs.Codes.{code, accepted, first_of, if_accepted}
use Rattle.refusals.proofs.CodeLaws.{accepted-takes, refused-keeps}
use Rattle.integers.proofs.Bits.{back}
use Rattle.windows.specs.declared.Window.{Window}
use Rattle.windows.specs.Runs.{sum_of, last_of, same, all_zero}
use Rattle.windows.specs.Windows.{max_span, placed, window_of, held_of, span_fits, is_window}
use Rattle.windows.proofs.RunLaws.{same_true, same_refl, zeros-are, are-zeros, last-all, last-few, sum-newest, sum_shifted}

-- ---- what the tests found

pub fits_low : (n : ℕ) → span_fits n ≡ true → 1 ≤ n
fits_low n e = leb→le 1 n (T_and (leb 1 n) (leb n max_span) (true→T (span_fits n) e)).0

pub fits-high : (n : ℕ) → span_fits n ≡ true → n ≤ max_span
fits-high n e = leb→le n max_span (T_and (leb 1 n) (leb n max_span) (true→T (span_fits n) e)).1

pub span-iff : (n : ℕ) → (span_fits n ≡ true) ↔ ((1 ≤ n) × (n ≤ max_span))
span-iff n = ((λ e. (fits_low n e, fits-high n e)), (λ (low, high). rw (le-leb 1 n low, le-leb n max_span high)))

pub record Good (W : Window) : Type 0 where
  pub fits : span_fits W.span ≡ true
  pub low : 1 ≤ W.span
  pub high : W.span ≤ max_span
  pub few : W.held ≤ W.span
  pub zero : T (all_zero (drop W.held W.totals))
  pub sum : sum_of (held_of W) ≡ W.sum

pub good : (W : Window) → is_window W ≡ true → Good W
good W e =
    let zero : Bool = all_zero (drop W.held W.totals) in
    let sum : Bool = same (sum_of (held_of W)) W.sum in
    let (abc, d) = T_and (span_fits W.span && leb W.held W.span && zero) sum (true→T (is_window W) e) in
    let (ab, c) = T_and (span_fits W.span && leb W.held W.span) zero abc in
    let (a, b) = T_and (span_fits W.span) (leb W.held W.span) ab in
    let fits = T→true (span_fits W.span) a in
    record {
      fits = fits;
      low = fits_low W.span fits;
      high = fits-high W.span fits;
      few = leb→le W.held W.span b;
      zero = c;
      sum = same_true (sum_of (held_of W)) W.sum (T→true sum d);
    }

-- equal parts make equal windows
window-eq : (W : Window) {n h : ℕ} {l : List ℤ} {s : ℤ} → W.span ≡ n → W.held ≡ h → W.totals ≡ l → W.sum ≡ s
    → W ≡ record { span = n; held = h; totals = l; sum = s }
window-eq W a b c d = λ i. record { span = a i; held = b i; totals = c i; sum = d i }

-- the test of a window's parts, whose sum has gone through its bits, is the test of the window
pub tested : (W : Window) {b : Bool} → mag W.sum < 2 ^ 63
    → b ≡ is_window (record { span = W.span; held = W.held; totals = W.totals; sum = to_z w64 (of_z w64 W.sum) }) → b ≡ is_window W
tested W range e = e ∙ ap (λ (z : ℤ). is_window (record { span = W.span; held = W.held; totals = W.totals; sum = z })) (back w64 W.sum range)

module _ (W : Window) (places : length W.totals ≡ max_span) (g : Good W) where
  held-size : length (held_of W) ≡ W.held
  held-size = length-take-le W.held W.totals (omega (arith, g.few, g.high))

  -- past the held totals stands 0
  rest-is : drop W.held W.totals ≡ replicate (max_span - W.held) (pos 0)
  rest-is =
      zeros-are (drop W.held W.totals) g.zero
      ∙ ap (λ (n : ℕ). replicate n (pos 0)) (length-drop W.held W.totals ∙ ap (λ (n : ℕ). n - W.held) places)

  totals-are : W.totals ≡ held_of W ++ replicate (max_span - W.held) (pos 0)
  totals-are = sym (take-append-drop W.held W.totals) ∙ ap (λ (l : List ℤ). held_of W ++ l) rest-is

  -- a good window is what its own totals leave
  pub good-is : W ≡ window_of W.span (held_of W)
  good-is =
      let e : held_of W ≡ last_of W.span (held_of W) = sym (last-all W.span (held_of W) (omega (arith, held-size, g.few))) in
      window-eq W refl (sym held-size ∙ ap length e)
      (totals-are ∙ ap₂ (λ (l : List ℤ) (n : ℕ). l ++ replicate (max_span - n) (pos 0)) e (sym held-size ∙ ap length e)) (sym g.sum ∙ ap sum_of e)

  -- ---- one total more

  module _ (t : ℤ) where
    abbrev run : List ℤ
    run = held_of W ++ (t ∷ [])

    run-size : length run ≡ W.held + 1
    run-size = length-append (held_of W) (t ∷ []) ∙ ap (λ (n : ℕ). n + 1) held-size

    -- there is room
    pub push-room : W.held < W.span
        → record { span = W.span; held = W.held + 1; totals = set W.totals W.held t; sum = W.sum +ℤ t } ≡ window_of W.span run
    push-room h =
        let all : last_of W.span run ≡ run = last-all W.span run (omega (arith, run-size)) in
        let left : ℕ = max_span - (W.held + 1) in
        let one : max_span - W.held ≡ suc left = omega (arith, g.high) in
        let more : replicate (max_span - W.held) (pos 0) ≡ pos 0 ∷ replicate left (pos 0) = ap (λ (n : ℕ). replicate n (pos 0)) one in
        let stored : set W.totals W.held t ≡ placed run
        = ap (λ (l : List ℤ). set l W.held t) (totals-are ∙ ap (λ (l : List ℤ). held_of W ++ l) more)
        ∙ set_at (held_of W) (pos 0) (replicate left (pos 0)) t W.held held-size
        ∙ sym (append_assoc (held_of W) (t ∷ []) (replicate left (pos 0)))
        ∙ ap (λ (n : ℕ). run ++ replicate (max_span - n) (pos 0)) (sym run-size) in
        λ i.
        record {
          span = W.span;
          held = (sym run-size ∙ ap length (sym all)) i;
          totals = (stored ∙ ap placed (sym all)) i;
          sum = (ap (λ (z : ℤ). z +ℤ t) (sym g.sum) ∙ sym (sum-newest (held_of W) t) ∙ ap sum_of (sym all)) i;
        }

    -- the oldest makes room
    pub push-full : W.span ≤ W.held
        → record {
          span = W.span;
          held = W.held;
          totals = (drop 1 (held_of W) ++ (t ∷ [])) ++ drop W.held W.totals;
          sum = (W.sum -ℤ get_or W.totals 0 (pos 0)) +ℤ t;
        }
        ≡ window_of W.span run
    push-full h =
        let one : length run - W.span ≡ 1 = omega (arith, run-size, g.few) in
        let less : last_of W.span run ≡ drop 1 (held_of W) ++ (t ∷ [])
        = ap (λ (k : ℕ). drop k run) one ∙ drop-append-le 1 (held_of W) (t ∷ []) (omega (arith, held-size, g.low)) in
        let size : length (last_of W.span run) ≡ W.held
        = length-drop (length run - W.span) run ∙ omega (arith, run-size, g.few) in
        let oldest : get_or W.totals 0 (pos 0) ≡ get_or (held_of W) 0 (pos 0)
        = sym (get_or-take W.held W.totals 0 (pos 0) (omega (arith, g.low))) in
        λ i.
        record {
          span = W.span;
          held = sym size i;
          totals = (ap₂ (λ (a b : List ℤ). a ++ b) (sym less) (rest-is ∙ ap (λ (n : ℕ). replicate (max_span - n) (pos 0)) (sym size))) i;
          sum = (ap₂ (λ (a b : ℤ). (a -ℤ b) +ℤ t) (sym g.sum) oldest ∙ sum_shifted (held_of W) t (omega (arith, held-size, g.low)) ∙ ap sum_of (sym less)) i;
        }

-- ---- what a run leaves

-- no total yet
pub window-none : (n : ℕ) → record { span = n; held = 0; totals = replicate max_span (pos 0); sum = pos 0 } ≡ window_of n []
unfolding sum_of
window-none n = ap (λ (l : List ℤ). record { span = n; held = length l; totals = placed l; sum = sum_of l }) (sym (last-all n [] (omega arith)))

module _ (n : ℕ) (run : List ℤ) where
  abbrev last : List ℤ
  last = last_of n run

  pub held-is : held_of (window_of n run) ≡ last
  held-is = take-append_seam last (replicate (max_span - length last) (pos 0))

  -- it passes the test
  pub left-passes : span_fits n ≡ true → is_window (window_of n run) ≡ true
  left-passes fits =
      rw (
        fits,
        le-leb (length last) n (last-few n run),
        drop-append_seam last (replicate (max_span - length last) (pos 0)),
        are-zeros (max_span - length last),
        held-is,
        same_refl (sum_of last),
      )

-- ---- the codes

-- what every call answers: 17 where the test of its span or its window fails, then 12, which the largest alone gives
abbrev pub answer_of : Bool → Bool → Code
answer_of passed none = first_of ((not passed, code 17) ∷ (none, code 12) ∷ [])

pub answers-0 : (passed none : Bool) → passed ≡ true → none ≡ false → accepted ≡ answer_of passed none
answers-0 passed none e z = ap₂ answer_of (sym e) (sym z)

pub answers-12 : (passed none : Bool) → passed ≡ true → none ≡ true → code 12 ≡ answer_of passed none
answers-12 passed none e z = ap₂ answer_of (sym e) (sym z)

answers-17 : (passed none : Bool) → passed ≡ false → code 17 ≡ answer_of passed none
answers-17 passed none e = ap (λ (b : Bool). answer_of b none) (sym e)

-- what a call that is not refused hands back; what it answers is answers-0
pub gives-new : (passed none : Bool) {A : Type 0} (new old : A) → passed ≡ true → none ≡ false → new ≡ if_accepted (answer_of passed none) new old
gives-new passed none new old e z = sym (accepted-takes (answer_of passed none) new old (answers-0 passed none e z))

-- and with its answer what one that is refused hands back
module _ (passed none : Bool) {A : Type 0} (new old : A) where
  pub keeps-12 : passed ≡ true → none ≡ true → (code 12 ≡ answer_of passed none) × (old ≡ if_accepted (answer_of passed none) new old)
  keeps-12 e z = let is = answers-12 passed none e z in (is, sym (refused-keeps (answer_of passed none) new old NotFull is))

  pub keeps-17 : passed ≡ false → (code 17 ≡ answer_of passed none) × (old ≡ if_accepted (answer_of passed none) new old)
  keeps-17 e = let is = answers-17 passed none e in (is, sym (refused-keeps (answer_of passed none) new old BadWindow is))

-- and the other way
pub accepted-iff : (passed : Bool) → (accepted ≡ answer_of passed false) ↔ (passed ≡ true)
accepted-iff true = ((λ _. refl), (λ _. refl))
accepted-iff false = ((λ e. absurd (omega (arith, ap (λ (c : Code). c.number) e))), (λ e. absurd (true→T false e)))

pub refused-iff : (passed none : Bool) → (answer_of passed none ≡ code 17) ↔ (¬ (passed ≡ true))
refused-iff false none = ((λ _ e. true→T false e), (λ _. refl))
refused-iff true true = ((λ e. absurd (omega (arith, ap (λ (c : Code). c.number) e))), (λ f. absurd (f refl)))
refused-iff true false = ((λ e. absurd (omega (arith, ap (λ (c : Code). c.number) e))), (λ f. absurd (f refl)))

pub empty-iff : (passed none : Bool) → (answer_of passed none ≡ code 12) ↔ ((passed ≡ true) × (none ≡ true))
empty-iff true true = ((λ _. (refl, refl)), (λ _. refl))
empty-iff true false = ((λ e. absurd (omega (arith, ap (λ (c : Code). c.number) e))), (λ h. absurd (true→T false h.1)))
empty-iff false none = ((λ e. absurd (omega (arith, ap (λ (c : Code). c.number) e))), (λ h. absurd (true→T false h.0)))
