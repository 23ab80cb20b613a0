-- Laws of the key stream.
use Prim.Native.Nat.{ℕ, ◌+◌, ◌-◌, ◌≤◌, ◌<◌}
use mathlib.Core.Path.{◌≡◌, sym, ap, ◌∙◌}
use mathlib.Core.Bool.{Bool, true, false, cond}
use mathlib.Core.List.{List, [], ◌∷◌, ◌++◌}
use native.Mathlib.Omega.{arith}
use lib.ListN.{length, take, drop, length-drop}
use lib.Seq.{take-add, drop-drop, length-take-le}
use lib.Dec.{T, ltb, eqb, eqb→eq}
use borrow.Author.Tests.{lt-ltb, ltb-false, not-false}
use Rattle.refusals.specs.Codes.{accepted}
use Rattle.refusals.proofs.CodeLaws.{none-holds}
use Rattle.refusals.proofs.Orders.{number-accepts}
use Rattle.lists.proofs.Searches.{T→true, true→T}
use Rattle.lists.specs.Lists.{at, tab}
use Rattle.lists.proofs.ListLaws.{at-tab, length-tab, tab-cong, tab-append}
use Rattle.lists.proofs.Fronts.{part_at}
use Rattle.plans.specs.Plans.{length_fits}
use Rattle.plans.proofs.PlanBounds.{length-known}
use Rattle.streams.specs.Streams.{draw_checks, draw_code, drawn, position_after_all, symbols_drawn, places_drawn}

-- ---- the checks

-- a position past the end leaves no symbols, and a draw asks for at least one
pub past_the_end : (stream : List ℕ) (position L : ℕ) → length_fits L ≡ true → length stream < position → ltb (length stream - position) L ≡ true
past_the_end stream position L e h = lt-ltb (length stream - position) L (omega (arith, (length-known L e).0))

-- what holds where they accept
pub record Drawable (stream : List ℕ) (position L : ℕ) (out : List ℕ) : Type 0 where
  pub some : 1 ≤ L
  pub room : length out ≡ L
  pub enough : position + L ≤ length stream

pub drawable : (stream : List ℕ) (position L : ℕ) (out : List ℕ) → accepted ≡ draw_code stream position L out → Drawable stream position L out
drawable stream position L out e =
    let w = none-holds (draw_checks stream position L out) tt e in
    let some : 1 ≤ L = (length-known L (not-false (length_fits L) w.0)).0 in
    let left : L ≤ length stream - position = ltb-false (length stream - position) L w.1.1.0 in
    record {
      some = some;
      room = eqb→eq (length out) L (true→T (eqb (length out) L) (not-false (eqb (length out) L) w.1.0));
      enough = omega arith;
    }

-- ---- runs of draws

module _ (stream : List ℕ) where
  -- is this draw accepted?
  abbrev takes : ℕ → ℕ × List ℕ → Bool
  takes position draw = eqb (draw_code stream position draw.0 draw.1).number 0

  -- a position is never moved back
  pub draws-forward : (position : ℕ) (draws : List (ℕ × List ℕ)) → position ≤ position_after_all stream position draws
  draws-forward position [] = omega arith
  draws-forward position (draw ∷ draws) = go (takes position draw) (λ p. draws-forward p draws)
    where
      go : (b : Bool) → ((p : ℕ) → p ≤ position_after_all stream p draws) → position ≤ position_after_all stream (cond b (position + draw.0) position) draws
      go true later = omega (arith, later (position + draw.0))
      go false later = later position

  -- a run draws no more symbols than there are after its position, wherever that is
  draws-few : (position : ℕ) (draws : List (ℕ × List ℕ)) → position_after_all stream position draws - position ≤ length stream - position
  draws-few position [] = omega arith
  draws-few position (draw ∷ draws) =
      go (takes position draw)
      (λ t. (drawable stream position draw.0 draw.1 (number-accepts (draw_checks stream position draw.0 draw.1) tt (T→true _ t))).enough)
      (λ p. draws-few p draws)
    where
      go : (b : Bool) → (T b → position + draw.0 ≤ length stream) → ((p : ℕ) → position_after_all stream p draws - p ≤ length stream - p)
          → position_after_all stream (cond b (position + draw.0) position) draws - position ≤ length stream - position
      go true fits later = omega (arith, fits tt, later (position + draw.0), draws-forward (position + draw.0) draws)
      go false fits later = later position

  -- so that a position is not moved past the stream's end
  pub draws-within : (position : ℕ) (draws : List (ℕ × List ℕ)) → position ≤ length stream → position_after_all stream position draws ≤ length stream
  draws-within position draws h = omega (arith, draws-few position draws, draws-forward position draws)

  -- a run draws the symbols from the first position to the last, in order
  pub draws-give : (position : ℕ) (draws : List (ℕ × List ℕ)) → symbols_drawn stream position draws ≡ drawn stream position
      (position_after_all stream position draws - position)
  draws-give position [] = ap (drawn stream position) {x = 0} {y = position - position} (omega arith)
  draws-give position (draw ∷ draws) = go (takes position draw) (λ p. draws-give p draws)
    where
      go : (b : Bool) → ((p : ℕ) → symbols_drawn stream p draws ≡ drawn stream p (position_after_all stream p draws - p))
          → cond b (drawn stream position draw.0) [] ++ symbols_drawn stream (cond b (position + draw.0) position) draws
          ≡ drawn stream position (position_after_all stream (cond b (position + draw.0) position) draws - position)
      go true later =
          let n : ℕ = draw.0 in
          let end : ℕ = position_after_all stream (position + n) draws in
          let all : n + (end - (position + n)) ≡ end - position = omega (arith, draws-forward (position + n) draws) in
          ap (λ (l : List ℕ). drawn stream position n ++ l) (later (position + n) ∙ ap (take (end - (position + n))) (sym (drop-drop n position stream)))
          ∙ sym (take-add n (end - (position + n)) (drop position stream))
          ∙ ap (drawn stream position) all
      go false later = later position

  -- their places follow each other: each accepted draw begins where the one before it ended
  pub draws-consecutive : (position : ℕ) (draws : List (ℕ × List ℕ)) → places_drawn stream position draws ≡ tab
      (position_after_all stream position draws - position) (λ k. position + k)
  unfolding tab
  draws-consecutive position [] = ap (λ (n : ℕ). tab n (λ k. position + k)) {x = 0} {y = position - position} (omega arith)
  draws-consecutive position (draw ∷ draws) = go (takes position draw) (λ p. draws-consecutive p draws)
    where
      go : (b : Bool) → ((p : ℕ) → places_drawn stream p draws ≡ tab (position_after_all stream p draws - p) (λ k. p + k))
          → cond b (tab draw.0 (λ k. position + k)) [] ++ places_drawn stream (cond b (position + draw.0) position) draws
          ≡ tab (position_after_all stream (cond b (position + draw.0) position) draws - position) (λ k. position + k)
      go true later =
          let n : ℕ = draw.0 in
          let end : ℕ = position_after_all stream (position + n) draws in
          let rest : ℕ = end - (position + n) in
          let all : n + rest ≡ end - position = omega (arith, draws-forward (position + n) draws) in
          ap (λ (l : List ℕ). tab n (λ k. position + k) ++ l)
          (later (position + n) ∙ tab-cong rest (λ k. position + n + k) (λ k. position + (n + k)) (λ k _. omega arith))
          ∙ sym (tab-append n rest (λ k. position + k))
          ∙ ap (λ (m : ℕ). tab m (λ k. position + k)) all
      go false later = later position

  module _ (position : ℕ) (draws : List (ℕ × List ℕ)) where
    abbrev count : ℕ
    count = position_after_all stream position draws - position

    abbrev places : List ℕ
    places = places_drawn stream position draws

    place : (k : ℕ) → k < length places → (k < count) × (at places k ≡ position + k)
    place k h =
        let l : k < count = omega (arith, ap length (draws-consecutive position draws), length-tab count (λ k. position + k)) in
        (l, ap (λ (p : List ℕ). at p k) (draws-consecutive position draws) ∙ at-tab count (λ k. position + k) k l)

    -- there are as many places as symbols
    pub draws-counted : length (symbols_drawn stream position draws) ≡ length places
    draws-counted =
        ap length (draws-give position draws)
        ∙ length-take-le count (drop position stream) (omega (arith, length-drop position stream, draws-few position draws))
        ∙ sym (ap length (draws-consecutive position draws) ∙ length-tab count (λ k. position + k))

    -- each symbol drawn is the stream's at its place
    pub draws-placed : (k : ℕ) → k < length places → at (symbols_drawn stream position draws) k ≡ at stream (at places k)
    draws-placed k h =
        let (l, e) = place k h in
        ap (λ (s : List ℕ). at s k) (draws-give position draws) ∙ part_at count position stream k l ∙ ap (at stream) (sym e)

    -- no symbol is drawn twice: two that are drawn stood in different places
    pub draws-disjoint : (i j : ℕ) → i < length places → j < length places → at places i ≡ at places j → i ≡ j
    draws-disjoint i j h l e = omega (arith, (place i h).1, (place j l).1, e)
