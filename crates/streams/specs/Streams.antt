-- The key stream (document 01: key tape): a lent run of symbols with a position. "A draw: 9, 4, 13."
use Rattle.std.specs.Prelude.{ℕ, ◌+◌, ◌-◌, Bool, not, List, [], ◌∷◌, ◌++◌, ltb, eqb, length, take, drop}
use Rattle.refusals.specs.declared.Code.{Code}
use Rattle.refusals.specs.Codes.{code, first_of, if_accepted}
use Rattle.lists.specs.Lists.{tab}
use Rattle.plans.specs.Plans.{length_fits}

-- a lent buffer of exactly L symbols; L symbols after the position
abbrev pub draw_checks : List ℕ → ℕ → ℕ → List ℕ → List (Bool × Code)
draw_checks stream position L out =
    (not (length_fits L), code 9)
    ∷ (not (eqb (length out) L), code 4)
    ∷ (ltb (length stream - position) L, code 13)
    ∷ []

abbrev pub draw_code : List ℕ → ℕ → ℕ → List ℕ → Code
draw_code stream position L out = first_of (draw_checks stream position L out)

-- the L symbols from the position on
abbrev pub drawn : List ℕ → ℕ → ℕ → List ℕ
drawn stream position L = take L (drop position stream)

-- the position and the buffer after the draw
abbrev pub position_after : List ℕ → ℕ → ℕ → List ℕ → ℕ
position_after stream position L out = if_accepted (draw_code stream position L out) (position + L) position

abbrev pub buffer_after : List ℕ → ℕ → ℕ → List ℕ → List ℕ
buffer_after stream position L out = if_accepted (draw_code stream position L out) (drawn stream position L) out

-- ---- a run of draws, each with its length and its buffer: every draw goes on from the position that the one before it left

-- the position after them
abbrev pub position_after_all : List ℕ → ℕ → List (ℕ × List ℕ) → ℕ
position_after_all stream position [] = position
position_after_all stream position (draw ∷ draws) =
    position_after_all stream (position_after stream position draw.0 draw.1) draws

-- the symbols drawn, one draw after the other
abbrev pub symbols_drawn : List ℕ → ℕ → List (ℕ × List ℕ) → List ℕ
symbols_drawn stream position [] = []
symbols_drawn stream position (draw ∷ draws) =
    if_accepted (draw_code stream position draw.0 draw.1) (drawn stream position draw.0) []
    ++ symbols_drawn stream (position_after stream position draw.0 draw.1) draws

-- where each of them stood on the stream
abbrev pub places_drawn : List ℕ → ℕ → List (ℕ × List ℕ) → List ℕ
places_drawn stream position [] = []
places_drawn stream position (draw ∷ draws) =
    if_accepted (draw_code stream position draw.0 draw.1) (tab draw.0 (λ k. position + k)) []
    ++ places_drawn stream (position_after stream position draw.0 draw.1) draws
