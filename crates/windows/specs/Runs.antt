-- Runs of totals: signed numbers, oldest first.
use Rattle.std.specs.Prelude.{ℕ, ◌-◌, Bool, true, false, cond, ◌&&◌, List, [], ◌∷◌, eqb, ℤ, pos, negsuc, ◌+ℤ◌, length, drop}
use Rattle.std.specs.Int.Signed.{lt_z}

unfoldable pub sum_of : List ℤ → ℤ
sum_of [] = pos 0
sum_of (t ∷ run) = t +ℤ sum_of run

-- the larger of two
abbrev pub larger : ℤ → ℤ → ℤ
larger a b = cond (lt_z a b) b a

-- the largest of a and the totals of a run
unfoldable pub largest_from : ℤ → List ℤ → ℤ
largest_from a [] = a
largest_from a (t ∷ run) = largest_from (larger a t) run

-- the largest of a run; 0 of an empty one
abbrev pub largest_of : List ℤ → ℤ
largest_of [] = pos 0
largest_of (t ∷ run) = largest_from t run

-- the last n of a run, or all where there are fewer
abbrev pub last_of : ℕ → List ℤ → List ℤ
last_of n run = drop (length run - n) run

-- tests
abbrev pub same : ℤ → ℤ → Bool
same (pos a) (pos b) = eqb a b
same (pos a) (negsuc b) = false
same (negsuc a) (pos b) = false
same (negsuc a) (negsuc b) = eqb a b

unfoldable pub all_zero : List ℤ → Bool
all_zero [] = true
all_zero (t ∷ run) = same t (pos 0) && all_zero run
