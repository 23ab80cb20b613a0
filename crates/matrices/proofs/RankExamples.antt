-- The rank of the rows (1 2) and (3 1), by computation: modulo 5 the second is 3 times the first, modulo 7 it is no multiple.
use mathlib.Core.Path.{◌≡◌, refl}
use mathlib.Core.List.{[], ◌∷◌}
use Rattle.lists.specs.Search.{any_to}
use Rattle.matrices.specs.Rank.{any_list, same_list, in_span, rank_over, rank_of}

-- modulo 5
pub rank-five : rank_of 5 2 ((1 ∷ 2 ∷ []) ∷ (3 ∷ 1 ∷ []) ∷ []) ≡ 1
unfolding any_to any_list same_list in_span rank_over
rank-five = refl

-- modulo 7
pub rank-seven : rank_of 7 2 ((1 ∷ 2 ∷ []) ∷ (3 ∷ 1 ∷ []) ∷ []) ≡ 2
unfolding any_to any_list same_list in_span rank_over
rank-seven = refl
