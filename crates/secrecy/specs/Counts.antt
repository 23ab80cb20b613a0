-- Counts of lists of symbols.
use Rattle.std.specs.Prelude.{ℕ, zero, suc, Bool, cond, List, [], ◌∷◌}
use Rattle.lists.specs.Sums.{sum_to}

-- how many lists of n symbols below q have the property
unfoldable pub count : ℕ → ℕ → (List ℕ → Bool) → ℕ
unfolding sum_to
count q zero p = cond (p []) 1 0
count q (suc n) p = sum_to q (λ x. count q n (λ l. p (x ∷ l)))
