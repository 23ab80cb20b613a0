-- A list that is filled from the front with f 0, f 1, f 2, ..: what every loop that writes such a list keeps.
use Prim.Native.Nat.{ℕ, ◌+◌, ◌-◌, ◌≤◌, ◌<◌}
use mathlib.Core.Path.{◌≡◌, sym, ◌∙◌}
use mathlib.Core.List.{List}
use native.Mathlib.Omega.{arith}
use lib.ListN.{length, set, length-set}
use Rattle.lists.proofs.Fronts.{Front, front-none, front-step, front-whole}
use Rattle.lists.specs.Lists.{tab}
use Rattle.lists.proofs.ListLaws.{get-tab, length-tab}

module _ {A : Type 0} where
  -- T, which was T₀, begins with f 0, .., f (k - 1)
  abbrev pub Filling : (ℕ → A) → List A → List A → ℕ → Type 0
  Filling f T₀ T k = Front T₀ (tab (length T₀) f) T k

  pub filling-none : (f : ℕ → A) (T : List A) (k : ℕ) → k ≡ 0 → Filling f T T k
  filling-none f T k z = front-none T (tab (length T) f) k z (length-tab (length T) f)

  -- what is left to fill grows less
  pub filling-less : (T : List A) (k : ℕ) (v : A) → k < length T → length (set T k v) - (k + 1) < length T - k
  filling-less T k v h = omega (arith, length-set T k v)

  module _ (f : ℕ → A) (T₀ T : List A) (k : ℕ) where
    -- one entry more
    pub filling-next : (v : A) → Filling f T₀ T k → k < length T → v ≡ f k → Filling f T₀ (set T k v) (k + 1)
    filling-next v s h e = front-step T₀ (tab (length T₀) f) T k v v s h (e ∙ sym (get-tab (length T₀) f v k (omega (arith, s.whole))))

    pub filling-whole : Filling f T₀ T k → length T ≤ k → T ≡ tab (length T₀) f
    filling-whole s h = front-whole T₀ (tab (length T₀) f) T k s h
