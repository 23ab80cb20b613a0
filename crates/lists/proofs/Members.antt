-- What holds of each member of a list.
use Prim.Native.Nat.{ℕ, zero, suc, ◌<◌}
use mathlib.Core.List.{List, [], ◌∷◌, ◌++◌}
use native.Mathlib.Nat.{le_of_suc-le-suc, not-suc-le-zero}
use lib.ListN.{length, get_or}
use Rattle.lists.specs.Lists.{All}

module _ {A : Type 0} (P : A → Type 0) where
  -- each member of two lists is a member of one after the other
  pub all_append : (a b : List A) → All P a → All P b → All P (a ++ b)
  all_append [] b h k = k
  all_append (x ∷ a) b h k = (h.0, all_append a b h.1 k)

  -- one member more at the end
  pub all_snoc : (a : List A) (x : A) → All P a → P x → All P (a ++ (x ∷ []))
  all_snoc a x h p = all_append a (x ∷ []) h (p, tt)

  -- each member of the first list
  pub all_left : (a b : List A) → All P (a ++ b) → All P a
  all_left [] b h = tt
  all_left (x ∷ a) b h = (h.0, all_left a b h.1)

  -- each member of the second list
  pub all_right : (a b : List A) → All P (a ++ b) → All P b
  all_right [] b h = h
  all_right (x ∷ a) b h = all_right a b h.1

  -- what every element has, each member has
  pub all_made : (l : List A) → ((x : A) → P x) → All P l
  all_made [] f = tt
  all_made (x ∷ l) f = (f x, all_made l f)

  -- the member at index i
  pub all-at : (l : List A) → All P l → (i : ℕ) → i < length l → (d : A) → P (get_or l i d)
  all-at [] h i k d = absurd (not-suc-le-zero k)
  all-at (x ∷ l) h zero k d = h.0
  all-at (x ∷ l) h (suc i) k d = all-at l h.1 i (le_of_suc-le-suc k) d

-- from one property of each member to another
pub all_map : {A : Type 0} (P Q : A → Type 0) → ((x : A) → P x → Q x) → (l : List A) → All P l → All Q l
all_map P Q f [] h = tt
all_map P Q f (x ∷ l) h = (f x h.0, all_map P Q f l h.1)

-- from two properties of each member to a third
pub all_both : {A : Type 0} (P Q R : A → Type 0) → ((x : A) → P x → Q x → R x) → (l : List A) → All P l → All Q l → All R l
all_both P Q R f [] h k = tt
all_both P Q R f (x ∷ l) h k = (f x h.0 k.0, all_both P Q R f l h.1 k.1)
