-- Lists of one length, one after the other: how long they are together, and where each of them stands.
use Prim.Native.Nat.{ℕ, zero, suc, ◌+◌, ◌*◌, ◌≤◌, ◌<◌}
use mathlib.Core.Path.{◌≡◌, refl, sym, ap, ap₂, ◌∙◌, subst}
use mathlib.Core.Logic.{⊎_elim}
use mathlib.Core.Bool.{Bool, true, false, cond}
use mathlib.Core.List.{List, [], ◌++◌}
use native.Mathlib.Nat.{zero-mul, one-mul, add-mul, mul-le-mul, not-suc-le-zero, eq-or-lt_of_le, le_of_suc-le-suc}
use native.Mathlib.Omega.{arith}
use lib.ListN.{length, take, drop, length-append, length-drop}
use lib.Seq.{take_all, take-append-le, drop-append-le, drop_at}
use Rattle.lists.specs.Lists.{join_to, picked}
use Rattle.lists.specs.Sums.{sum_to, how_many}

module _ (L : ℕ) (g : ℕ → List ℕ) (each : (i : ℕ) → length (g i) ≡ L) where
  pub length-join : (n : ℕ) → length (join_to n g) ≡ n * L
  unfolding join_to
  length-join zero = sym (zero-mul L)
  length-join (suc n) = length-append (join_to n g) (g n) ∙ omega (arith, length-join n, each n)

  pub join-part : (n i : ℕ) → i < n → take L (drop (i * L) (join_to n g)) ≡ g i
  unfolding join_to
  join-part zero i h = absurd (not-suc-le-zero h)
  join-part (suc n) i h =
      ⊎_elim
      (λ e. subst (λ (j : ℕ). take L (drop (j * L) (join_to n g ++ g n)) ≡ g j) (sym e)
      (ap (take L) (drop_at (join_to n g) (g n) (n * L) (length-join n)) ∙ take_all L (g n) (omega (arith, each n))))
      (λ l.
      let m : suc i * L ≤ n * L = mul-le-mul {n₁ = suc i} {m₁ = L} {n₂ = n} {m₂ = L} l (omega arith) in
      ap (take L) (drop-append-le (i * L) (join_to n g) (g n) (omega (arith, length-join n)))
      ∙ take-append-le L (drop (i * L) (join_to n g)) (g n) (omega (arith, length-join n, length-drop (i * L) (join_to n g)))
      ∙ join-part n i l)
      (eq-or-lt_of_le (le_of_suc-le-suc h))

pub join-cong : (n : ℕ) (f g : ℕ → List ℕ) → ((i : ℕ) → f i ≡ g i) → join_to n f ≡ join_to n g
unfolding join_to
join-cong zero f g e = refl
join-cong (suc n) f g e = ap₂ ◌++◌ (join-cong n f g e) (e n)

-- how long those are together that are picked
pub length-lists : {A : Type 0} (n c : ℕ) (b : ℕ → Bool) (f : ℕ → List A) → ((i : ℕ) → length (f i) ≡ c) → length (picked n b f) ≡ how_many n b * c
unfolding picked join_to how_many sum_to
length-lists zero c b f each = sym (zero-mul c)
length-lists (suc n) c b f each =
    length-append (picked n b f) (cond (b n) (f n) [])
    ∙ ap₂ ◌+◌ (length-lists n c b f each) (one (b n))
    ∙ sym (add-mul (how_many n b) (cond (b n) 1 0) c)
  where
    one : (t : Bool) → length (cond t (f n) []) ≡ cond t 1 0 * c
    one true = each n ∙ sym (one-mul c)
    one false = sym (zero-mul c)
