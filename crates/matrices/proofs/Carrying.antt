-- What the loop keeps that carries values, and when nothing is carried.
use Prim.Native.Nat.{ℕ, ◌+◌, ◌≤◌, ◌<◌}
use mathlib.Core.Path.{◌≡◌, refl, sym, ap, ◌∙◌, subst}
use mathlib.Core.Bool.{Bool, true, false, cond, ◌&&◌}
use mathlib.Core.List.{List}
use native.Mathlib.Omega.{arith}
use lib.Dec.{eqb}
use lib.ListN.{length, set}
use lib.Seq.{get_or-set_other, set-get_or}
use Rattle.lists.specs.Lists.{at}
use Rattle.lists.proofs.Filling.{Filling, filling-none, filling-next}
use Rattle.matrices.specs.Tables.{row_of, pivot_of, has_pivot}
use Rattle.matrices.specs.Sweeps.{carried_by, carried}

-- values that are changed one by one: the front is done, the rest is as it was
pub record Carrying (f : ℕ → ℕ) (v₀ v : List ℕ) (k : ℕ) : Type 0 where
  pub front : Filling f v₀ v k
  pub rest : (j : ℕ) → k ≤ j → at v j ≡ at v₀ j

pub carrying-none : (f : ℕ → ℕ) (v : List ℕ) → Carrying f v v 0
carrying-none f v = record { front = filling-none f v 0 refl; rest = λ j l. refl }

pub carrying-next : (f : ℕ → ℕ) (v₀ v : List ℕ) (k x : ℕ) → Carrying f v₀ v k → k < length v → x ≡ f k → Carrying f v₀ (set v k x) (k + 1)
carrying-next f v₀ v k x c h e =
    record {
      front = filling-next f v₀ v k x c.front h e;
      rest = λ j l. get_or-set_other v k j x 0 (omega arith) ∙ c.rest j (omega arith);
    }

-- a value that is left alone
pub carrying-past : (f : ℕ → ℕ) (v₀ v : List ℕ) (k : ℕ) → Carrying f v₀ v k → k < length v → at v₀ k ≡ f k → Carrying f v₀ v (k + 1)
carrying-past f v₀ v k c h e =
    subst (λ (w : List ℕ). Carrying f v₀ w (k + 1)) (set-get_or v k 0) (carrying-next f v₀ v k (at v k) c h (c.rest k (omega arith) ∙ e))

module _ (q rows cols i : ℕ) (T vs : List ℕ) where
  -- a row that is 0, or a table of another shape
  pub not_carried : has_pivot rows cols i T ≡ false → vs ≡ carried q rows cols i T vs
  unfolding carried
  not_carried e = rw e

  -- values that are not as many as the rows
  pub not-as-many : eqb (length vs) rows ≡ false → vs ≡ carried q rows cols i T vs
  unfolding carried
  not-as-many e =
      sym (ap (λ (b : Bool). cond b (carried_by q cols i (pivot_of (row_of cols T i)) T vs) vs)
      (and-false (has_pivot rows cols i T) (eqb (length vs) rows) e))
    where
      and-false : (a b : Bool) → b ≡ false → (a && b) ≡ false
      and-false true b e = e
      and-false false b e = refl

  pub is_carried : has_pivot rows cols i T ≡ true → eqb (length vs) rows ≡ true → (p : ℕ) → p ≡ pivot_of (row_of cols T i)
      → carried_by q cols i p T vs ≡ carried q rows cols i T vs
  unfolding carried
  is_carried e f p g = ap (λ (x : ℕ). carried_by q cols i x T vs) g ∙ rw (e, f)
