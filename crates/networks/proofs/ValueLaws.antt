-- What the decoder's loops keep.
use Prim.Native.Nat.{ℕ, suc, ◌+◌, ◌-◌, ◌*◌, ◌≤◌, ◌<◌}
use mathlib.Core.Path.{◌≡◌, refl, sym, ap, ap₂, ◌∙◌}
use mathlib.Core.Bool.{Bool, true, false, cond, not, ◌||◌}
use mathlib.Core.List.{List, ◌++◌}
use native.Mathlib.Nat.{mul-le-mul}
use native.Mathlib.Numerals.{add-one}
use native.Mathlib.Omega.{arith}
use lib.Dec.{ltb}
use lib.ListN.{length, take, drop, replicate, length-replicate}
use borrow.Author.Tests.{lt-ltb, le-ltb}
use Rattle.std.proofs.lemmas.List.{get_or-replicate}
use Rattle.lists.specs.Bits.{has_bit}
use Rattle.lists.specs.Lists.{zeros, tab}
use Rattle.lists.proofs.ListLaws.{length-zeros, el-zeros, tab-at, tab-append}
use Rattle.matrices.specs.Tables.{row_of, pivot_of, eliminated}
use Rattle.residues.specs.Primes.{all_below}
use Rattle.matrices.proofs.Sweeping.{below_one}
use Rattle.matrices.specs.Sweeps.{carried}
use Rattle.matrices.specs.Sweeps.{swept_table, swept_values}

-- ---- rows of a table

pub row_ends : (rows cols i n : ℕ) → i < rows → rows * cols ≤ n → i * cols + cols ≤ n
row_ends rows cols i n h b =
    let m : suc i * cols ≤ rows * cols = mul-le-mul {n₁ = suc i} {m₁ = cols} {n₂ = rows} {m₂ = cols} h (omega arith) in
    let e : suc i * cols ≡ i * cols + cols = omega arith in omega arith

-- a part of a table is a row of it
pub part-row : (cols i : ℕ) (T : List ℕ) → take (i * cols + cols - i * cols) (drop (i * cols) T) ≡ row_of cols T i
part-row cols i T = let e : i * cols + cols - i * cols ≡ cols = omega arith in ap (λ (n : ℕ). take n (drop (i * cols) T)) e

-- it is 0 or not
pub cleared-is : (cols : ℕ) (r : List ℕ) → length r ≡ cols → (b : Bool) → b ≡ all_below 1 r → not (ltb (pivot_of r) cols) ≡ b
cleared-is cols r e b h = ap (λ (n : ℕ). not (ltb (pivot_of r) n)) (sym e) ∙ sym (below_one r) ∙ sym h

-- ---- the sweep

module _ (q rows cols first reported : ℕ) (T : List ℕ) where
  abbrev after : ℕ → List ℕ
  after = swept_table q rows cols first (has_bit reported) T

  abbrev beside : List ℕ → ℕ → List ℕ
  beside = swept_values q rows cols first (has_bit reported) T

  -- one relay more, which has arrived or not
  table-next : (k : ℕ) (x : Bool) → has_bit reported k ≡ x → cond x (eliminated q rows cols (first + k) (after k)) (after k) ≡ after (k + 1)
  unfolding swept_table
  table-next k x e = ap (λ (x : Bool). cond x (eliminated q rows cols (first + k) (after k)) (after k)) (sym e) ∙ ap after (sym (add-one k))

  values-next : (vs : List ℕ) (k : ℕ) (x : Bool) → has_bit reported k ≡ x
      → cond x (carried q rows cols (first + k) (after k) (beside vs k)) (beside vs k) ≡ beside vs (k + 1)
  unfolding swept_values
  values-next vs k x e =
      ap (λ (x : Bool). cond x (carried q rows cols (first + k) (after k) (beside vs k)) (beside vs k)) (sym e) ∙ ap (beside vs) (sym (add-one k))

  -- what the loop over the relays keeps
  pub record Swept (vs us U ws xs : List ℕ) (k : ℕ) : Type 0 where
    pub table : U ≡ after k
    pub values : ws ≡ beside vs k
    pub units : xs ≡ beside us k

  pub swept-start : (vs us : List ℕ) → Swept vs us T vs us 0
  unfolding swept_table swept_values
  swept-start vs us = record { table = refl; values = refl; units = refl }

  module _ (vs us U ws xs U' ws' xs' : List ℕ) (k : ℕ) where
    pub swept-on : has_bit reported k ≡ true → U' ≡ eliminated q rows cols (first + k) U → ws' ≡ carried q rows cols (first + k) U ws
        → xs' ≡ carried q rows cols (first + k) U xs → Swept vs us U ws xs k → Swept vs us U' ws' xs' (k + 1)
    swept-on b e f g s =
        record {
          table = e ∙ ap (eliminated q rows cols (first + k)) s.table ∙ table-next k true b;
          values = f ∙ ap₂ (carried q rows cols (first + k)) s.table s.values ∙ values-next vs k true b;
          units = g ∙ ap₂ (carried q rows cols (first + k)) s.table s.units ∙ values-next us k true b;
        }

    pub swept-past : has_bit reported k ≡ false → U' ≡ U → ws' ≡ ws → xs' ≡ xs → Swept vs us U ws xs k → Swept vs us U' ws' xs' (k + 1)
    swept-past b e f g s =
        record {
          table = e ∙ s.table ∙ table-next k false b;
          values = f ∙ s.values ∙ values-next vs k false b;
          units = g ∙ s.units ∙ values-next us k false b;
        }

-- ---- the units that the sweep starts from

abbrev pub unit_at : ℕ → ℕ → ℕ
unit_at n r = cond (ltb r n) 1 0

pub unit-low : (n r : ℕ) → r < n → 1 ≡ unit_at n r
unit-low n r h = rw (lt-ltb r n h)

pub unit-high : (n r : ℕ) → n ≤ r → 0 ≡ unit_at n r
unit-high n r h = rw (le-ltb r n h)

pub units-all : (n l : ℕ) → n ≤ l → replicate n 1 ++ zeros (l - n) ≡ tab l (unit_at n)
units-all n l h =
    let e : n + (l - n) ≡ l = omega arith in
    ap₂ ◌++◌
    (sym (tab-at n (unit_at n) (replicate n 1) (length-replicate n 1) (λ k b. sym (unit-low n k b) ∙ sym (get_or-replicate n k 1 0 b))))
    (sym (tab-at (l - n) (λ k. unit_at n (n + k)) (zeros (l - n)) (length-zeros (l - n))
    (λ k b. sym (unit-high n (n + k) (omega arith)) ∙ sym (el-zeros (l - n) k))))
    ∙ sym (tab-append n (l - n) (unit_at n))
    ∙ ap (λ (k : ℕ). tab k (unit_at n)) e

-- ---- whether a sum that has come is a symbol

pub came-yes : (b c : Bool) → c ≡ true → (not b || c) ≡ true
came-yes true c e = e
came-yes false c e = refl

pub came-not : (b c : Bool) → b ≡ false → (not b || c) ≡ true
came-not b c e = rw e

pub came-no : (b c : Bool) → b ≡ true → c ≡ false → (not b || c) ≡ false
came-no b c e f = rw (e, f)
