-- One step of each loop of the maker.
use Rattle.std.proofs.Common.{◌≡◌, ℕ, ◌+◌, ◌-◌, ◌*◌, ◌/◌, ◌%◌, ◌<◌, ◌≤◌, cond, eqb, List, ◌++◌, length, take, drop, sym, ap, ◌∙◌, ap₂, arith, length-append, length-take-le, get_or-take, take_at, get_or-append-add}
use lib.Arith.{digits_lt, digits_div, digits_mod}
use lib.ListN.{get_or-append}
use Rattle.residues.specs.Field.{power_of, opposite_of}
use Rattle.lists.specs.Lists.{at, tab}
use Rattle.lists.specs.Sums.{sum_to}
use Rattle.lists.proofs.Sums.{sum-cong}
use Rattle.lists.proofs.ListLaws.{at-tab, length-tab, tab-cong}
use Rattle.keys.specs.Maker.{entry, last_entry}
use Rattle.lists.proofs.Fronts.{Front, length_part}
use Rattle.keys.proofs.MakerLaws.{tab-part, entry-power, cell, made-split}

-- ---- a row of powers

module _ (q γ rows cols : ℕ) where
  -- the table of all rows but the last
  abbrev pub power_rows : List ℕ
  power_rows = tab (rows * cols) (λ x. entry q γ (x / cols) (x % cols))

  -- the powers of row i's symbol x are the part that is lent for it, w symbols of T
  pub powers-part : (T : List ℕ) (i w x : ℕ) → w ≡ cols → 2 ≤ q → i < rows → i * cols + cols ≤ length T → i * cols + cols ≤ rows * cols → x ≡ cond (eqb i 0) 0
      (power_of q γ i)
      → tab (length (take w (drop (i * cols) T))) (power_of q x) ≡ take w (drop (i * cols) power_rows)
  powers-part T i w x ew two h fits inside ex =
      ap₂ (λ (m z : ℕ). tab m (power_of q z)) (length_part w (i * cols) T (omega arith)) ex
      ∙ tab-cong w (power_of q (cond (eqb i 0) 0 (power_of q γ i))) (λ k. entry q γ ((i * cols + k) / cols) ((i * cols + k) % cols))
      (λ k l. entry-power q γ i k two ∙ sym (ap₂ (entry q γ) (digits_div i (omega arith)) (digits_mod i (omega arith))))
      ∙ tab-part (rows * cols) (λ x. entry q γ (x / cols) (x % cols)) (i * cols) w (omega arith)

-- ---- the last row, from the rows of T₀ before it

module _ (q rows cols : ℕ) (T₀ : List ℕ) where
  abbrev pub minus_sum : ℕ → ℕ
  minus_sum k = opposite_of q (sum_to rows (λ i. at T₀ (i * cols + k)) % q)

  abbrev pub with_last : List ℕ
  with_last = take (rows * cols) T₀ ++ tab cols minus_sum

  module _ (size : length T₀ ≡ (rows + 1) * cols) where
    others : length (take (rows * cols) T₀) ≡ rows * cols
    others = length-take-le (rows * cols) T₀ (omega arith)

    pub last-start : Front T₀ with_last T₀ (rows * cols + 0)
    last-start =
        record {
          within = omega arith;
          whole = omega arith;
          meant = length-append (take (rows * cols) T₀) (tab cols minus_sum) ∙ omega (arith, others, length-tab cols minus_sum);
          same =
              ap (λ (n : ℕ). take n T₀) {x = rows * cols + 0} {y = rows * cols} (omega arith)
              ∙ sym (take_at (take (rows * cols) T₀) (tab cols minus_sum) (rows * cols) others)
              ∙ ap (λ (n : ℕ). take n with_last) {x = rows * cols} {y = rows * cols + 0} (omega arith);
        }

    pub last-at : (k : ℕ) → k < cols → at with_last (rows * cols + k) ≡ minus_sum k
    last-at k h =
        ap (λ (n : ℕ). at with_last (n + k)) (sym others)
        ∙ get_or-append-add (take (rows * cols) T₀) (tab cols minus_sum) k 0
        ∙ at-tab cols minus_sum k h

    -- while the last row is written, the columns above it stay
    pub column-stays : (T : List ℕ) (n k : ℕ) → Front T₀ with_last T (rows * cols + n) → k < cols → sum_to rows (λ i. at T (i * cols + k)) ≡ sum_to rows
        (λ i. at T₀ (i * cols + k))
    column-stays T n k f h =
        sum-cong rows (λ i. at T (i * cols + k)) (λ i. at T₀ (i * cols + k))
        (λ i l.
        let x : i * cols + k < rows * cols = digits_lt l h in
        sym (get_or-take (rows * cols + n) T (i * cols + k) 0 (omega arith))
        ∙ ap (λ (y : List ℕ). at y (i * cols + k)) f.same
        ∙ get_or-take (rows * cols + n) with_last (i * cols + k) 0 (omega arith)
        ∙ get_or-append (take (rows * cols) T₀) (tab cols minus_sum) 0 (i * cols + k) (omega (arith, others))
        ∙ get_or-take (rows * cols) T₀ (i * cols + k) 0 x)

-- below the rows of powers it makes the whole table
module _ (q γ n R : ℕ) (y Z : List ℕ) (some : 1 ≤ n) (wide : 1 ≤ R) (e : y ≡ power_rows q γ (n - 1) R) where
  pub powers-size : length y ≡ (n - 1) * R
  powers-size = ap length e ∙ length-tab ((n - 1) * R) (λ x. entry q γ (x / R) (x % R))

  entry_at : (i k : ℕ) → i < n - 1 → k < R → at (y ++ Z) (i * R + k) ≡ entry q γ i k
  entry_at i k h l =
      let x : i * R + k < (n - 1) * R = digits_lt h l in
      get_or-append y Z 0 (i * R + k) (omega (arith, powers-size))
      ∙ ap (λ (t : List ℕ). at t (i * R + k)) e
      ∙ at-tab ((n - 1) * R) (λ x. entry q γ (x / R) (x % R)) (i * R + k) x
      ∙ ap₂ (entry q γ) (digits_div i l) (digits_mod i l)

  pub last-makes : with_last q (n - 1) R (y ++ Z) ≡ tab (n * R) (cell q γ n R)
  unfolding last_entry
  last-makes =
      ap₂ ◌++◌ (take_at y Z ((n - 1) * R) powers-size ∙ e)
      (tab-cong R (minus_sum q (n - 1) R (y ++ Z)) (last_entry q γ n)
      (λ k l. ap (λ (t : ℕ). opposite_of q (t % q)) (sum-cong (n - 1) (λ i. at (y ++ Z) (i * R + k)) (λ i. entry q γ i k) (λ i h. entry_at i k h l))))
      ∙ made-split q γ n R some wide
