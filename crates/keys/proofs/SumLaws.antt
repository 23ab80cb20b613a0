-- The sums of a user's row in every position, product by product over all positions at once.
use Rattle.std.proofs.Common.{◌≡◌, ℕ, zero, suc, ◌∷◌, refl, ◌+◌, ◌*◌, ◌%◌, ◌<◌, List, take, drop, ap, ◌∙◌, ap₂, mod-lt, arith}
use lib.ListN.{replicate}
use Rattle.lists.specs.Lists.{at, tab}
use Rattle.lists.specs.Sums.{sum_to}
use Rattle.lists.proofs.ListLaws.{at-tab, tab-cong}
use Rattle.lists.proofs.Fronts.{part_at}
use Rattle.residues.proofs.RunningSum.{kept-none, kept-added}
use Rattle.secrecy.specs.Model.{sum_so_far}

-- after k products, of a source key that is turned, L positions
abbrev pub sums : (q : ℕ) (row turned : List ℕ) (L k : ℕ) → List ℕ
sums q row turned L k = tab L (λ p. sum_so_far q (at row) (λ j. at turned (j * L + p)) k)

zeros : (L : ℕ) → replicate {A = ℕ} L 0 ≡ tab L (λ _. 0)
unfolding tab
zeros zero = refl
zeros (suc n) = ap (λ (l : List ℕ). 0 ∷ l) (zeros n)

module _ (q : ℕ) (row turned : List ℕ) (L : ℕ) where
  pub sums_none : replicate {A = ℕ} L 0 ≡ sums q row turned L 0
  sums_none = zeros L ∙ tab-cong L _ _ (λ p _. kept-none q (λ j. at row j * at turned (j * L + p)))

  module _ (keys : List ℕ) (k : ℕ) (e : keys ≡ sums q row turned L k) where
    held : (p : ℕ) → p < L → at keys p ≡ sum_to k (λ j. at row j * at turned (j * L + p)) % q
    held p h = ap (λ (l : List ℕ). at l p) e ∙ at-tab L _ p h

    pub sums-below : 0 < q → (p : ℕ) → p < L → at keys p < q
    sums-below some p h = omega (arith, held p h, mod-lt (sum_to k (λ j. at row j * at turned (j * L + p))) some)

    -- with the products of v symbols from where column k begins
    pub sums_next : (v : ℕ) → v ≡ L → tab L (λ p. (at keys p + at row k * at (take v (drop (k * L) turned)) p) % q) ≡ sums q row turned L (k + 1)
    sums_next v ev =
        tab-cong L _ _
        (λ p h.
        ap₂ (λ (x y : ℕ). (x + at row k * y) % q) (held p h) (part_at v (k * L) turned p (omega arith))
        ∙ kept-added q (λ j. at row j * at turned (j * L + p)) k)
