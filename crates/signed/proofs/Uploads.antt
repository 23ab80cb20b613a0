-- What a user sends is document 000's upload (25), of symbols and of signed readings as they travel.
use Prim.Native.Nat.{ℕ, ◌+◌, ◌*◌, ◌%◌, ◌<◌}
use mathlib.Core.Path.{◌≡◌, sym, ap, ap₂, ◌∙◌}
use mathlib.Core.List.{List, map}
use lib.IntN.{ℤ}
use lib.ListN.{length, take, drop}
use Rattle.lists.specs.Lists.{at, tab}
use Rattle.lists.proofs.ListLaws.{at-tab, tab-cong}
use Rattle.residues.specs.Field.{sum_of}
use Rattle.residues.proofs.Congruence.{residue-mod}
use Rattle.secrecy.specs.Model.{Pool, users, reading, key, upload}
use Rattle.masking.specs.Blocks.{upload_of}
use Rattle.signed.specs.Numbers.{symbol_of}
use Rattle.signed.proofs.Totals.{own-readings}

module _ (P : Pool) (positive : 0 < P.q) (L : ℕ) where
  -- the upload of user i under its key
  pub uploads-are : (W N : List ℕ) (i : ℕ) → upload_of P.q L (tab L (reading L W i)) (tab L (key P N i)) ≡ tab L (upload P L W N i)
  unfolding upload
  uploads-are W N i =
      tab-cong L (λ p. sum_of P.q (at (tab L (reading L W i)) p) (at (tab L (key P N i)) p)) (λ p. (reading L W i p + key P N i p) % P.q)
      (λ p l.
      ap₂ (sum_of P.q) (at-tab L (reading L W i) p l) (at-tab L (key P N i) p l) ∙ residue-mod P.q (reading L W i p + key P N i p) positive)

  -- and of its signed readings
  pub signed-uploads-are : (R : List ℤ) (N : List ℕ) → length R ≡ users P * L → (i : ℕ) → i < users P
      → upload_of P.q L (map (symbol_of P.q) (take L (drop (i * L) R))) (tab L (key P N i)) ≡ tab L (upload P L (map (symbol_of P.q) R) N i)
  signed-uploads-are R N size i h =
      ap (λ (X : List ℕ). upload_of P.q L X (tab L (key P N i))) (sym (own-readings P 0 L R size i h)) ∙ uploads-are (map (symbol_of P.q) R) N i
