-- Keys in the document's order: the statements of specs/KeyOrder.
use Prim.Native.Nat.{ℕ, ◌+◌, ◌*◌}
use mathlib.Core.Path.{refl, sym}
use mathlib.Core.List.{List}
use Rattle.residues.proofs.RunningSum.{kept-none, kept-added}
use Rattle.lists.specs.Lists.{at}
use Rattle.secrecy.specs.Model.{key}
use Rattle.plans.specs.declared.Plan.{Plan}
use Rattle.keys.specs.Keys.{keys_of}
use Rattle.keys.proofs.KeyLaws.{derived-key}
use Rattle.demands.specs.KeyOrder.{KeysAreSums, RefusalsAsBefore, KeysAsBefore, KeyAsBefore, SumGrows}

module _ (P : Plan) (K : List ℕ) (L : ℕ) (N out : List ℕ) where
  pub keys-are-sums : KeysAreSums P K L N out
  unfolding key
  keys-are-sums = derived-key P K L N out

  pub refusals-as-before : RefusalsAsBefore P K L N out
  refusals-as-before = refl

  pub keys-as-before : KeysAsBefore P K L N out
  unfolding keys_of
  keys-as-before = refl

pub key-as-before : KeyAsBefore
unfolding key
key-as-before P N i p = refl

pub sum-grows : SumGrows
sum-grows P N i p = (sym (kept-none P.q products), λ k. sym (kept-added P.q products k))
  where
    products : ℕ → ℕ
    products k = at P.table (i * P.rate + k) * at N (p * P.rate + k)
