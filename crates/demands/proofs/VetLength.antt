-- How long the vet is: the statements of specs/VetLength.
use Prim.Native.Nat.{ℕ}
use mathlib.Core.Path.{ap}
use mathlib.Core.List.{List}
use Rattle.refusals.specs.declared.Code.{Code}
use Rattle.plans.specs.declared.Plan.{Plan}
use Rattle.vetting.proofs.PairLists.{pairs-length}
use Rattle.vetting.proofs.ExactSecrecy.{refused-names-first}
use Rattle.vetting.proofs.Looking.{accepted-looked, leaking-checked, leaking-looked, others-looked}
use Rattle.demands.specs.VetLength.{FigureIsLength, AcceptedLooksAtAll, LeakingLooksToFirst, OthersLookAtNone}

pub figure-is-length : FigureIsLength
figure-is-length = pairs-length

module _ (P : Plan) (K : List ℕ) where
  pub accepted-looks-at-all : AcceptedLooksAtAll P K
  accepted-looks-at-all = accepted-looked P K

  pub leaking-looks-to-first : LeakingLooksToFirst P K
  leaking-looks-to-first p e =
      let others = leaking-checked P K (ap (λ (d : Code). d.number) e) in
      let f = (refused-names-first P K others p).0 e in
      (f, leaking-looked P K others p f)

  pub others-look-at-none : OthersLookAtNone P K
  others-look-at-none = others-looked P K
