-- A whole day: the statements of specs/WholeDay.
use Prim.Native.Nat.{ℕ}
use mathlib.Core.Path.{refl}
use mathlib.Core.List.{List}
use Rattle.secrecy.specs.Model.{Pool}
use Rattle.plans.specs.declared.Plan.{Plan}
use Rattle.vetting.specs.Pools.{pool_of}
use Rattle.days.proofs.DayViews as DayViews
use Rattle.days.proofs.Days as Days
use Rattle.days.proofs.Fixed as Fixed
use Rattle.days.proofs.Stated as Stated
use Rattle.demands.specs.WholeDay.{EqualDays, SignedEqualDays, JointEqualDays, SignedJointEqualDays, OutlineFixed, SignedOutlineFixed}
use Rattle.demands.specs.WholeDay.{RelayIsCode, ServerIsCode, SumsAreSent, StatedViews, StatedJointViews, RunsAreLists}

module _ (P : Plan) (K : List ℕ) where
  pub equal-days : EqualDays P K
  equal-days = Days.equal-days P K

  pub signed-equal-days : SignedEqualDays P K
  signed-equal-days = Days.signed-equal-days P K

  pub joint-equal-days : JointEqualDays P K
  joint-equal-days a b e g f = Days.joint-equal-days P K a b e g f.users f.few

  pub signed-joint-equal-days : SignedJointEqualDays P K
  signed-joint-equal-days m cap a b e g f run lengths first second =
      Days.signed-joint-equal-days P K a b e g f.users f.few run lengths first second m cap

  pub outline-fixed : OutlineFixed P K
  outline-fixed pos g w run = Fixed.outline-fixed (pool_of P K) pos run w

  pub signed-outline-fixed : SignedOutlineFixed P K
  signed-outline-fixed pos g w run = Fixed.signed-outline-fixed P K pos run w

module _ (P : Pool) where
  pub relay-is-code : RelayIsCode P
  relay-is-code u R = ((λ events. (Fixed.relay-replies P u R events, Fixed.relay-state P u R events)), (λ number L. (refl, refl)))

  pub server-is-code : ServerIsCode P
  server-is-code R = (
    (λ frames. (Fixed.server-replies P R frames, Fixed.server-state P R frames)),
    (λ out. (refl, refl)),
    (λ number L. (refl, refl)),
  )

  pub sums-are-sent : SumsAreSent P
  sums-are-sent = DayViews.sum-sent-in P

  pub stated-views : StatedViews P
  stated-views = Stated.day-tested P

  pub stated-joint-views : StatedJointViews P
  stated-joint-views = Stated.joint-tested P

  pub runs-are-lists : RunsAreLists P
  runs-are-lists run = (Fixed.runs-joined P run, Fixed.runs-cut P run)
