-- Relays under one lock: the statements of specs/JointRelays.
use Prim.Native.Nat.{ℕ}
use mathlib.Core.Path.{◌∙◌}
use mathlib.Core.List.{List}
use Rattle.secrecy.proofs.PairLeaks.{two-clusters-leak}
use Rattle.plans.specs.declared.Plan.{Plan}
use Rattle.std.specs.Prelude.{Some, None}
use Rattle.vetting.specs.Pools.{pool_of}
use Rattle.plans.proofs.PlanBounds.{bounds-known}
use Rattle.vetting.proofs.VetLaws.{passed}
use Rattle.vetting.proofs.ExactSecrecy.{checked}
use Rattle.vetting.proofs.Looking.{accepted-looked}
use Rattle.vetting.proofs.JointLaws.{joint-none, table-refuses, joint-iff, joint-named, joint-quiet}
use Rattle.vetting.proofs.JointTheorems.{wrong-pair, wrong-count, only-wrong-pair, refused-alone, accepted-fits, accepted-vet, accepted-count}
use Rattle.vetting.proofs.JointTheorems.{accepted-pair-quiet, accepted-pair-equal}
use Rattle.vetting.proofs.JointTheorems.{joint-last, joint-count, two-relays}
use Rattle.demands.specs.JointRelays.{WithoutPair, AcceptedAlone, WrongPair, RefusedAlone, JointHides, RefusedIffJointLeaks, NamesLeast}
use Rattle.demands.specs.JointRelays.{TableFirst, OnlyWrongPair, AcceptedIff, TwoRelaysSeeAll, TwoRelaysLeak}

module _ (P : Plan) (K : List ℕ) where
  pub without-pair : WithoutPair P K
  without-pair = joint-none P K

  pub accepted-alone : AcceptedAlone P K
  accepted-alone None e = let v = e ∙ (joint-none P K).0 in (v, (joint-none P K).1 ∙ accepted-looked P K v)
  accepted-alone (Some r) e = let v = accepted-vet P K r.first r.second e in (v, accepted-count P K r.first r.second e ∙ accepted-looked P K v)

  pub table-first : TableFirst P K
  table-first = table-refuses P K

  module _ (a b : ℕ) where
    pub wrong-pairs : WrongPair P K a b
    wrong-pairs e f = (wrong-pair P K a b e f, wrong-count P K a b e f)

    pub only-wrong-pairs : OnlyWrongPair P K a b
    only-wrong-pairs = only-wrong-pair P K a b

    pub accepted-iff : AcceptedIff P K a b
    accepted-iff = (
      (λ e.
          let v = accepted-vet P K a b e in
          let fit = accepted-fits P K a b e in (
            v,
            fit,
            (λ g f. accepted-pair-quiet P K a b e g f.users f.few),
          )),
      (λ k. joint-quiet P K a b k.0 k.1 (λ g users few. k.2 g (record { users = users; few = few }))),
    )

    pub refused-as-alone : RefusedAlone P K a b
    refused-as-alone = refused-alone P K a b

    pub joint-hides : JointHides P K a b
    joint-hides e g f = accepted-pair-equal P K a b e g f.users f.few

    pub refused-iff-joint-leaks : RefusedIffJointLeaks P K a b
    refused-iff-joint-leaks v fit =
        let w = joint-iff P K a b v fit in (
          (λ n. let k = w.0 n in (k.0, record { users = k.1; few = k.2 }, k.3)),
          (λ k. w.1 (k.0, k.1.users, k.1.few, k.2)),
        )

    pub names-least : NamesLeast P K a b
    names-least n =
        let (v, fit) = joint-last P K a b n in
        let w = joint-named P K a b v fit n in
        (v, fit, joint-count P K a b n, (w.0, w.1, record { users = w.2; few = w.3 }, w.4, λ h l f. w.5 h l f.few))

  pub two-relays-see-all : TwoRelaysSeeAll P K
  two-relays-see-all two others =
      let c = checked P K others in
      two-clusters-leak (pool_of P K) c.prime c.valid c.zero-sum two (bounds-known P (passed P K others).bounds).counts.some_size

  pub two-relays-leak : TwoRelaysLeak P K
  two-relays-leak = two-relays P K
