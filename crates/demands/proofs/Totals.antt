-- Demand 2, from readings to the total: uploads under one source key are added up by the relays, their sums by the server, and where the key table's
-- columns sum to zero the keys cancel. Frames may come in any order, repeated, early, late, bad or forged: only of those that were counted is asked that they
-- carry what was sent.
use Prim.Native.Nat.{ℕ, suc, ◌+◌, ◌-◌, ◌*◌, ◌%◌, ◌<◌}
use mathlib.Core.Path.{◌≡◌, sym, ap, ap₂, ◌∙◌, subst}
use mathlib.Core.Bool.{Bool, true, ◌&&◌}
use mathlib.Core.List.{List}
use native.Mathlib.Omega.{arith}
use lib.ListN.{take}
use borrow.Author.Tests.{le-leb}
use Rattle.residues.proofs.Congruence.{Cong, to-mod, of_eq, of-rem, c-refl, c-trans, c-add}
use Rattle.lists.specs.Lists.{at}
use Rattle.matrices.proofs.Notions.{dot_n}
use Rattle.lists.specs.Sums.{sum_to}
use Rattle.secrecy.specs.Model.{Pool, users, reading, key, upload, relay_sum, total, ZeroSum}
use Rattle.lists.proofs.Sums.{sum-cong, sum-add, sum-grid}
use Rattle.residues.proofs.CongruentSums.{sum-c}
use Rattle.lists.proofs.ListLaws.{at-tab, tab-cong}
use Rattle.secrecy.proofs.Forms.{source_at}
use Rattle.secrecy.proofs.RankCondition.{row}
use Rattle.secrecy.proofs.PoolForms.{dot-key}
use Rattle.secrecy.proofs.Clusters.{rows_none}
use Rattle.plans.specs.declared.Plan.{Plan}
use Rattle.vetting.specs.Pools.{pool_of}
use Rattle.rounds.specs.declared.RelayRound.{RelayRound}
use Rattle.rounds.specs.Ledger.{frames_of, Heard}
use Rattle.rounds.specs.Rounds.{one_of}
use Rattle.rounds.specs.Relays.{Event, relay_run, log_of}
use Rattle.rounds.proofs.RelaySums.{relay-heard, relay-heard-given}
use Rattle.rounds.proofs.RoundLaws.{full-given}
use Rattle.demands.specs.Demands.{sent, opens, relay_opening, relayed, Reached, RelaySumsAre, TotalIs, TotalIsSum}

module _ (P : Pool) (L : ℕ) (W N : List ℕ) where
  -- ---- the equations

  -- the keys of a position sum to 0
  pub keys-cancel : ZeroSum P → (p : ℕ) → Cong P.q (sum_to (users P) (λ i. key P N i p)) 0
  keys-cancel zs p =
      c-trans
      (sum-c (users P) (λ i. key P N i p) (λ i. dot_n (row P i) (source_at P.rate N p))
      (λ i l. c-trans (of_eq (sym (dot-key P N i p))) (of-rem P.q (dot_n (row P i) (source_at P.rate N p)))))
      (rows_none P zs (source_at P.rate N p))

  -- so that the relay sums sum to the total
  pub relays-total : ZeroSum P → (p : ℕ) → sum_to P.clusters (λ u. relay_sum P L W N u p) % P.q ≡ total P L W p
  unfolding relay_sum upload total
  relays-total zs p =
      let q : ℕ = P.q in
      to-mod
      (c-trans
      (sum-c P.clusters (λ u. relay_sum P L W N u p) (λ u. sum_to P.size (λ v. upload P L W N (u * P.size + v) p))
      (λ u l. of-rem q (sum_to P.size (λ v. upload P L W N (u * P.size + v) p))))
      (c-trans (of_eq (sym (sum-grid P.clusters P.size (λ i. upload P L W N i p))))
      (c-trans
      (sum-c (users P) (λ i. upload P L W N i p) (λ i. reading L W i p + key P N i p) (λ i l. of-rem q (reading L W i p + key P N i p)))
      (c-trans (of_eq (sum-add (users P) (λ i. reading L W i p) (λ i. key P N i p)))
      (c-trans (c-add (c-refl {a = sum_to (users P) (λ i. reading L W i p)}) (keys-cancel zs p)) (of_eq (omega arith)))))))

-- ---- the rounds, opened with the plan's counts

module _ (P : Plan) (K : List ℕ) (L : ℕ) (W N : List ℕ) (round : ℕ) where
  abbrev blocks : ℕ → ℕ → List ℕ
  blocks = sent P K L W N round

  abbrev relay : ℕ → ℕ → RelayRound
  relay = relay_opening P K L W N round

  -- the uploads of a cluster add up to its relay sum
  uploads-add : (u p : ℕ) → p < L → sum_to P.size (λ v. at (blocks u (suc v)) p) % P.q ≡ relay_sum (pool_of P K) L W N u p
  unfolding relay_sum
  uploads-add u p h =
      ap (λ (z : ℕ). z % P.q)
      (sum-cong P.size (λ v. at (blocks u (suc v)) p) (λ v. upload (pool_of P K) L W N (u * P.size + v) p)
      (λ v l.
      at-tab L (upload (pool_of P K) L W N (u * P.size + (suc v - 1))) p h
      ∙ ap (λ (w : ℕ). upload (pool_of P K) L W N (u * P.size + w) p) (omega arith)))

  uploads-now : (u first : ℕ) (events : List Event) → Reached P K L W N round u first events
      → Heard P.size (blocks u) (frames_of (log_of (relay u first) events).number (log_of (relay u first) events).counted)
  uploads-now u first events h =
      subst (λ (n : ℕ). Heard P.size (blocks u) (frames_of n (log_of (relay u first) events).counted)) (sym h.reached) h.uploads

  abbrev block : ℕ → ℕ → ℕ
  block u p = sum_to P.size (λ v. at (blocks u (suc v)) p) % P.q

  -- a relay that has heard its whole cluster gives out its relay sums
  pub relay-sums : RelaySumsAre P K L W N round
  relay-sums u first events pass h out room =
      let (told, sums) = relay-heard-given P.clusters P.size P.q L (suc u) first pass events (blocks u) (uploads-now u first events h) out room in
      (told, sums ∙ tab-cong L (block u) (relay_sum (pool_of P K) L W N u) (uploads-add u))

  -- from the uploads to the total: whatever else came, and in whatever order, the server gives out the sums of the relay sums
  pub server-sums : TotalIs P K L W N round
  server-sums pass first events frames heard out room =
      let (told, given) = full-given P.clusters true P.clusters P.size P.q L round pass frames (relayed P K L W N round first events)
      heard.sums out room in (
        told,
        given
            ∙ tab-cong L (λ p. sum_to P.clusters (λ u. at (relayed P K L W N round first events (suc u)) p) % P.q)
            (λ p. sum_to P.clusters (λ u. relay_sum (pool_of P K) L W N u p) % P.q)
            (λ p h. ap (λ (z : ℕ). z % P.q) (sum-cong P.clusters (λ u. at (relayed P K L W N round first events (suc u)) p)
            (λ u. relay_sum (pool_of P K) L W N u p) (λ u l. each u p l h))),
      )
    where
      listed : (u : ℕ) → u < P.clusters → one_of P.clusters (suc u) ≡ true
      listed u l = ap₂ ◌&&◌ (le-leb 1 (suc u) (omega arith)) (le-leb (suc u) P.clusters (omega arith))

      opened-as : (u : ℕ) → u < P.clusters → opens P K L W N round (one_of P.clusters (suc u))
      opened-as u l = subst (λ (t : Bool). opens P K L W N round t) (sym (listed u l)) pass

      each : (u p : ℕ) → u < P.clusters → p < L → at (relayed P K L W N round first events (suc u)) p ≡ relay_sum (pool_of P K) L W N u p
      each u p l h =
          ap (λ (w : ℕ). at (take L (relay_run (relay w (first w)) (events w)).round.sums) p) (omega arith)
          ∙ ap (λ (z : List ℕ). at z p)
          (relay-heard P.clusters P.size P.q L (suc u) (first u) (opened-as u l) (events u) (blocks u)
          (uploads-now u (first u) (events u) (heard.relays u l)))
          ∙ at-tab L (block u) p h
          ∙ uploads-add u p h

  -- and with a zero-sum table these are the totals of the readings
  pub readings-to-total : TotalIsSum P K L W N round
  readings-to-total zs pass first events frames heard out room =
      let (told, given) = server-sums pass first events frames heard out room in (
        told,
        given ∙ tab-cong L (λ p. sum_to P.clusters (λ u. relay_sum (pool_of P K) L W N u p) % P.q) (total (pool_of P K) L W)
            (λ p h. relays-total (pool_of P K) L W N zs p),
      )
