use mathlib.Core.Path.{◌≡◌, sym, ap, ap₂, ◌∙◌, subst}
use mathlib.Core.List.{List, ◌++◌}
use Rattle.std.specs.Prelude.{Result, Ok}
use Rattle.refusals.specs.declared.Refusal.{Refusal}
use lib.IntN.{ℤ}
use Prim.Native.Nat.{ℕ, ◌+◌, ◌*◌, ◌%◌, ◌^◌, ◌<◌}
use native.Mathlib.Nat.{mod-lt}
use native.Mathlib.Omega.{arith}
use lib.ListN.{length, take, drop}
use lib.Seq.{length-take-le, take_at, get_or-take}
use mir.Syntax.{w32}
use mir.Val.{to_z, of_z}
use mir.Facts.{to_z-of_z}
use Rattle.lists.specs.Lists.{at, zeros, tab, All}
use Rattle.lists.specs.Sums.{sum_to}
use Rattle.lists.proofs.ListLaws.{at-tab, length-tab}
use Rattle.secrecy.specs.Model.{upload, relay_sum}
use Rattle.plans.specs.declared.Plan.{Plan}
use Rattle.plans.specs.Plans.{users_of}
use Rattle.plans.proofs.PlanBounds.{Bounds, bounds-known}
use Rattle.vetting.specs.Pools.{pool_of}
use Rattle.signed.specs.Numbers.{shown_of}
use Rattle.trials.specs.declared.Settled.{Settled}
use Rattle.trials.specs.Drawing.{Sent, Relayed, Maskable, Drawn}
use Rattle.trials.proofs.MaskLaws.{some-symbols, shown-fits, uploads_all, relays_all, uploads-below, relays-below, relays-are, total-are}
use Rattle.trials.proofs.RelayLaws.{handed-over}
use Rattle.trials.proofs.trials.settle.Goals as goal

-- ---- what was drawn, masked and summed

module _ {P : Plan} {K : List ℕ} {m : ℕ} {N W order : List ℕ} (d : Drawn P K m N W order) where
  good : Maskable P K m N W
  good = d.maskable

  known : Bounds P
  known = bounds-known P good.fit.bounds

  -- everyone's upload, and every relay's sum
  abbrev uploads : List ℕ
  uploads = uploads_all P K m N W good

  abbrev relays : List ℕ
  relays = relays_all P K m N W good

  -- they stand in the first places of what was lent
  uploads-front : (l rest : List ℕ) → l ≡ uploads → take (length W) (l ++ rest) ≡ uploads
  uploads-front l rest e =
      let long : length uploads ≡ length W = length-tab (users_of P) (λ i. upload (pool_of P K) 1 W N i 0) ∙ sym good.readings in
      ap (λ (x : List ℕ). take (length W) (x ++ rest)) e ∙ take_at uploads rest (length W) long

  relays-front : (l rest : List ℕ) → l ≡ relays → take P.clusters (l ++ rest) ≡ relays
  relays-front l rest e =
      let long : length relays ≡ P.clusters = length-tab P.clusters (λ u. relay_sum (pool_of P K) 1 W N u 0) in
      ap (λ (x : List ℕ). take P.clusters (x ++ rest)) e ∙ take_at relays rest P.clusters long

  sent : (l : List ℕ) → l ≡ uploads → Sent P l order
  sent l e =
      let size : length uploads ≡ users_of P = length-tab (users_of P) (λ i. upload (pool_of P K) 1 W N i 0) in
      subst (λ (x : List ℕ). Sent P x order) (sym e)
      (record {
        bounds = good.fit.bounds;
        prime = good.fit.prime;
        size = size;
        below = uploads-below P K m N W good;
        few = d.few;
        users = subst (λ (n : ℕ). All (λ i. i < n) order) (sym size) d.users;
        everyone = d.everyone;
      })

  relayed : (l : List ℕ) → l ≡ relays → Relayed P l
  relayed l e =
      subst (Relayed P) (sym e)
      (record {
        bounds = good.fit.bounds;
        prime = good.fit.prime;
        size = length-tab P.clusters (λ u. relay_sum (pool_of P K) 1 W N u 0);
        below = relays-below P K m N W good;
      })

  -- the sums that the relays give out
  summed : (l : List ℕ) → l ≡ uploads → tab P.clusters (λ u. sum_to P.size (λ v. at l (u * P.size + v)) % P.q) ≡ relays
  summed l e =
      ap (λ (x : List ℕ). tab P.clusters (λ u. sum_to P.size (λ v. at x (u * P.size + v)) % P.q)) e ∙ relays-are P K m N W good

pub relay_sums-requires : goal.relay_sums-requires
relay_sums-requires c =
    let d = c.requires in
    (length-take-le c.args.plan.clusters (zeros 8) (known d).counts.few-clusters, sent d _ (uploads-front d c.mask.new.uploads _ c.mask.ensures.uploads))

pub total-requires : goal.total-requires
total-requires c =
    let d = c.requires in
    let sums = c.relay_sums.ensures.sums ∙ summed d _ (uploads-front d c.mask.new.uploads _ c.mask.ensures.uploads) in
    relayed d _ (relays-front d c.relay_sums.new.sums _ sums)

pub returns : goal.returns
returns c =
    let d = c.requires in
    let P : Plan = c.args.plan in
    let K : List ℕ = c.args.table.now in
    let W : List ℕ = c.args.readings.now in
    let N : List ℕ = c.args.source.now in
    let some = (known d).counts.some-clusters in
    let front : (rest : List ℕ) → take P.clusters (c.relay_sums.new.sums ++ rest) ≡ relays d =
    λ rest. relays-front d c.relay_sums.new.sums rest
    (c.relay_sums.ensures.sums ∙ summed d _ (uploads-front d c.mask.new.uploads _ c.mask.ensures.uploads)) in
    let rest : List ℕ = drop P.clusters (zeros 8) in
    let first : at (c.relay_sums.new.sums ++ rest) 0 ≡ relay_sum (pool_of P K) 1 W N 0 0 =
    sym (get_or-take P.clusters (c.relay_sums.new.sums ++ rest) 0 0 some)
    ∙ ap (λ (l : List ℕ). at l 0) (front rest)
    ∙ at-tab P.clusters (λ u. relay_sum (pool_of P K) 1 W N u 0) 0 some in
    let total : c.in_ok-sum.sum ≡ sum_to P.clusters (λ u. relay_sum (pool_of P K) 1 W N u 0) % P.q =
    handed-over c.in_ok-sum.ensures
    ∙ ap (λ (l : List ℕ). sum_to P.clusters (at l) % P.q) (front _)
    ∙ total-are P K c.args.cap N W d.maskable in
    let narrow : P.q < 2 ^ 32 = omega arith in
    ap₂ {C = Result Settled Refusal} (λ (a : ℕ) (b : ℤ). Ok (record { first = a; shown = b })) first
    (ap (λ (z : ℤ). to_z w32 (of_z w32 z)) (handed-over c.in_ok-shown.ensures ∙ ap (shown_of P.q) total)
    ∙ to_z-of_z (shown-fits P.q _ narrow (mod-lt _ (some-symbols P c.args.cap d.maskable.fit))))
