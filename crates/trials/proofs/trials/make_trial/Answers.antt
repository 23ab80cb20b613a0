use mathlib.Core.Path.{◌≡◌, sym, ap, ap₂, ◌∙◌, subst}
use mathlib.Core.List.{List, ◌++◌}
use Prim.Native.Nat.{ℕ, ◌+◌, ◌-◌, ◌%◌, ◌^◌, ◌≤◌, ◌<◌}
use native.Mathlib.Nat.{mod-lt}
use native.Mathlib.Omega.{arith}
use lib.ListN.{length, take, drop}
use lib.Seq.{length-take-le, take_at, get_or-take}
use Rattle.std.specs.Prelude.{Ok}
use mir.Syntax.{w32}
use mir.Val.{to_z, of_z}
use mir.Facts.{to_z-of_z}
use Rattle.refusals.specs.Codes.{accepted, first_of}
use Rattle.lists.specs.Lists.{at, zeros, tab}
use Rattle.lists.specs.Sums.{sum_to}
use Rattle.lists.proofs.ListLaws.{length-tab}
use Rattle.plans.specs.declared.Plan.{Plan}
use Rattle.plans.specs.Plans.{users_of}
use Rattle.plans.proofs.PlanBounds.{Bounds, some-users}
use Rattle.trials.specs.declared.Settled.{Settled}
use Rattle.trials.specs.Generator.{stepped_by, value_at}
use Rattle.trials.specs.Trials.{source_key, readings, senders, state_after, trial_checks}
use Rattle.trials.specs.Drawing.{drawn_of, senders_from, Drawn, settled_of}
use Rattle.trials.proofs.MaskLaws.{some-symbols, shown-fits}
use Rattle.trials.proofs.TrialLaws as TrialLaws
use Rattle.trials.proofs.RelayLaws.{handed-over}
use Rattle.trials.proofs.trials.make_trial.Goals as goal

-- ---- what a good round draws stands in the first places of what was lent

module _ (P : Plan) (K : List ℕ) (m s : ℕ) (e : accepted ≡ first_of (trial_checks P K m)) where
  abbrev n : ℕ
  n = users_of P

  known : Bounds P
  known = TrialLaws.known P K m s e

  -- the places that are lent for the source key, and for the users
  abbrev keyed : ℕ
  keyed = length (take P.rate (zeros 16))

  abbrev seated : ℕ
  seated = length (take n (zeros 16))

  keyed-is : keyed ≡ P.rate
  keyed-is = length-take-le P.rate (zeros 16) known.few-symbols

  seated-is : seated ≡ n
  seated-is = length-take-le n (zeros 16) known.counts.few-users

  source-front : (l rest : List ℕ) → l ≡ drawn_of P.q s keyed → take P.rate (l ++ rest) ≡ source_key P K m s
  source-front l rest is =
      ap (λ (x : List ℕ). take P.rate (x ++ rest)) (is ∙ ap (drawn_of P.q s) keyed-is)
      ∙ take_at (source_key P K m s) rest P.rate (length-tab P.rate (λ j. value_at s j % P.q))

  readings-front : (l rest : List ℕ) → l ≡ drawn_of (m + 1) (stepped_by keyed s) seated → take n (l ++ rest) ≡ readings P K m s
  readings-front l rest is =
      ap (λ (x : List ℕ). take n (x ++ rest))
      (is ∙ ap₂ (λ (a b : ℕ). drawn_of (m + 1) (stepped_by a s) b) keyed-is seated-is ∙ TrialLaws.readings-are P K m s)
      ∙ take_at (readings P K m s) rest n (TrialLaws.readings-size P K m s)

  order-front : (l rest : List ℕ) → l ≡ senders_from (stepped_by seated (stepped_by keyed s)) seated (tab seated (λ i. i))
      → take n (l ++ rest) ≡ senders P K m s
  order-front l rest is =
      ap (λ (x : List ℕ). take n (x ++ rest))
      (is
      ∙ ap₂ (λ (a b : ℕ). senders_from (stepped_by b (stepped_by a s)) b (tab b (λ i. i))) keyed-is seated-is
      ∙ TrialLaws.senders-are P K m s)
      ∙ take_at (senders P K m s) rest n (TrialLaws.senders-size P K m s)

  state-left : (t : ℕ) → t ≡ stepped_by seated (stepped_by seated (stepped_by keyed s)) → t ≡ state_after P K m s
  state-left t is = is ∙ ap₂ (λ (a b : ℕ). stepped_by b (stepped_by b (stepped_by a s))) keyed-is seated-is ∙ TrialLaws.state-is P K m s

  drawn-as : (x y z : List ℕ) → x ≡ source_key P K m s → y ≡ readings P K m s → z ≡ senders P K m s → Drawn P K m x y z
  drawn-as x y z a b d =
      subst (λ (l : List ℕ). Drawn P K m l y z) (sym a)
      (subst (λ (l : List ℕ). Drawn P K m (source_key P K m s) l z) (sym b)
      (subst (λ (l : List ℕ). Drawn P K m (source_key P K m s) (readings P K m s) l) (sym d) (TrialLaws.drawn P K m s e)))

pub settle-requires : goal.settle-requires
settle-requires c =
    let P : Plan = c.args.plan in
    let K : List ℕ = c.args.table.now in
    let m : ℕ = c.args.cap in
    let s : ℕ = c.args.state in
    let e = c.requires in
    let d = c.draw_round-after in
    drawn-as P K m s e _ _ _ (source-front P K m s e d.new.source _ d.ensures.source) (readings-front P K m s e d.new.readings _ d.ensures.readings)
    (order-front P K m s e d.new.order _ d.ensures.order)

pub true_sum-requires : goal.true_sum-requires
true_sum-requires c =
    let P : Plan = c.args.plan in
    let K : List ℕ = c.args.table.now in
    let m : ℕ = c.args.cap in
    let s : ℕ = c.args.state in
    let d = c.draw_round-after in
    subst (λ (x : List ℕ). (length x ≤ 16) × ((i : ℕ) → at x i < 32768)) (sym (readings-front P K m s c.requires d.new.readings _ d.ensures.readings))
    (omega (arith, TrialLaws.readings-size P K m s, (known P K m s c.requires).counts.few-users), TrialLaws.readings-small P K m s)

pub returns : goal.returns
returns c =
    let P : Plan = c.args.plan in
    let K : List ℕ = c.args.table.now in
    let m : ℕ = c.args.cap in
    let s : ℕ = c.args.state in
    let e = c.requires in
    let d = c.draw_round-after in
    let u : ℕ = users_of P in
    let rest : List ℕ = drop u (zeros 16) in
    let order : take u (d.new.order ++ rest) ≡ senders P K m s = order-front P K m s e d.new.order rest d.ensures.order in
    let read : take u (d.new.readings ++ rest) ≡ readings P K m s = readings-front P K m s e d.new.readings rest d.ensures.readings in
    let settled : c.in_ok-settled.settled ≡ settled_of P K (source_key P K m s) (readings P K m s) =
    handed-over c.in_ok-settled.ensures ∙ ap₂ (settled_of P K) (source-front P K m s e d.new.source _ d.ensures.source) read in
    let some : 1 ≤ u = some-users (known P K m s e).counts in
    let last : at (d.new.order ++ rest) (u - 1) ≡ at (senders P K m s) (u - 1) =
    sym (get_or-take u (d.new.order ++ rest) (u - 1) 0 (omega (arith, some))) ∙ ap (λ (l : List ℕ). at l (u - 1)) order in
    let sum : c.true_sum.result ≡ sum_to u (at (readings P K m s)) =
    c.true_sum.ensures
    ∙ ap (λ (l : List ℕ). sum_to (length l) (at l)) read
    ∙ ap (λ (k : ℕ). sum_to k (at (readings P K m s))) (TrialLaws.readings-size P K m s) in
    let narrow : P.q < 2 ^ 32 = omega arith in
    let wide : to_z w32 (of_z w32 c.in_ok-settled.settled.shown) ≡ (settled_of P K (source_key P K m s) (readings P K m s)).shown =
    ap (λ (x : Settled). to_z w32 (of_z w32 x.shown)) settled
    ∙ to_z-of_z (shown-fits P.q _ narrow (mod-lt _ (some-symbols P m (TrialLaws.fit P K m s e)))) in
    let state : d.result ≡ state_after P K m s = state-left P K m s e d.result d.ensures.state in
    λ i. Ok (record { last = last i; first = (settled i).first; sum = sum i; shown = wide i; state = state i })
