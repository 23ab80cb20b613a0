use mathlib.Core.Path.{◌≡◌, ap, ◌∙◌}
use mathlib.Core.List.{List}
use Prim.Native.Nat.{ℕ, ◌+◌, ◌-◌, ◌*◌, ◌≤◌}
use native.Mathlib.Omega.{arith}
use lib.ListN.{length, take, drop, length-drop}
use lib.Seq.{length-take-le}
use Rattle.lists.specs.Lists.{tab}
use Rattle.lists.proofs.ListLaws.{length-tab}
use Rattle.vetting.specs.Walking.{cluster_sum}
use Rattle.vetting.proofs.BaseLaws.{join-none, join-next}
use Rattle.vetting.proofs.GatherLaws.{room}
use Rattle.vetting.proofs.walk.sum_rows.Goals as goal
use Rattle.vetting.proofs.walk.sum_rows.Goals.{In-loop-u}

pub loop-u-init : goal.loop-u-init
loop-u-init c =
    let a = c.args in
    let z : 0 * a.rate ≡ 0 = omega arith in
    ap (λ (k : ℕ). take k a.out.now) z ∙ join-none (λ u. tab a.rate (cluster_sum a.q a.size a.rate a.table.now u))

-- row u lies in the list
fits : (c : In-loop-u) → (let a = c.args in c.loop-u.u * a.rate + a.rate ≤ length
    c.loop-u.out)
fits c =
    let s = c.loop-u in
    room c.args.clusters c.args.rate s.u (length s.out) c.loop-u-test.true (omega (arith, c.requires.2, s.auto.out))

pub loop-u-preserved : goal.loop-u-preserved
loop-u-preserved c =
    let s = c.loop-u in
    let a = c.args in
    let f : ℕ → List ℕ = λ u. tab a.rate (cluster_sum a.q a.size a.rate a.table.now u) in
    let b : ℕ = s.u * a.rate in
    let k : ℕ = b + a.rate - b in
    let y : List ℕ = c.sum_row.new.out in
    let l : length (f s.u) ≡ a.rate = length-tab a.rate (cluster_sum a.q a.size a.rate a.table.now s.u) in
    let t : length (take k (drop b s.out)) ≡ k = length-take-le k (drop b s.out)
    (omega (arith, fits (goal.at.loop-u-preserved c).In-loop-u, length-drop b s.out)) in
    join-next f a.rate s.u s.out y _ (omega (arith, fits (goal.at.loop-u-preserved c).In-loop-u)) l c.sum_row.ensures s.invariant
