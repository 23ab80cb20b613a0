use mathlib.Core.Path.{◌≡◌, sym, ap, ◌∙◌, subst}
use mathlib.Core.List.{List, ◌++◌}
use Prim.Native.Nat.{ℕ, ◌+◌, ◌-◌, ◌≤◌}
use native.Mathlib.Omega.{arith}
use lib.ListN.{length, take}
use lib.Seq.{take_at, length-take-le}
use Rattle.residues.proofs.PrimeLaws.{prime-pos}
use Rattle.plans.proofs.PlanBounds.{bounds-known}
use Rattle.vetting.specs.declared.Walked.{Walked}
use Rattle.vetting.specs.Walk.{observers}
use Rattle.vetting.specs.Walking.{base_table, walked, found_code}
use Rattle.vetting.proofs.PairLists.{observers-length}
use Rattle.vetting.proofs.VetLaws.{passed, walk_code, walk-looked}
use Rattle.vetting.proofs.checks.judge.Goals as goal
use Rattle.vetting.proofs.checks.judge.Goals.{After-fill_observers, After-find_leak-walked, Start}

-- the array has room for each observer
room : (s : Start) → s.args.plan.clusters + 1 ≤ 9
room s =
    let a = s.args in
    omega (arith, (bounds-known a.plan (passed a.plan a.table.now s.requires).bounds).counts.few-clusters)

-- what is written: every observer
written : (c : After-fill_observers) → c.fill_observers.new.watching ≡ observers c.args.plan.clusters
written c =
    let s = (goal.at.After-fill_observers c).Start in
    let n : ℕ = s.args.plan.clusters in
    c.fill_observers.ensures ∙ ap (λ (m : ℕ). observers (m - 1)) (length-take-le (n + 1) _ (room s)) ∙ ap observers {x = n + 1 - 1} (omega arith)

size : (c : After-fill_observers) → length c.fill_observers.new.watching ≡ c.args.plan.clusters + 1
size c = ap length (written c) ∙ observers-length c.args.plan.clusters

-- and lent
lent : (c : After-fill_observers) (rest : List ℕ)
    → (let n : ℕ = c.args.plan.clusters in take (n + 1) (c.fill_observers.new.watching ++ rest) ≡ observers n)
lent c rest = take_at c.fill_observers.new.watching rest (c.args.plan.clusters + 1) (size c) ∙ written c

lent-size : (c : After-fill_observers) (rest : List ℕ)
    → (let n : ℕ = c.args.plan.clusters in n + 1 ≡ length (take (n + 1) (c.fill_observers.new.watching ++ rest)))
lent-size c rest = sym (ap length (lent c rest) ∙ observers-length c.args.plan.clusters)

pub find_leak-walked-requires : goal.find_leak-walked-requires
find_leak-walked-requires c =
    let b = (goal.at.find_leak-walked-requires c).After-fill_observers in
    let s = (goal.at.find_leak-walked-requires c).Start in
    let p = passed s.args.plan s.args.table.now s.requires in
    (p.bounds, p.size, prime-pos p.prime, subst (λ (n : ℕ). n ≤ 9) (lent-size b _) (room s))

-- what the walk found, and how many pairs it looked at
found : (c : After-find_leak-walked) → (let a = c.args in
    c.find_leak-walked.result ≡ walked a.plan 0 (observers a.plan.clusters) (base_table a.plan a.table.now))
found c =
    let b = (goal.at.After-find_leak-walked c).After-fill_observers in
    let a = b.args in
    c.find_leak-walked.ensures ∙ ap (λ (l : List ℕ). walked a.plan 0 l (base_table a.plan a.table.now)) (lent b _)

pub returns : goal.returns
returns c =
    let P = c.args.plan in
    let K = c.args.table.now in record {
      code = c.told.ensures ∙ ap (λ (w : Walked). found_code w.found) (found (goal.at.returns c).After-find_leak-walked) ∙ walk_code P K c.requires;
      looked = ap (λ (w : Walked). w.looked) (found (goal.at.returns c).After-find_leak-walked) ∙ walk-looked P K c.requires;
    }
