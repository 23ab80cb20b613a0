use Rattle.std.proofs.Common.{◌≡◌, ℕ, ◌+◌, ◌-◌, ◌*◌, ◌≤◌, List, length, take, drop, sym, ap, ◌∙◌, arith}
use native.Mathlib.Nat.{add-sub_cancel_left}
use Rattle.lists.specs.Lists.{at, tab, join_to}
use Rattle.lists.proofs.ListLaws.{length-tab}
use Rattle.lists.proofs.Joins.{length-join, join-part}
use Rattle.lists.proofs.Fronts.{front-none, front-part, row_fits, length_part}
use Rattle.keys.proofs.columns.turn.Invariants.{column}
use Rattle.keys.proofs.columns.turn.Goals as goal
use Rattle.keys.proofs.columns.turn.Goals.{In-loop-k, Start}

abbrev start : In-loop-k → Start
start i = (goal.at.In-loop-k i).Start

-- the columns of a call
abbrev columns : Start → ℕ → List ℕ
columns s = column s.args.rate s.args.positions s.args.source.now

long : (s : Start) (k : ℕ) → length (columns s k) ≡ s.args.positions
long s k = length-tab s.args.positions _

pub loop-k-init : goal.loop-k-init
loop-k-init c =
    let s = (goal.at.loop-k-init c).Start in
    let a = s.args in
    front-none _ _ (0 * a.positions) (omega arith) (length-join a.positions (columns s) (long s) a.rate ∙ sym s.requires.1)

-- the column lies in the lent list
fits : (i : In-loop-k) → (let a = (start i).args in i.loop-k.k * a.positions + a.positions ≤ length i.loop-k.turned)
fits i =
    let a = (start i).args in
    row_fits a.rate a.positions i.loop-k.k (length i.loop-k.turned) i.loop-k-test.true
    (i.loop-k.invariant.whole ∙ (start i).requires.1)

-- as many symbols are lent as there are positions
lent : (i : In-loop-k) → (let a = (start i).args in
    let b : ℕ = i.loop-k.k * a.positions in
    length (take (b + a.positions - b) (drop b i.loop-k.turned)) ≡ a.positions)
lent i =
    let a = (start i).args in
    let b : ℕ = i.loop-k.k * a.positions in
    length_part (b + a.positions - b) b i.loop-k.turned (omega (arith, fits i)) ∙ add-sub_cancel_left _ _

pub loop-k-preserved : goal.loop-k-preserved
loop-k-preserved c =
    let i = (goal.at.loop-k-preserved c).In-loop-k in
    let s = i.loop-k in
    let S = start i in
    let a = S.args in
    let b : ℕ = s.k * a.positions in
    let v : ℕ = b + a.positions - b in
    front-part _ _ s.turned b v ((s.k + 1) * a.positions) c.fill_column.new.column (omega arith) s.invariant
    (omega (arith, fits i))
    (c.fill_column.ensures
    ∙ ap (λ (n : ℕ). tab n (λ p. at a.source.now (p * a.rate + s.k))) (lent i)
    ∙ sym (join-part a.positions (columns S) (long S) a.rate s.k i.loop-k-test.true)
    ∙ ap (λ (n : ℕ). take n (drop b (join_to a.rate (columns S)))) (sym (add-sub_cancel_left b a.positions)))
