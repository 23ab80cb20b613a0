use Rattle.std.proofs.Common.{◌≡◌, ℕ, ◌+◌, ◌-◌, ◌*◌, ◌<◌, ◌≤◌, length, take, drop, sym, ◌∙◌, subst, ap₂, arith}
use native.Mathlib.Nat.{add-sub_cancel_left}
use Rattle.lists.specs.Lists.{at}
use Rattle.plans.specs.Plans.{users_of}
use Rattle.lists.proofs.Fronts.{front-none, front-part, row_fits, length_part, part_at}
use Rattle.keys.proofs.KeyLaws.{turned_symbols, length-rows, keys-of-row}
use Rattle.keys.proofs.derive.users_keys.Goals as goal
use Rattle.keys.proofs.derive.users_keys.Goals.{In-loop-i, Start}

pub loop-i-init : goal.loop-i-init
loop-i-init c =
    let a = c.args in
    front-none _ _ (0 * a.positions) (omega arith)
    (length-rows a.plan.q (users_of a.plan) a.plan.rate a.positions a.table.now (turned_symbols a.positions a.turned.now)
    ∙ sym c.requires.4)

abbrev start : In-loop-i → Start
start i = (goal.at.In-loop-i i).Start

-- the user's row lies in the table, and its keys in the lent list
row_in : (c : In-loop-i) → (let a = (start c).args in c.loop-i.i * a.plan.rate
    + a.plan.rate ≤ length a.table.now)
row_in c =
    let a = (start c).args in
    row_fits (users_of a.plan) a.plan.rate c.loop-i.i (length a.table.now) c.loop-i-test.true
    (start c).requires.2

keys_in : (c : In-loop-i) → (let a = (start c).args in c.loop-i.i * a.positions
    + a.positions ≤ length c.loop-i.keys)
keys_in c =
    let a = (start c).args in
    row_fits (users_of a.plan) a.positions c.loop-i.i (length c.loop-i.keys) c.loop-i-test.true
    (c.loop-i.invariant.whole ∙ (start c).requires.4)

pub slice_bounds-row-end : goal.slice_bounds-row-end
slice_bounds-row-end c = row_in (goal.at.slice_bounds-row-end c).In-loop-i

pub slice_bounds-user_keys-end : goal.slice_bounds-user_keys-end
slice_bounds-user_keys-end c = keys_in (goal.at.slice_bounds-user_keys-end c).In-loop-i

pub user_keys-requires : goal.user_keys-requires
user_keys-requires c =
    let s = c.loop-i in
    let S = start (goal.at.user_keys-requires c).In-loop-i in
    let R = c.reciprocal_of-reciprocal.ensures in
    let a = S.args in
    let b : ℕ = s.i * a.positions in
    let r : ℕ = s.i * a.plan.rate in
    let lent : length (take (b + a.positions - b) (drop b s.keys)) ≡ a.positions = length_part (b + a.positions - b) b s.keys
    (omega (arith, keys_in (goal.at.user_keys-requires c).In-loop-i)) ∙ add-sub_cancel_left _ _ in
    let row : length (take (r + a.plan.rate - r) (drop r a.table.now)) ≡ a.plan.rate = length_part (r + a.plan.rate - r) r a.table.now
    (omega (arith, row_in (goal.at.user_keys-requires c).In-loop-i)) ∙ add-sub_cancel_left _ _ in (
      S.requires.0,
      R.0,
      R.1,
      λ k h. omega (arith, part_at (r + a.plan.rate - r) r a.table.now k (omega (arith, row)), S.requires.5 (r + k)),
      S.requires.3 ∙ sym (ap₂ ◌*◌ row lent),
      λ j p h m. subst (λ (n : ℕ). at a.turned.now (j * n + p) < a.plan.q) (sym lent) (S.requires.6 j p (omega (arith, row)) (omega (arith, lent))),
    )

pub loop-i-preserved : goal.loop-i-preserved
loop-i-preserved c =
    let s = c.loop-i in
    let a = (start (goal.at.loop-i-preserved c).In-loop-i).args in
    let h = c.loop-i-test.true in
    let b : ℕ = s.i * a.positions in
    let r : ℕ = s.i * a.plan.rate in
    let v : ℕ = b + a.positions - b in
    front-part _ _ s.keys b v ((s.i + 1) * a.positions) c.user_keys.new.keys (omega arith) s.invariant
    (omega (arith, keys_in (goal.at.loop-i-preserved c).In-loop-i))
    (c.user_keys.ensures ∙ keys-of-row a.plan.q (users_of a.plan) a.plan.rate a.positions a.table.now a.turned.now
    s.keys s.i (r + a.plan.rate - r) v (add-sub_cancel_left _ _) (add-sub_cancel_left _ _) h (row_in (goal.at.loop-i-preserved c).In-loop-i)
    (keys_in (goal.at.loop-i-preserved c).In-loop-i))
