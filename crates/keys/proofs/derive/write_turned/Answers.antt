use Rattle.std.proofs.Common.{◌≡◌, ℕ, ◌+◌, ◌*◌, ◌<◌, List, length, ap, ◌∙◌, arith}
use Rattle.lists.specs.Lists.{tab}
use Rattle.lists.proofs.ListLaws.{length-tab}
use Rattle.lists.proofs.Joins.{length-join}
use Rattle.plans.specs.Plans.{users_of}
use Rattle.keys.proofs.KeyLaws.{symbols_of, turned_symbols, turned-at, keys-alike, keys-are}
use Rattle.keys.proofs.derive.write_turned.Goals as goal
use Rattle.keys.proofs.derive.write_turned.Goals.{After-turn, Start}

abbrev start : After-turn → Start
start t = (goal.at.After-turn t).Start

abbrev turned : After-turn → List ℕ
turned t = t.turn.new.turned

-- the symbols of product k, as they stand in the source key
abbrev column : After-turn → ℕ → List ℕ
column t k = let a = (start t).args in tab a.positions (λ p. symbols_of a.plan.rate a.source.now p k)

-- the symbol of product k in position p
stands : (t : After-turn) (p k : ℕ) → (let a = (start t).args in
    p < a.positions → k < a.plan.rate → turned_symbols a.positions (turned t) p k ≡ symbols_of a.plan.rate a.source.now p k)
stands t p k h l =
    let a = (start t).args in
    ap (λ (x : List ℕ). turned_symbols a.positions x p k) t.turn.ensures ∙ turned-at a.plan.rate a.positions a.source.now p k h l

pub users_keys-requires : goal.users_keys-requires
users_keys-requires c =
    let t = (goal.at.users_keys-requires c).After-turn in
    let s = start t in
    let a = s.args in (
      s.requires.0,
      s.requires.1,
      s.requires.2,
      ap length t.turn.ensures
          ∙ length-join a.positions (column t) (λ k. length-tab a.positions _) a.plan.rate,
      s.requires.4,
      s.requires.6,
      λ k p l h. omega (arith, stands t p k h l, s.requires.7 (p * a.plan.rate + k)),
    )

pub returns : goal.returns
returns c =
    let t = (goal.at.returns c).After-turn in
    let a = (start t).args in
    c.users_keys.ensures
    ∙ keys-alike a.plan.q (users_of a.plan) a.plan.rate a.positions a.table.now (turned_symbols a.positions (turned t))
    (symbols_of a.plan.rate a.source.now) (stands t)
    ∙ keys-are a.plan a.table.now a.positions a.source.now
