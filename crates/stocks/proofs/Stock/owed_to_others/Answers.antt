use Prim.Native.Nat.{ℕ, ◌+◌}
use mathlib.Core.Path.{◌≡◌}
use native.Mathlib.Omega.{arith}
use borrow.Author.Rules.{rules}
use Rattle.lists.specs.Sums.{sum_to}
use Rattle.stocks.specs.Stocks.{owed_to}
use Rattle.lists.proofs.Sums.{sum-next, sum-some}
use Rattle.stocks.proofs.Pools.{others, mine, another}
use Rattle.stocks.proofs.Stock.owed_to_others.Goals as goal
use Rattle.stocks.proofs.Stock.owed_to_others.Goals.{then-i-pool, else-i-pool}

pub loop-i-init : goal.loop-i-init
unfolding sum_to
loop-i-init c = search rules

pub overflow_add-sum : goal.overflow_add-sum
overflow_add-sum c =
    let a = c.args in
    let i : ℕ = c.loop-i.i in
    let f : ℕ → ℕ = others a.pool (owed_to a.self) in
    let own : f i ≡ owed_to a.self i = another a.pool i 0 (owed_to a.self i) c.if-i-pool.true in
    record { fits = omega (arith, own, sum-some (i + 1) a.self.pools f (omega (arith, c.loop-i-test.true)), sum-next i f, c.owed_of-sum.ensures) }

pub loop-i-preserved : goal.loop-i-preserved
loop-i-preserved c =
    let a = c.args in
    let i : ℕ = c.loop-i.i in
    let f : ℕ → ℕ = others a.pool (owed_to a.self) in
    elim c.if-i-pool.branch [
      | then-i-pool w ↦
          let own : f i ≡ owed_to a.self i = another a.pool i 0 (owed_to a.self i) w.if-i-pool.true in
          omega (arith, own, sum-next i f, w.owed_of-sum.ensures, w.sum-is)
      | else-i-pool w ↦
          let own : f i ≡ 0 = mine a.pool i 0 (owed_to a.self i) w.if-i-pool.false in
          omega (arith, own, sum-next i f, w.sum-is)
    ]
