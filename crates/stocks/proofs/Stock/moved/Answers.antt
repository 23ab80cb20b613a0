use Prim.Native.Nat.{ℕ, ◌+◌, ◌-◌}
use mathlib.Core.Path.{◌≡◌, sym, ap}
use mathlib.Core.Bool.{cond}
use native.Mathlib.Omega.{arith}
use borrow.Author.Rules.{rules}
use lib.Dec.{eqb}
use lib.ListN.{length}
use Rattle.stocks.specs.Stocks.{max_pools, drawn_of}
use Rattle.stocks.specs.Machine.{with_list}
use Rattle.lists.proofs.ListLaws.{set-tab}
use Rattle.stocks.proofs.Pools.{mine, another}
use Rattle.stocks.proofs.Stock.moved.Goals as goal

pub returns : goal.returns
returns c =
    let a = c.args in
    let S = a.self in
    let i : ℕ = a.pool - 1 in
    let f : ℕ → ℕ = λ k. drawn_of S k + cond (eqb (k + 1) a.pool) a.length 0 in
    let eight : length S.drawn ≡ max_pools = search rules in
    ap (with_list S)
    (set-tab max_pools S.drawn f i (drawn_of S i + a.length) eight (omega (arith, c.requires.from, c.requires.to))
    (ap (λ (n : ℕ). drawn_of S i + n) (sym (mine a.pool i a.length 0 (omega (arith, c.requires.from)))))
    (λ k h d. let e : cond (eqb (k + 1) a.pool) a.length 0 ≡ 0 = another a.pool k a.length 0 (λ w. d (omega (arith, w))) in omega arith))
