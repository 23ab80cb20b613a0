use Prim.Native.Nat.{◌-◌, ◌≤◌}
use native.Mathlib.Omega.{arith}
use Rattle.lists.proofs.Sums.{sum-le}
use Rattle.stocks.specs.Stocks.{drawn_of, position, draw_of}
use Rattle.stocks.proofs.StockLaws.{passed}
use Rattle.stocks.proofs.Stock.draw.Goals as goal

pub moved-requires : goal.moved-requires
moved-requires c =
    let a = c.args in
    let p = passed a.stream.now a.self (draw_of a.pool a.length a.out.now) c.in-Ok.ensures in
    let own : drawn_of a.self (a.pool - 1) ≤ position a.self = sum-le a.self.pools (drawn_of a.self) (a.pool - 1) (omega (arith, p.from, p.to)) in
    record { from = p.from; to = omega (arith, p.to, p.state.few); small = omega (arith, own, p.enough) }
