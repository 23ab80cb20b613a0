use mathlib.Core.Path.{◌≡◌, sym, ap, ◌∙◌}
use mathlib.Core.Bool.{Bool, true, false, cond}
use native.Mathlib.Omega.{arith}
use lib.ListN.{length}
use Rattle.lists.specs.Lists.{tab}
use Rattle.lists.proofs.Searches.{true→T}
use Rattle.cyclic.specs.Decoding.{decodable, decoded}
use Rattle.networks.specs.Rings.{network_of}
use Rattle.networks.proofs.DecodeLaws.{answer-is, totals-are}
use Rattle.networks.proofs.ValueLaws.{units-all}
use Rattle.networks.proofs.decoding.decode_in.Goals as goal
use Rattle.networks.proofs.decoding.decode_in.Goals.{After-all_cleared}

answered : (c : After-all_cleared) → (let a = c.args in
    c.all_cleared.result ≡ decodable (network_of a.ring a.table.now a.weights.now) a.reported)
answered c =
    let a = c.args in
    c.all_cleared.ensures
    ∙ answer-is a.ring a.table.now a.weights.now c.requires.0 a.reported a.sums.now _ _ c.fill_grid.ensures c.requires.3 _ c.sweep_all.ensures.table

pub returns-then-not-all_cleared : goal.returns-then-not-all_cleared
returns-then-not-all_cleared c =
    let a = c.args in
    let e : false ≡ decodable (network_of a.ring a.table.now a.weights.now) a.reported
    = sym (c.if-not-all_cleared.true) ∙ answered (goal.at.returns-then-not-all_cleared c).After-all_cleared in record {
      answer = e;
      out = ap (λ (b : Bool). cond b (tab a.ring.parts (decoded (network_of a.ring a.table.now a.weights.now) a.reported a.sums.now))
          a.out.now) e;
    }

pub returns : goal.returns
returns c =
    let a = c.args in
    let e : true ≡ decodable (network_of a.ring a.table.now a.weights.now) a.reported
    = sym (c.if-not-all_cleared.false) ∙ answered (goal.at.returns c).After-all_cleared in record {
      answer = e;
      out = c.write_totals.ensures
          ∙ totals-are a.ring a.table.now a.weights.now c.requires.0 a.reported a.sums.now _ _
          c.fill_grid.ensures c.requires.3 c.requires.1 c.requires.2 (true→T _ (sym e)) _ _ _ _ _ _ c.write_start.ensures.values
          (c.write_start.ensures.units ∙ units-all a.ring.parts (length a.units.now) (omega (arith, c.requires.5))) c.requires.5
          c.sweep_all.ensures.values c.sweep_all.ensures.units c.requires.6
          ∙ ap (λ (b : Bool). cond b (tab a.ring.parts (decoded (network_of a.ring a.table.now a.weights.now) a.reported a.sums.now))
          a.out.now) e;
    }
