use mathlib.Core.Path.{sym}
use mathlib.Core.Bool.{Bool, not}
use mathlib.Core.List.{List, [], ◌∷◌}
use Rattle.std.proofs.lemmas.Result.{err_from_is_err_and}
use Rattle.refusals.specs.declared.Code.{Code}
use Rattle.refusals.specs.Codes.{code}
use Rattle.refusals.proofs.CodeLaws.{refused-keeps}
use Rattle.refusals.proofs.Orders.{first-refuses}
use Rattle.cyclic.specs.Decoding.{decodable}
use Rattle.networks.specs.Rings.{network_of, arrival_checks}
use Rattle.networks.proofs.CheckLaws.{DecodeReady, arrivals-known}
use Rattle.networks.proofs.decoding.decode.Goals as goal

pub returns-in_err-check_arrivals : goal.returns-in_err-check_arrivals
returns-in_err-check_arrivals c =
    let a = c.args in
    let last : List (Bool × Code) = (not (decodable (network_of a.ring a.table.now a.weights.now) a.reported), code 23) ∷ [] in
    let p = err_from_is_err_and c.from_residual.result c.from_residual.ensures.1 in
    let e = first-refuses (arrival_checks a.ring a.table.now a.weights.now a.reported a.sums.now a.out.now) last
    c.in_err-check_arrivals.field-0.0 c.in_err-check_arrivals.ensures in record {
      code = rw (p.1, p.2) e;
      out = sym (refused-keeps _ _ _ c.in_err-check_arrivals.field-0.0 e);
    }

pub decode_here-requires : goal.decode_here-requires
decode_here-requires c =
    let a = c.args in
    let r : DecodeReady a.ring a.table.now a.weights.now a.reported a.sums.now a.out.now
    = arrivals-known a.ring a.table.now a.weights.now a.reported a.sums.now a.out.now c.in_ok-check_arrivals.ensures in
    (r.ready, r.many, r.below, r.room)
