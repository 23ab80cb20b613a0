use Rattle.std.proofs.lemmas.Result.{err_from_is_err_and}
use Rattle.refusals.proofs.Orders.{first-refuses}
use Rattle.networks.specs.Rings.{network_of, network_checks, leak_checks}
use Rattle.networks.proofs.CheckLaws.{ready-known}
use Rattle.networks.proofs.verdict.vet.Goals as goal

pub returns-in_err-check_network : goal.returns-in_err-check_network
returns-in_err-check_network c =
    let a = c.args in
    let p = err_from_is_err_and c.from_residual.result c.from_residual.ensures.1 in
    rw (p.1, p.2) (first-refuses (network_checks a.ring a.table.now a.weights.now) (leak_checks (network_of a.ring a.table.now a.weights.now) a.ring.size 0)
    c.in_err-check_network.field-0.0 c.in_err-check_network.ensures)

pub find_leak-requires : goal.find_leak-requires
find_leak-requires c =
    let a = c.args in
    ready-known a.ring a.table.now a.weights.now c.in_ok-check_network.ensures
