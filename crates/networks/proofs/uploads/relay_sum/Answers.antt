use Rattle.networks.proofs.CheckLaws.{sum-known}
use Rattle.networks.proofs.uploads.relay_sum.Goals as goal

pub add_all-requires : goal.add_all-requires
add_all-requires c =
    let a = c.args in
    (sum-known a.ring a.uploads.now c.in_ok-check_sum.ensures).0
