use mathlib.Core.Path.{◌∙◌}
use native.Mathlib.Omega.{arith}
use Rattle.cyclic.specs.Network.{heard}
use Rattle.networks.specs.Rings.{network_of}
use Rattle.networks.proofs.GridLaws.{entry-upload}
use Rattle.networks.proofs.grids.entry_at.Goals as goal

pub returns-then-w-gt0 : goal.returns-then-w-gt0
unfolding heard
returns-then-w-gt0 c =
    let a = c.args in
    c.upload_at.ensures ∙ entry-upload (network_of a.ring a.table.now a.weights.now) a.w a.i a.c (λ e. omega arith)
