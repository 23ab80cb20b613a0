use mathlib.Core.Path.{◌∙◌}
use Rattle.vetting.proofs.BaseLaws.{one-cluster}
use Rattle.vetting.proofs.walk.column_sum.Goals as goal

pub returns : goal.returns
returns c =
    let a = c.args in
    c.cluster_sum.ensures ∙ one-cluster a.q a.rows a.cols a.table.now a.k
