use Rattle.std.proofs.Common.{ℕ, ap, ◌∙◌}
use Rattle.refusals.specs.Codes.{accepted}
use Rattle.refusals.proofs.CodeLaws.{accepted-outcome}
use Rattle.matrices.specs.Entries.{rank_checks}
use Rattle.matrices.proofs.Elimination.{pivots-are-rank}
use Rattle.matrices.proofs.RankChecks.{checks-passed}
use Rattle.matrices.proofs.rank.Goals as goal

pub returns : goal.returns
returns c =
    let a = c.args in
    let p = checks-passed a.q a.rows a.cols a.table.now c.in_ok-check_rank.ensures in
    ap (λ (n : ℕ). record { refusal = accepted; value = n })
    (c.count_in_copy.ensures ∙ pivots-are-rank a.q p.prime a.rows a.cols a.table.now p.table)
    ∙ accepted-outcome (rank_checks a.q a.rows a.cols a.table.now) _ c.in_ok-check_rank.ensures
