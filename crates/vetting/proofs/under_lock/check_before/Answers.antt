use mathlib.Core.List.{[]}
use Rattle.residues.proofs.PrimeLaws.{prime-pos}
use Rattle.plans.proofs.TableLaws.{table-passed}
use Rattle.vetting.proofs.under_lock.check_before.Goals as goal

pub check_columns-requires : goal.check_columns-requires
check_columns-requires c =
    let p = table-passed c.args.plan c.args.table.now [] tt c.in_ok-check_plan.ensures in
    (p.bounds, p.size, prime-pos p.prime)
