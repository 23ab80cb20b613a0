use Rattle.std.proofs.Common.{length, ◌≤◌, arith}
use Rattle.console.proofs.Fronts.{consumes-more, within-put}
use Rattle.console.proofs.read_full.Goals as goal

pub loop-filled-preserved : goal.loop-filled-preserved
loop-filled-preserved g c =
    let fits : c.loop-filled.filled ≤ length c.loop-filled.buffer = omega arith in
    record {
      within = within-put _ _ _ _ _ fits c.in-Ok.ensures.bound.0;
      consumed = consumes-more _ _ _ _ _ _ _ _ fits c.in-Ok.ensures.bound.0 c.loop-filled.invariant.consumed c.in-Ok.ensures.bytes.0;
    }
