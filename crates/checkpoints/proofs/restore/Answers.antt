use mathlib.Core.Path.{sym}
use Rattle.std.proofs.lemmas.Result.{err_from_is_err_and}
use Rattle.refusals.proofs.CodeLaws.{refused-keeps}
use Rattle.rounds.specs.Rounds.{no_round}
use Rattle.rounds.specs.Relays.{relay_round, nothing}
use Rattle.checkpoints.specs.Checkpoints.{round_read, restore_code}
use Rattle.checkpoints.proofs.RestoreChecks.{size-refuses, state-refuses}
use Rattle.checkpoints.proofs.restore.Goals as goal

pub returns-in_err-check_size : goal.returns-in_err-check_size
returns-in_err-check_size c =
    let B = c.args.saved.now in
    let steps = c.args.steps in
    let r = c.in_err-check_size.field-0.0 in
    let found = c.in_ok-end.ensures.found in
    let e = size-refuses B steps c.in_ok-end.ensures.code c.in_ok-end.end found.0 r c.in_err-check_size.ensures in
    let p = err_from_is_err_and c.from_residual-in_err-check_size.result c.from_residual-in_err-check_size.ensures.1 in
    rw (p.1, p.2) record {
      code = e;
      round = sym (refused-keeps (restore_code B steps) (round_read B steps) (relay_round 0 no_round nothing) r e);
    }

pub returns-in_err-check_state : goal.returns-in_err-check_state
returns-in_err-check_state c =
    let B = c.args.saved.now in
    let steps = c.args.steps in
    let r = c.in_err-check_state.field-0.0 in
    let found = c.in_ok-end.ensures.found in
    let e =
    state-refuses B steps c.in_ok-end.ensures.code c.in_ok-end.end found.0 c.in_ok-check_size.ensures c.round_at-round.result c.round_at-round.ensures r
    c.in_err-check_state.ensures in
    let p = err_from_is_err_and c.from_residual-in_err-check_state.result c.from_residual-in_err-check_state.ensures.1 in
    rw (p.1, p.2) record {
      code = e;
      round = sym (refused-keeps (restore_code B steps) (round_read B steps) (relay_round 0 no_round nothing) r e);
    }
