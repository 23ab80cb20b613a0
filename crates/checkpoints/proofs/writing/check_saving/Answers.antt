use mathlib.Core.Bool.{not}
use mathlib.Core.List.{[], ◌∷◌}
use Prim.Native.Nat.{◌+◌}
use lib.Dec.{leb}
use lib.ListN.{length}
use Rattle.std.proofs.lemmas.Result.{err_from_is_err_and}
use Rattle.refusals.specs.Codes.{code}
use Rattle.refusals.proofs.Orders.{first-refuses}
use Rattle.rounds.specs.Relays.{relay_checks}
use Rattle.checkpoints.specs.Checkpoints.{save_size}
use Rattle.checkpoints.proofs.writing.check_saving.Goals as goal

pub returns-in_err-check_state : goal.returns-in_err-check_state
returns-in_err-check_state c =
    let a = c.args in
    let R = a.round in
    let p = err_from_is_err_and c.from_residual.result c.from_residual.ensures.1 in
    rw (p.1, p.2)
    (first-refuses (relay_checks R) ((not (leb (a.used + save_size R.round.length) (length a.out.now)), code 4) ∷ []) c.in_err-check_state.field-0.0
    c.in_err-check_state.ensures)
