use mathlib.Core.Path.{sym, ap, ◌∙◌}
use mathlib.Core.List.{[], ◌++◌}
use lib.ListN.{length, take}
use Rattle.std.proofs.lemmas.Result.{err_from_is_err_and}
use Rattle.refusals.specs.declared.Code.{Code}
use Rattle.refusals.specs.Codes.{first_of, if_accepted}
use Rattle.refusals.proofs.CodeLaws.{refused-keeps}
use Rattle.refusals.proofs.Orders.{rest-decides, first-refuses}
use Rattle.rounds.specs.Rounds.{state_checks, lent_checks}
use Rattle.rounds.proofs.CheckLaws.{good-state}
use Rattle.rounds.proofs.Round.give.Goals as goal

pub hand_out-requires : goal.hand_out-requires
hand_out-requires c =
    let a = c.args in
    let good = good-state a.senders a.known a.self.now c.in_ok-check_state.ensures in
    (c.requires good.opening.fit, good)

pub returns : goal.returns
returns c =
    let a = c.args in
    let e = rest-decides (state_checks a.senders a.known a.self.now) (lent_checks a.senders a.self.now [] (length a.out.now)) tt c.in_ok-check_state.ensures in
    record {
      code = c.hand_out.ensures.code ∙ e;
      out = c.hand_out.ensures.out ∙ ap (λ (d : Code). if_accepted d (take a.self.now.length a.self.now.sums) a.out.now) e;
    }

pub returns-in_err-check_state : goal.returns-in_err-check_state
returns-in_err-check_state c =
    let a = c.args in
    let s = state_checks a.senders a.known a.self.now in
    let o = lent_checks a.senders a.self.now [] (length a.out.now) in
    let r = c.in_err-check_state.field-0.0 in
    let e = first-refuses s o r c.in_err-check_state.ensures in
    let p = err_from_is_err_and c.from_residual.result c.from_residual.ensures.1 in
    rw (p.1, p.2) record {
      code = e;
      out = sym (refused-keeps (first_of (s ++ o)) (take a.self.now.length a.self.now.sums) a.out.now r e);
    }
