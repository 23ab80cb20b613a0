use mathlib.Core.Path.{◌≡◌, sym, ap, ◌∙◌, subst}
use mathlib.Core.Bool.{true, false}
use Rattle.rounds.specs.Ledger.{frame}
use Rattle.rounds.specs.Relays.{is_next, relay_round}
use Rattle.rounds.specs.Machine.{Good}
use Rattle.rounds.proofs.CheckLaws.{ready}
use Rattle.rounds.proofs.RelaySteps.{ahead-code, ahead-next, here-code, here-next}
use Rattle.rounds.proofs.RelayRound.heard.Goals as goal

pub hear-step-requires : goal.hear-step-requires
hear-step-requires c =
    let r = ready c.args.self c.requires in
    (r.few, subst (Good c.args.self.round.size) (sym c.held-ahead.ensures) (r.there c.args.number))

pub hear-step-requires-2 : goal.hear-step-requires-2
hear-step-requires-2 c = let r = ready c.args.self c.requires in (r.few, r.here)

pub returns-then-is_ahead : goal.returns-then-is_ahead
returns-then-is_ahead c =
    let a = c.args in
    let R = a.self in
    let f = frame a.sender a.number a.block.now in
    let next : is_next R.round.number a.number ≡ true = sym c.is_ahead.ensures ∙ c.if-is_ahead.true in record {
      code = c.hear-step.ensures.code ∙ ahead-code R f c.requires next _ c.held-ahead.ensures;
      round = ap (relay_round R.cluster R.round) c.of-self.ensures ∙ ahead-next R f c.requires next _ c.held-ahead.ensures _ c.hear-step.ensures.round;
    }

pub returns : goal.returns
returns c =
    let a = c.args in
    let R = a.self in
    let f = frame a.sender a.number a.block.now in
    let next : is_next R.round.number a.number ≡ false = sym c.is_ahead.ensures ∙ c.if-is_ahead.false in record {
      code = c.hear-step-2.ensures.code ∙ here-code R f c.requires next;
      round = here-next R f c.requires next _ c.hear-step-2.ensures.round;
    }
