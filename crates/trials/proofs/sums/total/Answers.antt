use mathlib.Core.Path.{refl, sym, ap, ◌∙◌}
use mathlib.Core.List.{List, [], ◌∷◌}
use Prim.Native.Nat.{ℕ}
use Rattle.std.specs.Prelude.{Ok}
use Rattle.refusals.specs.Codes.{code_of_result}
use Rattle.lists.specs.Lists.{at}
use Rattle.rounds.specs.declared.ServerRound.{ServerRound}
use Rattle.rounds.specs.Rounds.{server_run, server_sums, server_give_code}
use Rattle.trials.specs.Drawing.{relay_frames}
use Rattle.trials.proofs.RelayLaws.{never-refused, server-opens, total-is}
use Rattle.trials.proofs.sums.total.Goals as goal

pub returns-in_err-opened : goal.returns-in_err-opened
returns-in_err-opened c =
    absurd (never-refused c.in_err-opened.field-0.0 _ c.in_err-opened.ensures.code (server-opens c.args.plan c.args.sums.now c.requires))

pub returns-in_err-give : goal.returns-in_err-give
returns-in_err-give c =
    let a = c.args in
    let run : ServerRound → ServerRound = λ R. server_run R (relay_frames a.number a.sums.now) in
    absurd
    (never-refused c.in_err-give.field-0.0 _
    (ap code_of_result (sym c.in_err-give.was)
    ∙ c.give.ensures.0
    ∙ ap (λ (R : ServerRound). server_give_code R (0 ∷ [])) (c.collect-round.ensures ∙ ap run c.in_ok-opened.ensures.round))
    (total-is a.plan a.number a.sums.now (0 ∷ []) c.requires refl).1)

pub returns : goal.returns
returns c =
    let a = c.args in
    let run : ServerRound → ServerRound = λ R. server_run R (relay_frames a.number a.sums.now) in
    ap Ok
    (ap (λ (l : List ℕ). at l 0)
    (c.give.ensures.1 ∙ ap (λ (R : ServerRound). server_sums R (0 ∷ [])) (c.collect-round.ensures ∙ ap run c.in_ok-opened.ensures.round))
    ∙ (total-is a.plan a.number a.sums.now (0 ∷ []) c.requires refl).0)
