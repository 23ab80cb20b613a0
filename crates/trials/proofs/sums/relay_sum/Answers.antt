use mathlib.Core.Path.{refl, sym, ap, ◌∙◌}
use mathlib.Core.List.{List, [], ◌∷◌}
use Prim.Native.Nat.{ℕ}
use Rattle.std.specs.Prelude.{Ok}
use Rattle.refusals.specs.Codes.{code_of_result}
use Rattle.lists.specs.Lists.{at}
use Rattle.rounds.specs.declared.RelayRound.{RelayRound}
use Rattle.rounds.specs.Relays.{relay_sums, relay_give_code}
use Rattle.trials.specs.Drawing.{run_from}
use Rattle.trials.proofs.RelayLaws.{never-refused, relay-opens, relay-sum-is}
use Rattle.trials.proofs.sums.relay_sum.Goals as goal

pub returns-in_err-opened : goal.returns-in_err-opened
returns-in_err-opened c =
    let a = c.args in
    absurd (never-refused c.in_err-opened.field-0.0 _ c.in_err-opened.ensures.code
    (relay-opens a.plan a.cluster a.uploads.now a.order.now c.requires.0 c.requires.1 c.requires.2))

pub returns-in_err-give : goal.returns-in_err-give
returns-in_err-give c =
    let a = c.args in
    let run : RelayRound → RelayRound = λ R. run_from a.plan a.cluster a.number a.uploads.now R a.order.now in
    absurd
    (never-refused c.in_err-give.field-0.0 _
    (ap code_of_result (sym c.in_err-give.was)
    ∙ c.give.ensures.0
    ∙ ap (λ (R : RelayRound). relay_give_code R (0 ∷ [])) (c.hear_all-round.ensures ∙ ap run c.in_ok-opened.ensures.round))
    (relay-sum-is a.plan a.cluster a.number a.uploads.now a.order.now (0 ∷ []) c.requires.0 c.requires.1 c.requires.2 refl).1)

pub returns : goal.returns
returns c =
    let a = c.args in
    let run : RelayRound → RelayRound = λ R. run_from a.plan a.cluster a.number a.uploads.now R a.order.now in
    ap Ok
    (ap (λ (l : List ℕ). at l 0)
    (c.give.ensures.1 ∙ ap (λ (R : RelayRound). relay_sums R (0 ∷ [])) (c.hear_all-round.ensures ∙ ap run c.in_ok-opened.ensures.round))
    ∙ (relay-sum-is a.plan a.cluster a.number a.uploads.now a.order.now (0 ∷ []) c.requires.0 c.requires.1 c.requires.2 refl).0)
