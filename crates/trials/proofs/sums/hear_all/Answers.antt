-- The invariant: those who have sent and those who are still to send, from the round as it is now, are all of them from the opening.
use mathlib.Core.Path.{sym, ap, ◌∙◌}
use mathlib.Core.List.{List}
use Prim.Native.Nat.{ℕ, ◌+◌}
use native.Mathlib.Numerals.{add-one}
use lib.ListN.{drop}
use lib.Seq.{drop-cons}
use Rattle.lists.specs.Lists.{at}
use Rattle.rounds.specs.declared.RelayRound.{RelayRound}
use Rattle.trials.specs.Drawing.{heard_from, run_from}
use Rattle.trials.proofs.DrawLaws.{none_left}
use Rattle.trials.proofs.sums.hear_all.Goals as goal

pub loop-user-preserved : goal.loop-user-preserved
unfolding run_from
loop-user-preserved c =
    let s = c.loop-user in
    let a = c.args in
    let L : List ℕ = a.order.now in
    let run : RelayRound → List ℕ → RelayRound = run_from a.plan a.cluster a.number a.uploads.now in
    let next : RelayRound = heard_from a.plan a.cluster a.number a.uploads.now s.round (at L s.user-index) in
    ap (λ (R : RelayRound). run R (drop (s.user-index + 1) L)) c.hear-round.ensures
    ∙ ap (λ (n : ℕ). run next (drop n L)) (add-one s.user-index)
    ∙ sym (ap (run s.round) (drop-cons L s.user-index 0 c.loop-user-test.true))
    ∙ s.invariant

pub returns : goal.returns
unfolding run_from
returns c =
    let s = c.loop-user in
    let a = c.args in
    let L : List ℕ = a.order.now in
    let run : RelayRound → List ℕ → RelayRound = run_from a.plan a.cluster a.number a.uploads.now in
    sym (ap (run s.round) (none_left s.user-index L c.loop-user-test.false)) ∙ s.invariant
