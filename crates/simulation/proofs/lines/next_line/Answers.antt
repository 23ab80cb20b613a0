use mathlib.Core.Path.{◌≡◌, sym, ◌∙◌, subst}
use mathlib.Core.Bool.{Bool, true, ◌&&◌}
use Prim.Native.Nat.{◌≤◌, ◌<◌}
use native.Mathlib.Omega.{arith}
use lib.Dec.{leb, leb→le}
use Rattle.refusals.specs.declared.Code.{Code}
use Rattle.refusals.specs.Codes.{accepted, first_of}
use Rattle.refusals.specs.declared.Refusal.TheVariants.{BadRounds}
use Rattle.refusals.proofs.CodeLaws.{accepted-takes, held}
use Rattle.lists.proofs.Searches.{true→T, T_and}
use Rattle.simulation.specs.declared.Run.{Run}
use Rattle.trials.specs.declared.Trial.{Trial}
use Rattle.trials.specs.Trials.{trial_checks}
use Rattle.trials.specs.Answers.{trial_of, no_trial}
use Rattle.simulation.specs.Steps.{table_of}
use Rattle.trials.proofs.TrialLaws.{known, last-small}
use Rattle.simulation.proofs.lines.next_line.Goals as goal

-- the test of the round's number, what comes after it, and the trial that is meant
abbrev in_run : Run → Bool
in_run R = leb 1 R.rounds && leb R.rounds 10000 && leb 1 R.number && leb R.number R.rounds

abbrev own : Run → Code
own R = first_of (trial_checks R.plan (table_of R) R.cap)

abbrev meant : Run → Trial
meant R = trial_of R.plan (table_of R) R.cap R.state

pub advance-requires : goal.advance-requires
advance-requires c =
    let inside : in_run c.args.run.now ≡ true = sym c.has_next.ensures ∙ held c.has_next.result tt BadRounds c.in_ok-refuse_unless.ensures in
    let R : Run = c.args.run.now in
    let told : accepted ≡ own R = c.in_ok-trial.ensures.code in
    let trial-is : c.in_ok-trial.trial ≡ meant R = c.in_ok-trial.ensures.trial ∙ accepted-takes (own R) (meant R) no_trial told in
    let small : (meant R).last < 4294967296 = omega (
      arith,
      last-small R.plan (table_of R) R.cap R.state told,
      (known R.plan (table_of R) R.cap R.state told).counts.few-users,
    ) in
    let few : R.number ≤ 10000 = let (a, last) = T_and (leb 1 R.rounds && leb R.rounds 10000 && leb 1 R.number) (leb R.number R.rounds) (true→T (in_run R) inside) in
    let (b, _) = T_and (leb 1 R.rounds && leb R.rounds 10000) (leb 1 R.number) a in
    let (_, most) = T_and (leb 1 R.rounds) (leb R.rounds 10000) b in
    omega (arith, leb→le R.number R.rounds last, leb→le R.rounds 10000 most) in
    (few, subst (λ (x : Trial). x.last < 4294967296) (sym trial-is) small)
