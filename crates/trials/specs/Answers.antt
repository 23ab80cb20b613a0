-- What a round on paper answers: a refusal, or what Trials says of the round.
use Rattle.std.specs.Prelude.{ℕ, List, pos}
use Rattle.plans.specs.declared.Plan.{Plan}
use Rattle.trials.specs.declared.Trial.{Trial}
use Rattle.trials.specs.Trials.{last_sender, first_sum, true_sum, shown_total, state_after}

abbrev pub trial_of : Plan → List ℕ → ℕ → ℕ → Trial
trial_of P K m s =
    record {
      last = last_sender P K m s;
      first = first_sum P K m s;
      sum = true_sum P K m s;
      shown = shown_total P K m s;
      state = state_after P K m s;
    }

-- what a refusal tells of the round
abbrev pub no_trial : Trial
no_trial = record { last = 0; first = 0; sum = 0; shown = pos 0; state = 0 }
