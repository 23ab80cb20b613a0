-- A run of rounds on paper, one line at a time: what is known after the opening, and what the next line makes of it. Runs says what all lines together are.
use Rattle.std.specs.Prelude.{ℕ, ◌+◌, ◌*◌, Bool, not, ◌&&◌, List, [], ◌∷◌, ◌++◌, leb, take}
use Rattle.refusals.specs.declared.Code.{Code}
use Rattle.refusals.specs.Codes.{code, first_of, if_accepted}
use Rattle.lists.specs.Lists.{zeros}
use Rattle.plans.specs.declared.Plan.{Plan}
use Rattle.plans.specs.Plans.{users_of, no_plan}
use Rattle.records.specs.Records.{padded}
use Rattle.texts.specs.declared.Line.{Line}
use Rattle.texts.specs.Texts.{decimal, line_with}
use Rattle.simulation.specs.declared.Opened.{Opened}
use Rattle.simulation.specs.declared.Run.{Run}
use Rattle.trials.specs.Trials.{state_after, trial_checks}
use Rattle.simulation.specs.Runs.{cap_in, rounds_in, plan_in, table_in, input_code, trial_line}

-- a plan, its table with 0 past it, a cap, how many rounds there are, the next one's number and the generator's state before it
abbrev pub run : Plan → List ℕ → ℕ → ℕ → ℕ → ℕ → Run
run P table m rounds number s = record { plan = P; table = table; cap = m; rounds = rounds; number = number; state = s }

abbrev pub no_run : Run
no_run = run no_plan (zeros 256) 0 0 0 0

-- the run that is opened: "It starts from s = 1 (first value 16,838), uses block length 1 and numbers rounds from 1."
abbrev pub run_in : List ℕ → Run
run_in B =
    if_accepted (input_code B) (run (plan_in B) (padded (table_in B)) (cap_in B) (rounds_in B) 1 1) no_run

-- what a run has beside its table before its first round
abbrev pub opened_of : Run → Opened
opened_of R = record { plan = R.plan; cap = R.cap; rounds = R.rounds }

module _ (R : Run) where
  abbrev pub table_of : List ℕ
  table_of = take (users_of R.plan * R.plan.rate) R.table

  -- a run that is handed in may be anything: 18 where its number is none of its rounds, or these are outside 1 to 10,000
  abbrev pub run_checks : List (Bool × Code)
  run_checks =
      (not (leb 1 R.rounds && leb R.rounds 10000 && leb 1 R.number && leb R.number R.rounds), code 18)
      ∷ trial_checks R.plan table_of R.cap

  abbrev pub line_code : Code
  line_code = first_of run_checks

  -- the next line, and the run after it
  abbrev pub next_line : Line
  next_line = if_accepted line_code (line_with (trial_line R.plan table_of R.cap R.number R.state)) (line_with [])

  abbrev pub next_run : Run
  next_run =
      if_accepted line_code
      (run R.plan R.table R.cap R.rounds (R.number + 1) (state_after R.plan table_of R.cap R.state)) R

-- "Refused input prints its number alone."
abbrev pub refused_line : Code → Line
refused_line c = line_with (decimal c.number ++ (0x0a ∷ []))
