-- A pool on paper (document 02, Q-8). The promises of `open`, `next_line` and `refused_line` (simulation) are `input_code`, `run_in`, `next_line`, `next_run` and
-- so on, which the statements name; that of `try_round` (trials) is below them. The program `simulate` opens what it reads, and writes the line of a refused
-- input or the run's lines. That it does is not proved, as no contract says what is read or written: `written` has the same calls in the same order.
use Rattle.std.specs.Prelude.{ℕ, zero, suc, ◌+◌, ◌*◌, ◌≤◌, ◌<◌, ◌≡◌, List, [], ◌∷◌, ◌++◌, pos, take}
use Rattle.refusals.specs.declared.Code.{Code}
use Rattle.refusals.specs.declared.Refusal.{Refusal}
use Rattle.refusals.specs.Codes.{code, accepted, code_of, first_of, if_accepted}
use Rattle.lists.specs.Lists.{join_to}
use Rattle.secrecy.specs.Model.{relay_sum, ZeroSum}
use Rattle.plans.specs.declared.Plan.{Plan}
use Rattle.plans.specs.Plans.{users_of}
use Rattle.vetting.specs.Pools.{pool_of}
use Rattle.texts.specs.declared.Line.{Line}
use Rattle.texts.specs.Texts.{decimal}
use Rattle.simulation.specs.declared.Run.{Run}
use Rattle.trials.specs.Generator.{stepped_by, value_at}
use Rattle.trials.specs.Trials.{source_key, readings, last_sender, first_sum, true_sum, shown_total, trial_checks}
use Rattle.simulation.specs.Runs.{trial_line, cap_in, rounds_in, plan_in, table_in, input_code, printed}
use Rattle.simulation.specs.Steps.{run_in, line_code, next_line, next_run, refused_line}

-- "It starts from s = 1 (first value 16,838)"
abbrev pub FirstValue : Type 0
FirstValue = ◌≡◌ {A = ℕ} (value_at 1 0) 16838

-- "gateway 1's sum": document 000's (26), of the readings and the key symbols that were drawn
abbrev pub FirstSumIs : Type 0
FirstSumIs = (P : Plan) (K : List ℕ) (m s : ℕ) → first_sum P K m s ≡ relay_sum (pool_of P K) 1 (readings P K m s) (source_key P K m s) 0 0

-- "Where demand 2 gives the total, the shown one equals the true sum of the readings.": under a zero-sum table, of every round on paper
abbrev pub PaperIsTrue : Type 0
PaperIsTrue =
    (P : Plan) (K : List ℕ) (m s : ℕ) → accepted ≡ first_of (trial_checks P K m) → ZeroSum (pool_of P K) → shown_total P K m s ≡ pos (true_sum P K m s)

-- an input that is not refused
module _ (B : List ℕ) (taken : accepted ≡ input_code B) where
  -- "true sum (of the readings alone), shown total": in every line, whatever its number and the generator's state before it, the two last numbers are one
  abbrev pub LastTwoEqual : Type 0
  LastTwoEqual =
      (number s : ℕ)
      → (shown_total (plan_in B) (table_in B) (cap_in B) s ≡ pos (true_sum (plan_in B) (table_in B) (cap_in B) s))
      × (trial_line (plan_in B) (table_in B) (cap_in B) number s
      ≡ decimal number
      ++ 0x20 ∷ decimal (last_sender (plan_in B) (table_in B) (cap_in B) s)
      ++ 0x20 ∷ decimal (first_sum (plan_in B) (table_in B) (cap_in B) s)
      ++ 0x20 ∷ decimal (true_sum (plan_in B) (table_in B) (cap_in B) s)
      ++ 0x20 ∷ decimal (true_sum (plan_in B) (table_in B) (cap_in B) s)
      ++ (0x0a ∷ []))

  -- "It prints one line a round", "and numbers rounds from 1": the lines in their order. In each round R + U × V + U × V values are drawn, "a sender is drawn
  -- even when one meter is left", and the next round goes on from there
  abbrev pub state_before : ℕ → ℕ
  state_before k = stepped_by (k * ((plan_in B).rate + users_of (plan_in B) + users_of (plan_in B))) 1

  abbrev pub OneLineARound : Type 0
  OneLineARound = printed B ≡ join_to (rounds_in B) (λ k. trial_line (plan_in B) (table_in B) (cap_in B) (1 + k) (state_before k))

-- "Refused input prints its number alone."
abbrev pub NumberAlone : Type 0
NumberAlone = (B : List ℕ) (r : Refusal) → code_of r ≡ input_code B → printed B ≡ decimal (code_of r).number ++ (0x0a ∷ [])

-- ---- the calls, one after the other

-- the bytes of a line
abbrev pub bytes_in : Line → List ℕ
bytes_in l = take l.length l.text

-- so many lines of a run, each from the run that the one before it left, and the run after them
unfoldable pub lines_of : ℕ → Run → List ℕ
lines_of zero R = []
lines_of (suc n) R = bytes_in (next_line R) ++ lines_of n (next_run R)

unfoldable pub run_after : ℕ → Run → Run
run_after zero R = R
run_after (suc n) R = run_after n (next_run R)

-- what the calls of the program give, one after the other
abbrev pub written : List ℕ → List ℕ
written B = if_accepted (input_code B) (lines_of (run_in B).rounds (run_in B)) (bytes_in (refused_line (input_code B)))

-- line by line it is what `printed` says of the whole, whatever the input, refused or not
abbrev pub WritesPrinted : Type 0
WritesPrinted = (B : List ℕ) → written B ≡ printed B

-- none of these lines is refused, and after the last round there is none: 18
abbrev pub EveryLineGiven : Type 0
EveryLineGiven =
    (B : List ℕ) → accepted ≡ input_code B
    → ((k : ℕ) → k < rounds_in B → accepted ≡ line_code (run_after k (run_in B))) × (line_code (run_after (rounds_in B) (run_in B)) ≡ code 18)

-- and a line's 56 places have room for each, whatever run or code is handed over
abbrev pub RoomForLines : Type 0
RoomForLines = ((R : Run) → (next_line R).length ≤ 56) × ((c : Code) → (refused_line c).length ≤ 56)
