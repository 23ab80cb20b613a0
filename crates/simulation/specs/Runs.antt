-- What the program `simulate` prints, from the bytes that it reads: "The program reads m and the number of rounds, four bytes each, low first, and takes the
-- rest as the buffer of a plan record."
use Rattle.std.specs.Prelude.{ℕ, zero, suc, Bool, not, ◌&&◌, List, [], ◌∷◌, ◌++◌, leb, ltb, length, drop}
use Rattle.refusals.specs.declared.Code.{Code}
use Rattle.refusals.specs.Codes.{code, first_of, if_accepted}
use Rattle.lists.specs.Lists.{zeros}
use Rattle.plans.specs.declared.Plan.{Plan}
use Rattle.numerals.specs.Bytes.{number_at}
use Rattle.records.specs.Records.{plan_read, table_read, read_checks}
use Rattle.vetting.specs.Vet.{vet_checks}
use Rattle.signed.specs.Caps.{cap_fits}
use Rattle.texts.specs.Texts.{decimal, signed_decimal}
use Rattle.trials.specs.Trials.{last_sender, first_sum, true_sum, shown_total, state_after}

-- ---- a line: numbers, "with single spaces"

-- "round number, last sender's index, gateway 1's sum, true sum (of the readings alone), shown total"
abbrev pub trial_line : Plan → List ℕ → ℕ → ℕ → ℕ → List ℕ
trial_line P K m number s =
    decimal number
    ++ 0x20 ∷ decimal (last_sender P K m s)
    ++ 0x20 ∷ decimal (first_sum P K m s)
    ++ 0x20 ∷ decimal (true_sum P K m s)
    ++ 0x20 ∷ signed_decimal (shown_total P K m s)
    ++ (0x0a ∷ [])

-- "It prints one line a round": so many rounds, from this number and state on
unfoldable pub lines_from : Plan → List ℕ → ℕ → ℕ → ℕ → ℕ → List ℕ
lines_from P K m zero number s = []
lines_from P K m (suc n) number s = trial_line P K m number s ++ lines_from P K m n (suc number) (state_after P K m s)

-- ---- the input

module _ (B : List ℕ) where
  abbrev pub cap_in : ℕ
  cap_in = number_at 4 B 0

  abbrev pub rounds_in : ℕ
  rounds_in = number_at 4 B 4

  abbrev pub record_in : List ℕ
  record_in = drop 8 B

  abbrev pub plan_in : Plan
  plan_in = plan_read record_in

  abbrev pub table_in : List ℕ
  table_in = table_read record_in

  -- "For every program, input above 65,535 bytes is 4, before all else."; "Input under eight bytes is 4, before all else; 18 when the number of rounds is
  -- outside 1 to 10,000, next; 16 comes between the record's checks and the vet's."
  abbrev pub input_checks : List (Bool × Code)
  input_checks =
      (ltb 65535 (length B), code 4)
      ∷ (ltb (length B) 8, code 4)
      ∷ (not (leb 1 rounds_in && leb rounds_in 10000), code 18)
      ∷ read_checks record_in (zeros 256)
      ++ (not (cap_fits plan_in cap_in), code 16)
      ∷ vet_checks plan_in table_in

  abbrev pub input_code : Code
  input_code = first_of input_checks

  -- "It starts from s = 1 (first value 16,838), uses block length 1 and numbers rounds from 1."; "Refused input prints its number alone."
  abbrev pub printed : List ℕ
  printed = if_accepted input_code (lines_from plan_in table_in cap_in rounds_in 1 1) (decimal input_code.number ++ (0x0a ∷ []))
