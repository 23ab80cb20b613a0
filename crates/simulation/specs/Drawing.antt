-- What the private functions of a run compute. Nothing here has to be believed: proofs tie it to Runs and Steps.
use Rattle.std.specs.Prelude.{ℕ, ◌+◌, not, List, [], ◌∷◌, ◌++◌}
use Rattle.refusals.specs.declared.Code.{Code}
use Rattle.refusals.specs.Codes.{code, first_of}
use Rattle.lists.specs.Lists.{zeros}
use Rattle.plans.specs.declared.Plan.{Plan}
use Rattle.signed.specs.Caps.{cap_fits}
use Rattle.vetting.specs.Vet.{vet_checks}
use Rattle.records.specs.Records.{plan_read, table_read, read_checks, padded}
use Rattle.texts.specs.Texts.{decimal, signed_decimal}
use Rattle.simulation.specs.declared.Run.{Run}
use Rattle.trials.specs.declared.Trial.{Trial}

-- ---- a line, and the run after it

abbrev pub text_of : ℕ → Trial → List ℕ
text_of number t =
    decimal number
    ++ 0x20 ∷ decimal t.last
    ++ 0x20 ∷ decimal t.first
    ++ 0x20 ∷ decimal t.sum
    ++ 0x20 ∷ signed_decimal t.shown
    ++ (0x0a ∷ [])

abbrev pub later_run : Run → ℕ → Run
later_run R s = record { plan = R.plan; table = R.table; cap = R.cap; rounds = R.rounds; number = R.number + 1; state = s }

-- ---- opening: 16 and the vet's; the record's before them

abbrev pub judge_code : Plan → List ℕ → ℕ → Code
judge_code P K m = first_of ((not (cap_fits P m), code 16) ∷ vet_checks P K)

abbrev pub record_code : List ℕ → ℕ → Code
record_code B m =
    first_of (read_checks B (zeros 256) ++ (not (cap_fits (plan_read B) m), code 16) ∷ vet_checks (plan_read B) (table_read B))

abbrev pub record_run : List ℕ → ℕ → ℕ → Run
record_run B m rounds =
    record { plan = plan_read B; table = padded (table_read B); cap = m; rounds = rounds; number = 1; state = 1 }
