-- The program `vet` (document 01, "One small pool"): the bytes of one record in, one line out.
use Rattle.std.specs.Prelude.{ℕ, Bool, List, ◌∷◌, ◌++◌, ltb, length}
use Rattle.refusals.specs.declared.Code.{Code}
use Rattle.refusals.specs.Codes.{code, first_of}
use Rattle.lists.specs.Lists.{zeros}
use Rattle.texts.specs.Texts.{field}
use Rattle.records.specs.Records.{plan_read, table_read, read_checks}
use Rattle.vetting.specs.Vet.{vet_checks}

-- "input above 65,535 bytes is 4, before all else"; then the reader's checks, with a table of its own that is long enough, and the vet's
abbrev pub program_checks : List ℕ → List (Bool × Code)
program_checks B = (ltb 65535 (length B), code 4) ∷ read_checks B (zeros 256) ++ vet_checks (plan_read B) (table_read B)

abbrev pub program_code : List ℕ → Code
program_code B = first_of (program_checks B)

-- number and two details, a space between them, and the line's end
abbrev pub line_of : Code → List ℕ
line_of c = field c.number 0x20 ++ field c.first 0x20 ++ field c.second 0x0a
