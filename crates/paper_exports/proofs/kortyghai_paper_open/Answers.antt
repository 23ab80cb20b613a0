use mathlib.Core.Path.{◌≡◌, sym, ap, ◌∙◌, subst}
use mathlib.Core.Bool.{Bool, not, ◌&&◌}
use mathlib.Core.List.{List, [], ◌∷◌, ◌++◌}
use Prim.Native.Nat.{ℕ}
use lib.Dec.{leb, ltb}
use lib.ListN.{length}
use Rattle.refusals.specs.declared.Code.{Code}
use Rattle.refusals.specs.Codes.{accepted, code}
use Rattle.refusals.proofs.CodeLaws.{accepted-takes}
use Rattle.refusals.proofs.Orders.{first-accepts, rest-decides}
use Rattle.lists.specs.Lists.{zeros}
use Rattle.plans.proofs.PlanBounds.{bounds-known}
use Rattle.records.specs.Records.{read_checks, read_code, padded}
use Rattle.records.proofs.RecordChecks.{readable}
use Rattle.vetting.specs.Vet.{vet_checks}
use Rattle.signed.specs.Caps.{cap_fits}
use Rattle.simulation.specs.declared.Opened.{Opened}
use Rattle.simulation.specs.declared.Run.{Run}
use Rattle.simulation.specs.Runs.{cap_in, rounds_in, record_in, plan_in, table_in, input_code}
use Rattle.simulation.specs.Steps.{run, no_run, run_in}
use Rattle.boundary.proofs.SmallPlans.{Small, small}
use Rattle.paper_exports.specs.States.{numbers_of}
use Rattle.paper_exports.proofs.kortyghai_paper_open.Goals as goal

-- an input that is accepted has a record that can be read, and so a plan of small numbers
abbrev front : (B : List ℕ) → (ok : accepted ≡ input_code B) → List (Bool × Code)
front B ok =
    (ltb 65535 (length B), code 4)
    ∷ (ltb (length B) 8, code 4)
    ∷ (not (leb 1 (rounds_in B) && leb (rounds_in B) 10000), code 18)
    ∷ []

abbrev last : (B : List ℕ) → (ok : accepted ≡ input_code B) → List (Bool × Code)
last B ok = (not (cap_fits (plan_in B) (cap_in B)), code 16) ∷ vet_checks (plan_in B) (table_in B)

abbrev record-checks : (B : List ℕ) → (ok : accepted ≡ input_code B) → List (Bool × Code)
record-checks B ok = read_checks (record_in B) (zeros 256)

can-be-read : (B : List ℕ) → (ok : accepted ≡ input_code B) → accepted ≡ read_code (record_in B) (zeros 256)
can-be-read B ok =
    first-accepts (record-checks B ok) (last B ok) tt
    (ok ∙ sym (rest-decides (front B ok) ((record-checks B ok) ++ (last B ok)) tt (first-accepts (front B ok) ((record-checks B ok) ++ (last B ok)) tt ok)))

run_is : (B : List ℕ) → (ok : accepted ≡ input_code B) → run_in B ≡ run (plan_in B) (padded (table_in B)) (cap_in B) (rounds_in B) 1 1
run_is B ok = accepted-takes (input_code B) (run (plan_in B) (padded (table_in B)) (cap_in B) (rounds_in B) 1 1) no_run ok

plan-small : (B : List ℕ) → (ok : accepted ≡ input_code B) → Small (run_in B).plan
plan-small B ok =
    subst Small (sym (ap (λ (R : Run). R.plan) (run_is B ok)))
    (small (plan_in B) (bounds-known (plan_in B) (readable (record_in B) (zeros 256) (can-be-read B ok)).bounds))

pub counts_of-counts-requires : goal.counts_of-counts-requires
counts_of-counts-requires c =
    subst Small (sym (ap (λ (O : Opened). O.plan) c.in-Ok.ensures.opened)) (plan-small c.args.bytes.now c.in-Ok.ensures.code)

pub returns-in-Ok-clause-run : goal.returns-in-Ok-clause-run
returns-in-Ok-clause-run c =
    let B : List ℕ = c.args.bytes.now in
    let ok : accepted ≡ input_code B = c.in-Ok.ensures.code in
    ap (λ (O : Opened). O.cap ∷ O.rounds ∷ 1 ∷ 1 ∷ []) c.in-Ok.ensures.opened
    ∙ ap (λ (R : Run). R.cap ∷ R.rounds ∷ 1 ∷ 1 ∷ []) (run_is B ok)
    ∙ sym (ap numbers_of (run_is B ok))
    ∙ sym (accepted-takes (input_code B) (numbers_of (run_in B)) c.args.run.now ok)
