use mathlib.Core.Path.{◌≡◌, sym, ap, ap₂, ◌∙◌, subst}
use mathlib.Core.Bool.{Bool, true, not}
use mathlib.Core.List.{List, ◌∷◌, ◌++◌}
use Prim.Native.Nat.{ℕ, ◌*◌}
use lib.ListN.{take}
use Rattle.refusals.specs.declared.Code.{Code}
use Rattle.refusals.specs.Codes.{code, accepted, code_of, first_of}
use Rattle.refusals.proofs.CodeLaws.{accepted-takes, refused-keeps}
use Rattle.refusals.proofs.Orders.{first-refuses, rest-decides}
use Rattle.lists.specs.Lists.{zeros}
use Rattle.residues.specs.Primes.{is_prime}
use Rattle.plans.specs.declared.Plan.{Plan}
use Rattle.plans.specs.Plans.{users_of, in_bounds, no_plan}
use Rattle.vetting.specs.Vet.{vet_checks}
use Rattle.records.specs.Records.{plan_read, table_read, read_checks, read_code, padded}
use Rattle.records.proofs.RecordChecks.{Readable, readable}
use Rattle.signed.specs.Caps.{cap_fits}
use Rattle.simulation.specs.Drawing.{judge_code, record_code}
use Rattle.simulation.proofs.RunLaws.{table-part}
use Rattle.std.proofs.lemmas.Result.{err_from_is_err_and}
use Rattle.simulation.proofs.input.read_judged.Goals as goal
use Rattle.simulation.proofs.input.read_judged.Goals.{In_ok-plan}

-- the checks after the record's
abbrev later : List ℕ → ℕ → List (Bool × Code)
later B m = (not (cap_fits (plan_read B) m), code 16) ∷ vet_checks (plan_read B) (table_read B)

-- ---- what the reader says

module _ (c : In_ok-plan) where
  abbrev B : List ℕ
  B = c.args.bytes.now

  abbrev m : ℕ
  m = c.args.cap

  abbrev lent : List ℕ
  lent = c.empty_table-read.result

  told : accepted ≡ read_code B lent
  told = c.in_ok-plan.ensures.code

  plan-is : c.in_ok-plan.plan ≡ plan_read B
  plan-is = c.in_ok-plan.ensures.plan ∙ accepted-takes (read_code B lent) (plan_read B) no_plan told

  table-is : c.read_record.new.table ≡ padded (table_read B)
  table-is = c.read_record.ensures.table ∙ accepted-takes (read_code B lent) (padded (table_read B)) lent told

  judgeable : (in_bounds c.in_ok-plan.plan ≡ true) × (is_prime c.in_ok-plan.plan.q ≡ true)
  judgeable =
      let passed : Readable B lent = readable B lent told in
      subst (λ (P : Plan). (in_bounds P ≡ true) × (is_prime P.q ≡ true)) (sym plan-is) (passed.bounds, passed.prime)

  judged : judge_code c.in_ok-plan.plan (take (users_of c.in_ok-plan.plan * c.in_ok-plan.plan.rate) c.read_record.new.table) m ≡ record_code B m
  judged =
      ap₂ (λ (P : Plan) (t : List ℕ). judge_code P (take (users_of P * P.rate) t) m) plan-is table-is
      ∙ ap (λ (t : List ℕ). judge_code (plan_read B) t m) (table-part B)
      ∙ rest-decides (read_checks B lent) (later B m) tt told
      ∙ ap (λ (l : List ℕ). first_of (read_checks B l ++ later B m)) c.empty_table-read.ensures

pub judge-requires : goal.judge-requires
judge-requires c = judgeable (goal.at.judge-requires c).In_ok-plan

-- the first exit
pub returns-in_err-plan : goal.returns-in_err-plan
returns-in_err-plan c =
    let B : List ℕ = c.args.bytes.now in
    let m : ℕ = c.args.cap in
    let r = c.in_err-plan.field-0.0 in
    let told : code_of r ≡ record_code B m =
    first-refuses (read_checks B (zeros 256)) (later B m) r (c.in_err-plan.ensures.code ∙ ap (read_code B) c.empty_table-read.ensures) in
    let p = err_from_is_err_and c.from_residual.result c.from_residual.ensures.1 in
    rw (p.1, p.2) record {
      code = told;
      plan = sym (refused-keeps (record_code B m) (plan_read B) no_plan r told);
      table = sym (refused-keeps (record_code B m) (padded (table_read B)) c.args.table.now r told);
    }

pub returns-in_err-judge : goal.returns-in_err-judge
returns-in_err-judge c =
    let p = (goal.at.returns-in_err-judge c).In_ok-plan in
    let r = c.in_err-judge.field-0.0 in
    let told : code_of r ≡ record_code (B p) (m p) = c.in_err-judge.ensures ∙ judged p in
    let q = err_from_is_err_and c.from_residual-in_err-judge.result c.from_residual-in_err-judge.ensures.1 in
    rw (q.1, q.2) record {
      code = told;
      plan = sym (refused-keeps (record_code (B p) (m p)) (plan_read (B p)) no_plan r told);
      table = sym (refused-keeps (record_code (B p) (m p)) (padded (table_read (B p))) c.args.table.now r told);
    }

pub returns : goal.returns
returns c =
    let p = (goal.at.returns c).In_ok-plan in
    let told : accepted ≡ record_code (B p) (m p) = c.in_ok-judge.ensures ∙ judged p in record {
      code = told;
      plan = plan-is p ∙ sym (accepted-takes (record_code (B p) (m p)) (plan_read (B p)) no_plan told);
      table = table-is p ∙ sym (accepted-takes (record_code (B p) (m p)) (padded (table_read (B p))) c.args.table.now told);
    }
