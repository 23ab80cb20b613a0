use Rattle.std.specs.Prelude.{Result, Ok, Err}
use Rattle.std.proofs.lemmas.Result.{err_from_is_err_and}
use borrow.Author.Tests.{leb-true, le-ltb}
use mathlib.Core.Path.{◌≡◌, sym, ap, ap₂, ◌∙◌}
use mathlib.Core.Bool.{Bool, true, cond}
use mathlib.Core.List.{List, ◌++◌}
use Prim.Native.Nat.{ℕ, ◌+◌, ◌-◌, ◌*◌, ◌≤◌}
use native.Mathlib.Omega.{arith}
use lib.Dec.{leb}
use lib.ListN.{length, take, length-append}
use lib.Seq.{take-append_seam}
use Rattle.refusals.specs.declared.Code.{Code}
use Rattle.refusals.specs.declared.Refusal.{Refusal}
use Rattle.refusals.specs.Codes.{accepted, code, first_of}
use Rattle.refusals.specs.declared.Refusal.TheVariants.{WrongLength}
use Rattle.refusals.proofs.CodeLaws.{accepted-takes, held}
use Rattle.lists.specs.Lists.{zeros}
use Rattle.plans.specs.declared.Plan.{Plan}
use Rattle.plans.specs.Plans.{users_of, in_bounds, no_plan}
use Rattle.vetting.specs.Vet.{vet_checks, vet_code}
use Rattle.records.specs.Records.{width_in, start, plan_read, table_read, read_checks, read_code, padded}
use Rattle.reports.specs.Program.{program_code}
use Rattle.refusals.proofs.Orders.{first-refuses, rest-decides}
use Rattle.records.proofs.RecordChecks.{Readable, readable}
use Rattle.numerals.proofs.Bytes.{length-numbers}
use Rattle.plans.proofs.PlanBounds.{Bounds, bounds-known, few-numbers}
use Rattle.reports.proofs.vet_record.Goals as goal
use Rattle.reports.proofs.vet_record.Goals.{In_ok-plan}

-- an input that is not too long
short : (B lent : List ℕ) → lent ≡ zeros 256 → length B ≤ 65535 → first_of (read_checks B lent ++ vet_checks (plan_read B) (table_read B)) ≡ program_code B
short B lent e h =
    let rest : List ℕ → Code = λ l. first_of (read_checks B l ++ vet_checks (plan_read B) (table_read B)) in
    ap rest e ∙ ap (λ (b : Bool). cond b (code 4) (rest (zeros 256))) (sym (le-ltb 65535 (length B) h))

-- the first check asked it
within : {n : ℕ} → ◌≡◌ {A = Result (Unit {0}) Refusal} (Ok tt) (cond (leb n 65535) (Ok tt) (Err WrongLength)) → n ≤ 65535
within {n} e = leb-true n 65535 (held (leb n 65535) tt WrongLength e)

-- ---- what the reader says

module _ (c : In_ok-plan) where
  abbrev B : List ℕ
  B = c.args.bytes.now

  -- the table that was lent, and what it holds then
  abbrev lent : List ℕ
  lent = c.empty_table-table.result

  abbrev filled : List ℕ
  filled = c.read_record.new.table

  told : accepted ≡ read_code B lent
  told = c.in_ok-plan.ensures.code

  passed : Readable B lent
  passed = readable B lent told

  plan-is : c.in_ok-plan.plan ≡ plan_read B
  plan-is =
      c.in_ok-plan.ensures.plan ∙ accepted-takes (read_code B lent) (plan_read B) no_plan told

  table_is : filled ≡ padded (table_read B)
  table_is =
      c.read_record.ensures.table ∙ accepted-takes (read_code B lent) (padded (table_read B)) lent told

  in-range : in_bounds c.in_ok-plan.plan ≡ true
  in-range = ap in_bounds plan-is ∙ passed.bounds

  -- the first symbols of what it holds
  abbrev n : ℕ
  n = users_of c.in_ok-plan.plan * c.in_ok-plan.plan.rate

  known : Bounds c.in_ok-plan.plan
  known = bounds-known c.in_ok-plan.plan in-range

  whole : n ≡ length (table_read B)
  whole =
      ap (λ (X : Plan). users_of X * X.rate) plan-is
      ∙ sym (length-numbers (width_in B) (users_of (plan_read B) * (plan_read B).rate) B (start B + 4 + width_in B))

  part-is : take n filled ≡ table_read B
  part-is = ap₂ (λ (k : ℕ) (l : List ℕ). take k l) whole table_is ∙ take-append_seam (table_read B) (zeros (256 - length (table_read B)))

  inside : n ≤ length filled
  inside =
      omega (arith, whole, ap length table_is, length-append (table_read B) (zeros (256 - length (table_read B))))

  part_length : n ≡ length (take n filled)
  part_length = whole ∙ sym (ap length part-is)

  vetted : (v : Code) → v ≡ vet_code c.in_ok-plan.plan (take n filled) → v ≡ first_of (read_checks B lent ++ vet_checks (plan_read B) (table_read B))
  vetted v e =
      e ∙ ap₂ vet_code plan-is part-is
      ∙ rest-decides (read_checks B lent) (vet_checks (plan_read B) (table_read B)) tt told

pub overflow_mul-n-2 : goal.overflow_mul-n-2
overflow_mul-n-2 c = omega (arith, few-numbers (known (goal.at.overflow_mul-n-2 c).In_ok-plan))

pub slice_bounds-table-end : goal.slice_bounds-table-end
slice_bounds-table-end c = inside (goal.at.slice_bounds-table-end c).In_ok-plan

pub slice_bounds-vet-end : goal.slice_bounds-vet-end
slice_bounds-vet-end c = part_length (goal.at.slice_bounds-vet-end c).In_ok-plan

pub returns-in_err-plan : goal.returns-in_err-plan
returns-in_err-plan c =
    let bytes : List ℕ = c.args.bytes.now in
    let p = err_from_is_err_and c.from_residual-in_err-plan.result c.from_residual-in_err-plan.ensures.1 in
    rw (p.1, p.2)
    (first-refuses (read_checks bytes c.empty_table-table.result) (vet_checks (plan_read bytes) (table_read bytes)) c.in_err-plan.field-0.0
    c.in_err-plan.ensures.code
    ∙ short bytes c.empty_table-table.result c.empty_table-table.ensures (within c.in_ok-refuse_unless.ensures))

pub returns : goal.returns
returns c =
    let p = (goal.at.returns c).In_ok-plan in
    vetted p _ c.vet.ensures ∙ short (B p) (lent p) p.empty_table-table.ensures (within p.in_ok-refuse_unless.ensures)
