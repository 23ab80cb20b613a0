use mathlib.Core.Path.{◌≡◌, sym, ap, ap₂, ◌∙◌}
use mathlib.Core.Bool.{true}
use mathlib.Core.List.{List, ◌++◌}
use Prim.Native.Nat.{ℕ, ◌+◌, ◌-◌, ◌≤◌}
use native.Mathlib.Omega.{arith}
use Rattle.lists.specs.Lists.{zeros}
use Rattle.numerals.specs.Bytes.{numbers_at}
use Rattle.numerals.proofs.Bytes.{length-numbers}
use Rattle.numerals.proofs.Rows.{row_read}
use Rattle.refusals.specs.Codes.{accepted}
use Rattle.refusals.proofs.CodeLaws.{accepted-takes}
use Rattle.plans.specs.Plans.{in_bounds, no_plan}
use Rattle.records.specs.Records.{plan_read, table_read, read_code, padded}
use Rattle.records.proofs.RecordChecks.{Readable, readable, read-numbers, numbers-inside}
use Rattle.records.proofs.PlanSizes.{bounded}
use Rattle.records.proofs.Widths.{told-few}
use Rattle.records.proofs.read_record.Goals as goal

pub returns-clause-table : goal.returns-clause-table
returns-clause-table c =
    let buffer : List ℕ = c.args.bytes.now in
    let told : accepted ≡ read_code buffer c.args.table.now = c.in_ok-plan.ensures.code in
    let passed : Readable buffer c.args.table.now = readable buffer c.args.table.now told in
    let plan-is : c.in_ok-plan.plan ≡ plan_read buffer = c.in_ok-plan.ensures.plan
    ∙ accepted-takes (read_code buffer c.args.table.now) (plan_read buffer) no_plan told in
    let in-range : in_bounds c.in_ok-plan.plan ≡ true = ap in_bounds plan-is ∙ passed.bounds in
    let few : c.width_in-width.result ≤ 4 = omega (arith, c.width_in-width.ensures, told-few buffer) in
    let filled : (let w : ℕ = c.width_in-width.result in c.read_numbers.new.table ≡ padded (numbers_at w c.symbols.result buffer (c.start_in.result + 4 + w))) = let w : ℕ = c.width_in-width.result in
    let K : List ℕ = numbers_at w c.symbols.result buffer (c.start_in.result + 4 + w) in
    let count : c.symbols.result ≤ 256 = omega (arith, c.symbols.ensures, (bounded c.in_ok-plan.plan in-range).symbols) in
    row_read _ _ _ buffer c.args.table.now c.read_numbers.new.table few
    (numbers-inside buffer c.in_ok-plan.plan _ _ _ plan-is c.width_in-width.ensures c.symbols.ensures
    c.start_in.ensures passed.trailer passed.size)
    (omega (arith, passed.lent))
    c.read_numbers.ensures
    ∙ ap (λ (m : ℕ). K ++ zeros m)
    (ap₂ ◌-◌ passed.lent (sym (length-numbers w c.symbols.result buffer (c.start_in.result + 4 + w)))) in
    let B : List ℕ = buffer in
    let out : List ℕ = c.args.table.now in
    let numbers = read-numbers B c.in_ok-plan.plan _ _ _ plan-is c.width_in-width.ensures
    c.symbols.ensures c.start_in.ensures in
    filled ∙ ap padded numbers ∙ sym (accepted-takes (read_code B out) (padded (table_read B)) out told)
