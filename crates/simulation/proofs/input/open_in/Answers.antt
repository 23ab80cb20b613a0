use borrow.Author.Tests.{leb-true, le-ltb}
use mathlib.Core.Path.{◌≡◌, sym, ap, ap₂, ◌∙◌}
use mathlib.Core.Bool.{Bool, true, false, cond, not, ◌&&◌}
use mathlib.Core.List.{List}
use Prim.Native.Nat.{ℕ, ◌-◌, ◌≤◌}
use native.Mathlib.Omega.{arith}
use lib.Dec.{leb}
use lib.ListN.{length, take, drop, length-drop}
use lib.Seq.{take_all}
use Rattle.std.proofs.lemmas.Result.{err_from_is_err_and}
use Rattle.refusals.specs.declared.Code.{Code}
use Rattle.refusals.specs.declared.Refusal.TheVariants.{WrongLength, BadRounds}
use Rattle.refusals.specs.Codes.{code, accepted, code_of}
use Rattle.refusals.proofs.CodeLaws.{held, accepted-takes, refused-keeps}
use Rattle.plans.specs.Plans.{no_plan}
use Rattle.records.specs.Records.{plan_read, table_read, padded}
use Rattle.simulation.specs.declared.Opened.{Opened}
use Rattle.simulation.specs.declared.Run.{Run}
use Rattle.simulation.specs.Runs.{cap_in, rounds_in, record_in, plan_in, table_in, input_code}
use Rattle.simulation.specs.Steps.{run, no_run, run_in, opened_of}
use Rattle.simulation.specs.Drawing.{record_code}
use Rattle.simulation.proofs.input.open_in.Goals as goal

-- the order of the input's checks
abbrev ordered : List ℕ → Bool → Bool → Bool → Code
ordered B long short bad = cond long (code 4) (cond short (code 4) (cond bad (code 18) (record_code (record_in B) (cap_in B))))

abbrev bad_rounds : List ℕ → Bool
bad_rounds B = not (leb 1 (rounds_in B) && leb (rounds_in B) 10000)

third : (B : List ℕ) → (h : length B ≤ 65535) → (l : 8 ≤ length B) → ordered B false false (bad_rounds B) ≡ input_code B
third B h l = sym (ap₂ (λ (a b : Bool). ordered B a b (bad_rounds B)) (le-ltb 65535 (length B) h) (le-ltb (length B) 8 l))

rest : (B : List ℕ) → (h : length B ≤ 65535) → (l : 8 ≤ length B) → (leb 1 (rounds_in B) && leb (rounds_in B) 10000) ≡ true
    → record_code (record_in B) (cap_in B) ≡ input_code B
rest B h l e = sym (ap (λ (b : Bool). ordered B false false (not b)) e) ∙ third B h l

-- what stands behind the head, as it is lent
abbrev lent : List ℕ → List ℕ
lent B = take (length B - 8) (drop 8 B)

part : (B : List ℕ) → lent B ≡ record_in B
part B = take_all (length B - 8) (drop 8 B) (omega (arith, length-drop 8 B))

-- the run that is meant
abbrev meant : List ℕ → Run
meant B = run (plan_in B) (padded (table_in B)) (cap_in B) (rounds_in B) 1 1

told : (B : List ℕ) (m r : ℕ) (fit : Bool) → length B ≤ 65535 → 8 ≤ length B → m ≡ cap_in B → r ≡ rounds_in B → fit ≡ (leb 1 r && leb r 10000) → fit ≡ true
    → record_code (lent B) m ≡ input_code B
told B m r fit h l em er e t =
    ap₂ record_code (part B) em ∙ rest B h l (ap (λ (n : ℕ). leb 1 n && leb n 10000) (sym er) ∙ sym e ∙ t)

-- the last exit
pub returns-in_err-plan : goal.returns-in_err-plan
returns-in_err-plan c =
    let B : List ℕ = c.args.bytes.now in
    let m : ℕ = c.number_at-cap.result in
    let r = c.in_err-plan.field-0.0 in
    let h = leb-true (length B) 65535 (held (leb (length B) 65535) tt WrongLength c.in_ok-refuse_unless.ensures) in
    let l = leb-true 8 (length B) (held (leb 8 (length B)) tt WrongLength c.in_ok-refuse_unless-2.ensures) in
    let here : code_of r ≡ record_code (lent B) m = c.in_err-plan.ensures.code in
    let all : code_of r ≡ input_code B =
    here
    ∙ told B m c.number_at-rounds.result c.rounds_fit.result h l c.number_at-cap.ensures c.number_at-rounds.ensures c.rounds_fit.ensures
    (held c.rounds_fit.result tt BadRounds c.in_ok-refuse_unless-3.ensures) in
    let p = err_from_is_err_and c.from_residual-in_err-plan.result c.from_residual-in_err-plan.ensures.1 in
    rw (p.1, p.2) record {
      code = all;
      opened = ap opened_of (sym (refused-keeps (input_code B) (meant B) no_run r all));
      table =
          c.read_judged.ensures.table
          ∙ refused-keeps (record_code (lent B) m) (padded (table_read (lent B))) c.args.table.now r here
          ∙ sym (refused-keeps (input_code B) (run_in B).table c.args.table.now r all);
    }

pub returns : goal.returns
returns c =
    let B : List ℕ = c.args.bytes.now in
    let m : ℕ = c.number_at-cap.result in
    let n : ℕ = c.number_at-rounds.result in
    let h = leb-true (length B) 65535 (held (leb (length B) 65535) tt WrongLength c.in_ok-refuse_unless.ensures) in
    let l = leb-true 8 (length B) (held (leb 8 (length B)) tt WrongLength c.in_ok-refuse_unless-2.ensures) in
    let here : accepted ≡ record_code (lent B) m = c.in_ok-plan.ensures.code in
    let cap-read : m ≡ cap_in B = c.number_at-cap.ensures in
    let rounds-read : n ≡ rounds_in B = c.number_at-rounds.ensures in
    let all : accepted ≡ input_code B =
    here
    ∙ told B m n c.rounds_fit.result h l cap-read rounds-read c.rounds_fit.ensures
    (held c.rounds_fit.result tt BadRounds c.in_ok-refuse_unless-3.ensures) in
    let run-is : run_in B ≡ meant B = accepted-takes (input_code B) (meant B) no_run all in
    let plan-is : c.in_ok-plan.plan ≡ plan_in B =
    c.in_ok-plan.ensures.plan ∙ accepted-takes (record_code (lent B) m) (plan_read (lent B)) no_plan here ∙ ap plan_read (part B) in
    let opened-is : ◌≡◌ {A = Opened} (record { plan = c.in_ok-plan.plan; cap = m; rounds = n }) (opened_of (meant B)) =
    λ i. record { plan = plan-is i; cap = cap-read i; rounds = rounds-read i } in
    record {
      code = all;
      opened = opened-is ∙ sym (ap opened_of run-is);
      table =
          c.read_judged.ensures.table
          ∙ accepted-takes (record_code (lent B) m) (padded (table_read (lent B))) c.args.table.now here
          ∙ ap (λ (x : List ℕ). padded (table_read x)) (part B)
          ∙ sym (ap (λ (R : Run). R.table) run-is)
          ∙ sym (accepted-takes (input_code B) (run_in B).table c.args.table.now all);
    }
