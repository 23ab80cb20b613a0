-- A pool on paper: the statements of specs/OnPaper.
use Prim.Native.Nat.{ℕ, zero, suc, ◌+◌, ◌-◌, ◌*◌, ◌%◌, ◌≤◌, ◌<◌}
use mathlib.Core.Path.{◌≡◌, refl, sym, ap, ap₂, ◌∙◌}
use mathlib.Core.Bool.{Bool, true, false, cond, not, ◌&&◌}
use mathlib.Core.List.{List, [], ◌∷◌, ◌++◌}
use native.Mathlib.Nat.{mod-eq_of_lt}
use native.Mathlib.Numerals.{add-one}
use native.Mathlib.Omega.{arith}
use lib.Dec.{T, leb, ltb, leb→le}
use lib.IntN.{ℤ, pos, ◌-ℤ◌}
use lib.ListN.{length}
use lib.Seq.{take-append_seam}
use borrow.Author.Tests.{lt-ltb, le-leb, lt-leb, not-false}
use Rattle.refusals.specs.declared.Code.{Code}
use Rattle.refusals.specs.Codes.{code, accepted, is_accepted, first_of}
use Rattle.refusals.proofs.CodeLaws.{accepted-takes, refused-keeps, numbered, none-holds}
use Rattle.refusals.proofs.Orders.{numbered-append, first-accepts, rest-decides, number-accepts}
use Rattle.lists.specs.Lists.{at, zeros}
use Rattle.lists.specs.Sums.{sum_to}
use Rattle.lists.proofs.Searches.{true→T, T_and}
use Rattle.lists.proofs.Sums.{sum-cong}
use Rattle.secrecy.specs.Model.{reading, total}
use Rattle.plans.specs.declared.Plan.{Plan}
use Rattle.plans.specs.Plans.{users_of, table_checks}
use Rattle.vetting.specs.Pools.{pool_of}
use Rattle.vetting.specs.Vet.{column_checks, other_checks, vet_checks, vet_code}
use Rattle.vetting.proofs.ExactSecrecy.{checked, accepted-checked}
use Rattle.vetting.proofs.PlanLaws.{vet-numbered}
use Rattle.records.specs.Records.{read_checks, padded}
use Rattle.signed.specs.Caps.{cap_fits}
use Rattle.signed.specs.Numbers.{shown_of}
use Rattle.signed.proofs.CapLaws.{Cap, cap-known}
use Rattle.texts.specs.Texts.{decimal, signed_decimal, line_with}
use Rattle.texts.proofs.LineLaws.{field-length}
use Rattle.simulation.specs.declared.Run.{Run}
use Rattle.trials.specs.Generator.{stepped_by}
use Rattle.trials.specs.Trials.{source_key, readings, last_sender, first_sum, true_sum, shown_total, state_after, trial_checks}
use Rattle.simulation.specs.Runs.{trial_line, lines_from, cap_in, rounds_in, record_in, plan_in, table_in, input_checks, input_code}
use Rattle.simulation.specs.Steps.{run, no_run, run_in, table_of, line_code, next_line, next_run}
use Rattle.trials.proofs.TrialLaws.{fit, maskable}
use Rattle.simulation.proofs.TextLaws.{text-length}
use Rattle.simulation.proofs.RunLaws.{table-part, later-state, lines-joined}
use Rattle.demands.specs.OnPaper.{FirstValue, FirstSumIs, PaperIsTrue, LastTwoEqual, OneLineARound, NumberAlone, WritesPrinted, EveryLineGiven}
use Rattle.demands.specs.OnPaper.{RoomForLines, bytes_in, lines_of, run_after, state_before}
use Rattle.demands.proofs.Totals.{relays-total}

pub first-value : FirstValue
unfolding stepped_by
first-value = refl

pub first-sum-is : FirstSumIs
first-sum-is P K m s = refl

-- a sum of numbers up to m
sum-most : (n m : ℕ) (f : ℕ → ℕ) → ((i : ℕ) → f i ≤ m) → sum_to n f ≤ n * m
unfolding sum_to
sum-most zero m f h = omega arith
sum-most (suc n) m f h = omega (arith, sum-most n m f h, h n)

pub paper-is-true : PaperIsTrue
unfolding total reading
paper-is-true P K m s e zs =
    let W : List ℕ = readings P K m s in
    let N : List ℕ = source_key P K m s in
    let n : ℕ = users_of P in
    let X : ℕ = sum_to n (at W) in
    let cap : Cap n P.q m = cap-known P m (fit P K m s e).cap in
    let most : X ≤ n * m = sum-most n m (at W) (maskable P K m s e).inside in
    let room : 2 * X < P.q = omega (arith, cap.room) in
    let alone : sum_to n (λ i. at W (i * 1 + 0)) ≡ X = sum-cong n (λ i. at W (i * 1 + 0)) (at W) (λ i h. let d : i * 1 + 0 ≡ i = omega arith in ap (at W) d) in
    ap (shown_of P.q) (relays-total (pool_of P K) 1 W N zs 0 ∙ ap (λ (x : ℕ). x % P.q) alone ∙ mod-eq_of_lt (omega arith))
    ∙ ap (λ (b : Bool). cond b (pos X) (pos X -ℤ pos P.q)) (lt-ltb (2 * X) P.q room)

-- the input's own checks and the record's, then 16, then the vet's
module _ (B : List ℕ) where
  abbrev front : List (Bool × Code)
  front =
      (ltb 65535 (length B), code 4)
      ∷ (ltb (length B) 8, code 4)
      ∷ (not (leb 1 (rounds_in B) && leb (rounds_in B) 10000), code 18)
      ∷ read_checks (record_in B) (zeros 256)

  abbrev cap_check : List (Bool × Code)
  cap_check = (not (cap_fits (plan_in B) (cap_in B)), code 16) ∷ []

  abbrev vet : List (Bool × Code)
  vet = vet_checks (plan_in B) (table_in B)

  all-numbered : T (numbered (input_checks B))
  all-numbered = numbered-append (front ++ cap_check) vet tt (vet-numbered (plan_in B) (table_in B))

-- an accepted input: its plan and cap are good, and its table is a zero-sum table
module _ (B : List ℕ) (e : accepted ≡ input_code B) where
  abbrev P : Plan
  P = plan_in B

  abbrev K : List ℕ
  K = table_in B

  abbrev m : ℕ
  m = cap_in B

  rest : accepted ≡ first_of (cap_check B ++ vet B)
  rest = e ∙ sym (rest-decides (front B) (cap_check B ++ vet B) tt (first-accepts (front B) (cap_check B ++ vet B) tt e))

  cap-passes : accepted ≡ first_of (cap_check B)
  cap-passes = first-accepts (cap_check B) (vet B) tt rest

  vetted : accepted ≡ vet_code P K
  vetted = rest ∙ sym (rest-decides (cap_check B) (vet B) tt cap-passes)

  others : accepted ≡ first_of (other_checks P K)
  others = accepted-checked P K vetted

  trial-passes : accepted ≡ first_of (trial_checks P K m)
  trial-passes =
      cap-passes
      ∙ rest-decides (table_checks P K) (cap_check B) tt (first-accepts (table_checks P K) (column_checks P K) tt others)

  pub last-two-equal : LastTwoEqual B e
  last-two-equal number s =
      let shown : shown_total P K m s ≡ pos (true_sum P K m s) = paper-is-true P K m s trial-passes (checked P K others).zero-sum in (
        shown,
        ap (λ (w : ℤ).
            decimal number
            ++ 0x20 ∷ decimal (last_sender P K m s)
            ++ 0x20 ∷ decimal (first_sum P K m s)
            ++ 0x20 ∷ decimal (true_sum P K m s)
            ++ 0x20 ∷ signed_decimal w
            ++ (0x0a ∷ [])) shown,
      )

  pub one-line-a-round : OneLineARound B e
  one-line-a-round = accepted-takes (input_code B) (lines_from P K m (rounds_in B) 1 1) _ e ∙ lines-joined P K m (rounds_in B) 1 1

  -- ---- the runs from the opening on

  some-rounds : (1 ≤ rounds_in B) × (rounds_in B ≤ 10000)
  some-rounds =
      let fair = not-false (leb 1 (rounds_in B) && leb (rounds_in B) 10000) (none-holds (front B) tt (first-accepts (front B) (cap_check B ++ vet B) tt e)).1.1.0 in
      let (low, high) = T_and (leb 1 (rounds_in B)) (leb (rounds_in B) 10000) (true→T _ fair) in
      (leb→le 1 (rounds_in B) low, leb→le (rounds_in B) 10000 high)

  abbrev run_at : ℕ → ℕ → Run
  run_at number s = run P (padded K) m (rounds_in B) number s

  abbrev own : Bool → ℕ → ℕ → Code
  own b number s = cond (not b) (code 18) (first_of (trial_checks P (table_of (run_at number s)) m))

  taken : (number s : ℕ) → 1 ≤ number → number ≤ rounds_in B → accepted ≡ line_code (run_at number s)
  taken number s low high =
      let (some, most) = some-rounds in
      let inside : (leb 1 (rounds_in B) && leb (rounds_in B) 10000 && leb 1 number && leb number (rounds_in B)) ≡ true =
      simp (le-leb 1 (rounds_in B) some, le-leb (rounds_in B) 10000 most, le-leb 1 number low, le-leb number (rounds_in B) high) in
      trial-passes
      ∙ ap (λ (t : List ℕ). first_of (trial_checks P t m)) (sym (table-part (record_in B)))
      ∙ ap (λ (b : Bool). own b number s) (sym inside)

  past : (s : ℕ) → line_code (run_at (rounds_in B + 1) s) ≡ code 18
  past s =
      let (some, most) = some-rounds in
      let n : ℕ = rounds_in B + 1 in
      let outside : (leb 1 (rounds_in B) && leb (rounds_in B) 10000 && leb 1 n && leb n (rounds_in B)) ≡ false =
      simp (le-leb 1 (rounds_in B) some, le-leb (rounds_in B) 10000 most, le-leb 1 n (omega arith), lt-leb n (rounds_in B) (omega arith)) in
      ap (λ (b : Bool). own b n s) outside

  module _ (number s : ℕ) (low : 1 ≤ number) (high : number ≤ rounds_in B) where
    line-is : bytes_in (next_line (run_at number s)) ≡ trial_line P K m number s
    line-is =
        let T : List ℕ = table_of (run_at number s) in
        let text : List ℕ = trial_line P T m number s in
        ap bytes_in (accepted-takes (line_code (run_at number s)) (line_with text) (line_with []) (taken number s low high))
        ∙ take-append_seam text (zeros (56 - length text))
        ∙ ap (λ (t : List ℕ). trial_line P t m number s) (table-part (record_in B))

    run_is : next_run (run_at number s) ≡ run_at (suc number) (state_after P K m s)
    run_is =
        accepted-takes (line_code (run_at number s)) (run_at (number + 1) (state_after P K m s)) (run_at number s) (taken number s low high)
        ∙ ap (λ (k : ℕ). run_at k (state_after P K m s)) (add-one number)

  lines_are : (n number s : ℕ) → 1 ≤ number → number + n ≡ rounds_in B + 1 → lines_of n (run_at number s) ≡ lines_from P K m n number s
  unfolding lines_of lines_from
  lines_are zero number s low e = refl
  lines_are (suc n) number s low e =
      let high : number ≤ rounds_in B = omega arith in
      ap₂ (λ (a b : List ℕ). a ++ b) (line-is number s low high)
      (ap (lines_of n) (run_is number s low high) ∙ lines_are n (suc number) (state_after P K m s) (omega arith) (omega arith))

  run-after : (n number s : ℕ) → 1 ≤ number → number + n ≤ rounds_in B + 1
      → run_after n (run_at number s) ≡ run_at (number + n) (stepped_by (n * (P.rate + users_of P + users_of P)) s)
  unfolding run_after stepped_by
  run-after zero number s low e =
      let d : number ≡ number + 0 = omega arith in
      let none : 0 ≡ 0 * (P.rate + users_of P + users_of P) = omega arith in
      ap₂ (λ (k j : ℕ). run_at k (stepped_by j s)) d none
  run-after (suc n) number s low e =
      let d : suc number + n ≡ number + suc n = omega arith in
      ap (run_after n) (run_is number s low (omega arith))
      ∙ run-after n (suc number) (state_after P K m s) (omega arith) (omega arith)
      ∙ ap₂ run_at d (later-state P K m n s)

  opened : run_in B ≡ run_at 1 1
  opened = accepted-takes (input_code B) (run_at 1 1) no_run e

  written-lines : lines_of (run_in B).rounds (run_in B) ≡ lines_from P K m (rounds_in B) 1 1
  written-lines = ap (λ (R : Run). lines_of R.rounds R) opened ∙ lines_are (rounds_in B) 1 1 (omega arith) (omega arith)

pub number-alone : NumberAlone
number-alone B r e =
    refused-keeps (input_code B) (lines_from (plan_in B) (table_in B) (cap_in B) (rounds_in B) 1 1) _ r e
    ∙ ap (λ (c : Code). decimal c.number ++ (0x0a ∷ [])) (sym e)

pub writes-printed : WritesPrinted
writes-printed B = go (is_accepted (input_code B)) refl
  where
    alone : List ℕ
    alone = decimal (input_code B).number ++ (0x0a ∷ [])

    go : (b : Bool) → is_accepted (input_code B) ≡ b
        → cond b (lines_of (run_in B).rounds (run_in B)) (bytes_in (line_with alone)) ≡ cond b (lines_from (plan_in B) (table_in B) (cap_in B) (rounds_in B) 1 1) alone
    go true h = written-lines B (number-accepts (input_checks B) (all-numbered B) h)
    go false h = take-append_seam alone (zeros (56 - length alone))

pub every-line-given : EveryLineGiven
every-line-given B e =
    let after : (k : ℕ) → k ≤ rounds_in B → run_after k (run_in B) ≡ run_at B e (1 + k) (state_before B e k) =
    λ k h. ap (run_after k) (opened B e) ∙ run-after B e k 1 1 (omega arith) (omega arith) in
    let n : ℕ = rounds_in B in
    let d : 1 + n ≡ n + 1 = omega arith in (
      (λ k h. taken B e (1 + k) (state_before B e k) (omega arith) (omega arith) ∙ ap line_code (sym (after k (omega arith)))),
      ap line_code (after n (omega arith) ∙ ap (λ (k : ℕ). run_at B e k (state_before B e n)) d) ∙ past B e (state_before B e n),
    )

pub room-for-lines : RoomForLines
room-for-lines = (
  (λ R. go (is_accepted (line_code R)) R.number (last_sender R.plan (table_of R) R.cap R.state) (first_sum R.plan (table_of R) R.cap R.state)
      (true_sum R.plan (table_of R) R.cap R.state) (shown_total R.plan (table_of R) R.cap R.state)),
  (λ c. omega (arith, field-length c.number 0x0a)),
)
  where
    go : (b : Bool) (n a f t : ℕ) (w : ℤ)
        → (cond b (line_with (decimal n ++ 0x20 ∷ decimal a ++ 0x20 ∷ decimal f ++ 0x20 ∷ decimal t ++ 0x20 ∷ signed_decimal w ++ (0x0a ∷ []))) (line_with [])).length
        ≤ 56
    go true n a f t w = text-length n a f t w
    go false n a f t w = omega arith
