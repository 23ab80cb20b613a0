-- Runs: the table that was read stands in the first places, and the lines of a run by their numbers.
use Prim.Native.Nat.{ℕ, zero, suc, ◌+◌, ◌-◌, ◌*◌}
use mathlib.Core.Path.{◌≡◌, refl, sym, ap, ap₂, ◌∙◌}
use mathlib.Core.List.{List, ◌++◌, append_assoc, append-nil}
use native.Mathlib.Omega.{arith}
use lib.ListN.{length, take}
use lib.Seq.{take-append_seam}
use Rattle.lists.specs.Lists.{zeros, join_to}
use Rattle.plans.specs.declared.Plan.{Plan}
use Rattle.plans.specs.Plans.{users_of}
use Rattle.numerals.proofs.Bytes.{length-numbers}
use Rattle.records.specs.Records.{width_in, start, plan_read, table_read, padded}
use Rattle.trials.specs.Generator.{stepped_by}
use Rattle.trials.specs.Trials.{state_after}
use Rattle.simulation.specs.Runs.{trial_line, lines_from}
use Rattle.trials.proofs.DrawLaws.{stepped-add}

pub table-part : (B : List ℕ) → take (users_of (plan_read B) * (plan_read B).rate) (padded (table_read B)) ≡ table_read B
table-part B =
    ap (λ (k : ℕ). take k (padded (table_read B)))
    (sym (length-numbers (width_in B) (users_of (plan_read B) * (plan_read B).rate) B (start B + 4 + width_in B)))
    ∙ take-append_seam (table_read B) (zeros (256 - length (table_read B)))

module _ (P : Plan) (K : List ℕ) (m : ℕ) where
  -- how many values a round draws
  abbrev pub draws_of : ℕ
  draws_of = P.rate + users_of P + users_of P

  -- n rounds and one more
  pub later-state : (n s : ℕ) → stepped_by (n * draws_of) (state_after P K m s) ≡ stepped_by (suc n * draws_of) s
  later-state n s =
      let e : draws_of + n * draws_of ≡ suc n * draws_of = omega arith in
      stepped-add (n * draws_of) draws_of s ∙ ap (λ (k : ℕ). stepped_by k s) e

  abbrev line_at : ℕ → ℕ → ℕ → List ℕ
  line_at number s k = trial_line P K m (number + k) (stepped_by (k * draws_of) s)

  -- the last of n + 1 lines
  last_line : (n number s : ℕ) → lines_from P K m (suc n) number s ≡ lines_from P K m n number s ++ line_at number s n
  unfolding lines_from stepped_by
  last_line zero number s =
      let e : number ≡ number + 0 = omega arith in
      let d : 0 ≡ 0 * draws_of = omega arith in
      append-nil (trial_line P K m number s) ∙ ap₂ (λ (k j : ℕ). trial_line P K m k (stepped_by j s)) e d
  last_line (suc n) number s =
      let first : List ℕ = trial_line P K m number s in
      let after : ℕ = state_after P K m s in
      let e : suc number + n ≡ number + suc n = omega arith in
      ap (λ (l : List ℕ). first ++ l) (last_line n (suc number) after)
      ∙ sym (append_assoc first (lines_from P K m n (suc number) after) (line_at (suc number) after n))
      ∙ ap (λ (l : List ℕ). (first ++ lines_from P K m n (suc number) after) ++ l)
      (ap₂ (λ (k t : ℕ). trial_line P K m k t) e (later-state n s))

  pub lines-joined : (n number s : ℕ) → lines_from P K m n number s ≡ join_to n (line_at number s)
  unfolding lines_from join_to
  lines-joined zero number s = refl
  lines-joined (suc n) number s = last_line n number s ∙ ap (λ (l : List ℕ). l ++ line_at number s n) (lines-joined n number s)
