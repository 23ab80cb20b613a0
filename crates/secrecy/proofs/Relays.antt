-- An observer of the uploads of some users, as a relay is: it leaks just where the row of one of them, outside the coalition, depends on the
-- coalition's rows and those of such users before it. Where it sees every user, a table that sums to 0 has such a row.
use Prim.Native.Nat.{ℕ, ◌*◌, ◌<◌}
use mathlib.Core.Path.{◌≡◌, ◌∙◌}
use mathlib.Core.Bool.{Bool, not}
use mathlib.Core.Logic.{◌⊎◌}
use mathlib.Core.List.{List, [], ◌∷◌}
use native.Mathlib.Omega.{arith}
use lib.Dec.{T, T_not, not_T}
use Rattle.residues.specs.Primes.{Prime}
use Rattle.lists.proofs.Searches.{T_and, and_T, T-decide}
use Rattle.residues.proofs.Congruence.{of_eq, of-mod, c_sym, c-trans, zero-not-one}
use Rattle.residues.proofs.CongruentSums.{sum-c}
use Rattle.lists.specs.Lists.{at, All, picked}
use Rattle.lists.specs.Sums.{sum_to}
use Rattle.lists.proofs.Sums.{sum_one}
use Rattle.matrices.specs.Linear.{Vector}
use Rattle.matrices.proofs.Notions.{dot_n, dot, Independent}
use Rattle.secrecy.specs.Model.{Pool, users, in_coalition, set_view, ZeroSum}
use Rattle.secrecy.specs.Leaks.{Leak, Symbols, Agree}
use Rattle.secrecy.proofs.Units.{unit, dot-unit, at-unit-same, at-unit-other}
use Rattle.secrecy.proofs.Forms.{Unseen, MakesUp}
use Rattle.secrecy.proofs.Readings.{Enough}
use Rattle.secrecy.proofs.RankCondition.{row, coalition_rows, outside, row-vector, coalition-vectors}
use Rattle.secrecy.proofs.PoolForms.{up_form, units, set-forms}
use Rattle.secrecy.proofs.Coalitions.{unit-unseen, member-made}
use Rattle.secrecy.proofs.Clusters.{rows_none}
use Rattle.secrecy.proofs.Independence.{Solved, solved}
use Rattle.secrecy.proofs.Observers.{Observer, Telling, observer-keeps, observer-either}

module _ (P : Pool) (prime : Prime P.q) (valid : Vector P.q (users P * P.rate) P.table) (b : ℕ → Bool) (g : ℕ) where
  set-observer : Observer P g (units P g) (users P) b (outside P b g) (up_form P)
  unfolding outside
  set-observer =
      record {
        sources = row-vector P prime valid;
        shown = λ i t. (T_and (b i) (not (in_coalition g i)) t).0;
        members = λ d un. un;
        others = λ d N un none hits i l t. go d N un none hits i l t (T-decide (in_coalition g i));
      }
    where
      go : (d N : List ℕ) → Unseen P.q (units P g) d → All (λ r. dot P.q r N ≡ 0) (coalition_rows P g)
          → ((i : ℕ) → i < users P → T (outside P b g i) → MakesUp P.q d N (up_form P i))
          → (i : ℕ) → i < users P → T (b i) → Dec (T (in_coalition g i)) → MakesUp P.q d N (up_form P i)
      go d N un none hits i l t (yes c) = member-made P g d N un none i l c
      go d N un none hits i l t (no c) = hits i l (and_T (b i) (not (in_coalition g i)) t (not_T (in_coalition g i) c))

  -- the unit of a user tells of its upload
  telling : (readings : ℕ → List ℕ → Type 0) → Enough P.q (users P) readings → (i : ℕ) → i < users P → T (outside P b g i)
      → Telling P readings (units P g) (outside P b g) (up_form P) i
  unfolding outside
  telling readings en i l t =
      record {
        d = unit (users P) i;
        chosen = en.one i l;
        unseen = unit-unseen P g i (T_not (in_coalition g i) (T_and (b i) (not (in_coalition g i)) t).1);
        one = of_eq (dot-unit (users P) i (unit (users P) i) l ∙ at-unit-same (users P) i l);
        before = λ j c s. of_eq (dot-unit (users P) j (unit (users P) i) (omega arith) ∙ at-unit-other (users P) i j (omega arith));
      }

  module _ (readings : ℕ → List ℕ → Type 0) where
    -- where the rows are independent nothing leaks, among any readings
    pub set_keeps : ((L : ℕ) (W : List ℕ) → readings L W → Symbols P.q (users P) L W)
        → Independent P.q P.rate (coalition_rows P g) (picked (users P) (outside P b g) (λ i. row P i ∷ []))
        → ¬ (Leak P.q P.rate readings (Agree P g) (set_view P b g))
    set_keeps =
        observer-keeps P prime valid g (units P g) (users P) b (outside P b g) (up_form P) set-observer (Agree P g) (set_view P b g) (set-forms P b g) readings

    -- they are independent, or there is a leak, among any readings that are enough
    pub set-either : Enough P.q (users P) readings
        → Independent P.q P.rate (coalition_rows P g) (picked (users P) (outside P b g) (λ i. row P i ∷ []))
        ⊎ Leak P.q P.rate readings (Agree P g) (set_view P b g)
    set-either en =
        observer-either P prime valid g (units P g) (users P) b (outside P b g) (up_form P) set-observer (Agree P g) (set_view P b g) (set-forms P b g)
        readings en.symbols en.none (telling readings en)

  -- the rows of all users are not independent, where the table sums to 0: else some source symbols had the product 1 with the first row and 0 with the
  -- others, and all these products sum to 0
  pub all-depend : ZeroSum P → 0 < users P → ((i : ℕ) → i < users P → T (outside P b g i))
      → ¬ (Independent P.q P.rate (coalition_rows P g) (picked (users P) (outside P b g) (λ i. row P i ∷ [])))
  all-depend zs some all ind =
      let v : ℕ → ℕ = at (unit (users P) 0) in
      let s : Solved P.q P.rate (coalition_rows P g) (outside P b g) (row P) v (users P)
      = solved P.q prime P.rate (coalition_rows P g) (outside P b g) (row P) (coalition-vectors P prime valid g) (row-vector P prime valid)
      v (users P) ind in
      let products : ℕ → ℕ = λ i. dot_n (row P i) s.N in
      let sum : sum_to (users P) v ≡ 1 = sum_one (users P) v 0 some (at-unit-same (users P) 0 some) (λ i l ne. at-unit-other (users P) 0 i ne) in
      zero-not-one P.q prime.two
      (c-trans (c_sym (rows_none P zs s.N))
      (c-trans (sum-c (users P) products v (λ i l. of-mod P.q (products i) (v i) (s.hits i l (all i l)))) (of_eq sum)))
