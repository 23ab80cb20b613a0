-- An observer that sees forms, beside what the coalition knows: it leaks just where the source part of one of the forms that are tested depends on
-- the coalition's rows and on those of the tested forms before it.
use Prim.Native.Nat.{ℕ, ◌*◌, ◌<◌}
use mathlib.Core.Path.{◌≡◌, sym}
use mathlib.Core.Bool.{Bool}
use mathlib.Core.Logic.{◌⊎◌, inl, inr, ⊎_elim}
use mathlib.Core.List.{List, [], ◌∷◌, ◌++◌}
use native.Mathlib.Omega.{arith}
use lib.Dec.{T}
use Rattle.residues.specs.Primes.{Prime}
use Rattle.residues.proofs.PrimeLaws.{prime-pos}
use Rattle.residues.proofs.Congruence.{Cong, of-mod, c_sym, c-trans, zero-not-one}
use Rattle.lists.specs.Lists.{All, zeros, picked}
use Rattle.matrices.specs.Linear.{Vector}
use Rattle.matrices.proofs.Notions.{dot_n, dot, InSpan, Independent}
use Rattle.lists.proofs.Members.{all_append, all_left, all_right}
use Rattle.matrices.proofs.Spans.{span-dot}
use Rattle.matrices.proofs.Duality.{orthogonal-cong}
use Rattle.secrecy.specs.Model.{Pool, users}
use Rattle.secrecy.specs.Leaks.{Leak, Symbols}
use Rattle.lists.proofs.ListLaws.{all-picked, picked_all}
use Rattle.secrecy.proofs.Forms.{Form, Unseen, MakesUp, Mask, Hidden, ByForms}
use Rattle.secrecy.proofs.Hiding.{hidden-keeps, unmasked-leaks}
use Rattle.secrecy.proofs.Independence.{Solved, independent-or-dependent, solved}
use Rattle.secrecy.proofs.RankCondition.{coalition_rows, coalition-vectors}
use Rattle.secrecy.proofs.PoolForms.{known_forms, seen_forms, units}
use Rattle.secrecy.proofs.Coalitions.{known-none, known-made}

-- ---- what is known of it

-- Of the forms below k that are seen some are tested: source symbols that are orthogonal to the coalition's rows, and make up in the tested forms for a
-- difference that E does not see, make up for it in all that are seen
pub record Observer (P : Pool) (g : ℕ) (E : List (List ℕ)) (k : ℕ) (seen tested : ℕ → Bool) (F : ℕ → Form) : Type 0 where
  pub sources : (i : ℕ) → Vector P.q P.rate (F i).on_source
  pub shown : (i : ℕ) → T (tested i) → T (seen i)
  pub members : (d : List ℕ) → Unseen P.q E d → Unseen P.q (units P g) d
  pub others : (d N : List ℕ) → Unseen P.q E d → All (λ r. dot P.q r N ≡ 0) (coalition_rows P g)
      → ((i : ℕ) → i < k → T (tested i) → MakesUp P.q d N (F i)) → (i : ℕ) → i < k → T (seen i) → MakesUp P.q d N (F i)

-- a difference among the readings in question that E does not see, that form i has the product 1 with, and the tested forms before it 0
pub record Telling (P : Pool) (readings : ℕ → List ℕ → Type 0) (E : List (List ℕ)) (tested : ℕ → Bool) (F : ℕ → Form) (i : ℕ) : Type 0 where
  pub d : List ℕ
  pub chosen : readings 1 d
  pub unseen : Unseen P.q E d
  pub one : Cong P.q (dot_n (F i).on_readings d) 1
  pub before : (j : ℕ) → j < i → T (tested j) → Cong P.q (dot_n (F j).on_readings d) 0

-- ---- the theorem

module _ (P : Pool) (prime : Prime P.q) (valid : Vector P.q (users P * P.rate) P.table) (g : ℕ) (E : List (List ℕ))
    (k : ℕ) (seen tested : ℕ → Bool) (F : ℕ → Form) (o : Observer P g E k seen tested F) where
  abbrev source : ℕ → List ℕ
  source i = (F i).on_source

  -- independent source parts can make up for every difference
  observer-hides : Independent P.q P.rate (coalition_rows P g) (picked k tested (λ i. (F i).on_source ∷ []))
      → Hidden P.q (users P) P.rate E (seen_forms P g k seen F)
  observer-hides i d v un =
      let w : Solved P.q P.rate (coalition_rows P g) tested source (λ i. dot_n (F i).on_readings d) k
      = solved P.q prime P.rate (coalition_rows P g) tested source (coalition-vectors P prime valid g) o.sources (λ i. dot_n (F i).on_readings d) k i in
      record {
        t = w.N;
        valid = w.valid;
        makes-up =
            all_append (MakesUp P.q d w.N) (picked k seen (λ i. F i ∷ [])) (known_forms P g)
            (all-picked (MakesUp P.q d w.N) k seen F (o.others d w.N un w.none (λ i l t. sym (w.hits i l t))))
            (known-made P g d w.N (o.members d un) w.none);
      }

  -- nothing makes up for a difference that tells of a form that depends
  unmasked : (readings : ℕ → List ℕ → Type 0) (i : ℕ) → i < k → T (tested i)
      → InSpan P.q P.rate (coalition_rows P g ++ picked i tested (λ j. (F j).on_source ∷ [])) (F i).on_source
      → (x : Telling P readings E tested F i) → ¬ (Mask P.q P.rate (seen_forms P g k seen F) x.d)
  unmasked readings i l t w x m =
      zero-not-one P.q prime.two
      (c-trans
      (c_sym
      (span-dot P.q P.rate (coalition_rows P g ++ picked i tested (λ j. (F j).on_source ∷ [])) (F i).on_source m.t w
      (all_append null (coalition_rows P g) (picked i tested (λ j. (F j).on_source ∷ []))
      (orthogonal-cong P.q (coalition_rows P g) m.t (known-none P g x.d m.t (all_right made shown_forms (known_forms P g) m.makes-up)))
      (all-picked null i tested source (λ j c s. c-trans (shows j (omega arith) s) (x.before j c s))))))
      (c-trans (shows i l t) x.one))
    where
      made : Form → Type 0
      made = MakesUp P.q x.d m.t

      shown_forms : List Form
      shown_forms = picked k seen (λ i. F i ∷ [])

      null : List ℕ → Type 0
      null r = Cong P.q (dot_n r m.t) 0

      shows : (j : ℕ) → j < k → T (tested j) → Cong P.q (dot_n (F j).on_source m.t) (dot_n (F j).on_readings x.d)
      shows j c s =
          of-mod P.q (dot_n (F j).on_source m.t) (dot_n (F j).on_readings x.d)
          (sym (picked_all made k seen F (all_left made shown_forms (known_forms P g) m.makes-up) j c (o.shown j s)))

  module _ (agrees : ℕ → List ℕ → List ℕ → Type 0) (see : ℕ → List ℕ → List ℕ → List ℕ)
      (by : ByForms P.q (users P) P.rate (Symbols P.q (users P)) E (seen_forms P g k seen F) agrees see)
      (readings : ℕ → List ℕ → Type 0) (symbols : (L : ℕ) (W : List ℕ) → readings L W → Symbols P.q (users P) L W) where
    -- where the source parts are independent nothing leaks, among any readings
    pub observer-keeps : Independent P.q P.rate (coalition_rows P g) (picked k tested (λ i. (F i).on_source ∷ []))
        → ¬ (Leak P.q P.rate readings agrees see)
    observer-keeps i =
        hidden-keeps P.q (users P) P.rate (prime-pos prime) (Symbols P.q (users P)) E (seen_forms P g k seen F) agrees see by
        (observer-hides i) readings
        symbols

    -- and where they are not, a leak is found among readings that have a difference to tell of each
    pub observer-either : readings 1 (zeros (users P)) → ((i : ℕ) → i < k → T (tested i) → Telling P readings E tested F i)
        → Independent P.q P.rate (coalition_rows P g) (picked k tested (λ i. (F i).on_source ∷ [])) ⊎ Leak P.q P.rate readings agrees see
    observer-either none tells =
        ⊎_elim inl
        (λ w.
        let x : Telling P readings E tested F w.i = tells w.i w.inside w.taken in
        inr
        (unmasked-leaks P.q (users P) P.rate (prime-pos prime) (Symbols P.q (users P)) E (seen_forms P g k seen F) agrees see by readings symbols
        x.d none
        x.chosen
        x.unseen
        (unmasked readings w.i w.inside w.taken w.depends x)))
        (independent-or-dependent P.q prime P.rate (coalition_rows P g) tested source (coalition-vectors P prime valid g) o.sources k)
