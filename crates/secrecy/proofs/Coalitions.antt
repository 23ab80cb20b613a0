-- What a coalition knows: source symbols that make up for a difference in it, and differences that it does not see.
use Prim.Native.Nat.{ℕ, ◌%◌, ◌<◌}
use mathlib.Core.Path.{◌≡◌, sym, ap, ◌∙◌, subst}
use mathlib.Core.List.{List}
use native.Mathlib.Nat.{zero-mod}
use lib.Dec.{T}
use Rattle.lists.specs.Lists.{All, zeros}
use Rattle.matrices.proofs.Notions.{dot}
use Rattle.lists.proofs.Members.{all_append, all_right}
use Rattle.matrices.proofs.Vectors.{dot-zeros}
use Rattle.secrecy.specs.Model.{Pool, users, in_coalition}
use Rattle.lists.proofs.ListLaws.{all-picked, picked_all}
use Rattle.secrecy.proofs.Units.{unit, dot-unit, at-unit-other}
use Rattle.secrecy.proofs.Forms.{Unseen, MakesUp}
use Rattle.secrecy.proofs.RankCondition.{row, coalition_rows}
use Rattle.secrecy.proofs.PoolForms.{up_form, read_form, key_form, read_forms, key_forms, known_forms, units}

none-dot : (q n : ℕ) (x : List ℕ) → dot q (zeros n) x ≡ 0
none-dot q n x = ap (λ (z : ℕ). z % q) (dot-zeros n x) ∙ zero-mod q

module _ (P : Pool) (g : ℕ) where
  -- the unit of a user outside the coalition is not seen
  pub unit-unseen : (i : ℕ) → ¬ (T (in_coalition g i)) → Unseen P.q (units P g) (unit (users P) i)
  unit-unseen i out =
      all-picked (λ e. dot P.q e (unit (users P) i) ≡ 0) (users P) (in_coalition g) (unit (users P))
      (λ j l c.
      ap (λ (z : ℕ). z % P.q)
      (dot-unit (users P) j (unit (users P) i) l ∙ at-unit-other (users P) i j (λ e. out (subst (λ (k : ℕ). T (in_coalition g k)) e c)))
      ∙ zero-mod P.q)

  module _ (d t : List ℕ) where
    -- what makes up for a difference in all that the coalition knows is orthogonal to its rows
    pub known-none : All (MakesUp P.q d t) (known_forms P g) → All (λ r. dot P.q r t ≡ 0) (coalition_rows P g)
    known-none h =
        all-picked (λ r. dot P.q r t ≡ 0) (users P) (in_coalition g) (row P)
        (λ i l c.
        sym (picked_all (MakesUp P.q d t) (users P) (in_coalition g) (key_form P) (all_right (MakesUp P.q d t) (read_forms P g) (key_forms P g) h) i l c)
        ∙ none-dot P.q (users P) d)

    -- a difference that the coalition does not see, and source symbols orthogonal to its rows
    module _ (un : Unseen P.q (units P g) d) (none : All (λ r. dot P.q r t ≡ 0) (coalition_rows P g)) where
      unit-none : (i : ℕ) → i < users P → T (in_coalition g i) → dot P.q (unit (users P) i) d ≡ 0
      unit-none = picked_all (λ e. dot P.q e d ≡ 0) (users P) (in_coalition g) (unit (users P)) un

      row-none : (i : ℕ) → i < users P → T (in_coalition g i) → dot P.q (row P i) t ≡ 0
      row-none = picked_all (λ r. dot P.q r t ≡ 0) (users P) (in_coalition g) (row P) none

      -- these make up for it in each member's upload
      pub member-made : (i : ℕ) → i < users P → T (in_coalition g i) → MakesUp P.q d t (up_form P i)
      member-made i l c = unit-none i l c ∙ sym (row-none i l c)

      -- and in all that the coalition knows
      pub known-made : All (MakesUp P.q d t) (known_forms P g)
      known-made =
          all_append (MakesUp P.q d t) (read_forms P g) (key_forms P g)
          (all-picked (MakesUp P.q d t) (users P) (in_coalition g) (read_form P) (λ i l c. unit-none i l c ∙ sym (none-dot P.q P.rate t)))
          (all-picked (MakesUp P.q d t) (users P) (in_coalition g) (key_form P) (λ i l c. none-dot P.q (users P) d ∙ sym (row-none i l c)))
