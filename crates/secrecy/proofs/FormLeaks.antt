-- When a view by forms leaks, among readings that have every difference in one position: it leaks nothing just where it hides each difference that the
-- agreement does not see, and so just where the ranks add up.
use Prim.Native.Nat.{ℕ, ◌+◌, ◌<◌}
use mathlib.Core.Path.{◌≡◌, subst}
use mathlib.Core.Bool.{Bool, true, ◌&&◌}
use mathlib.Core.Logic.{◌↔◌}
use mathlib.Core.List.{List, [], ◌∷◌, ◌++◌}
use lib.Dec.{T, eqb, eqb→eq, eqb_refl}
use Rattle.residues.specs.Primes.{Prime}
use Rattle.residues.proofs.PrimeLaws.{prime-pos}
use Rattle.lists.specs.Lists.{All, zeros}
use Rattle.lists.proofs.Searches.{T_and, and_T, T-decide}
use Rattle.matrices.specs.Linear.{Vector}
use Rattle.matrices.specs.Rank.{any_list, rank_of}
use Rattle.matrices.proofs.Notions.{dot}
use Rattle.matrices.proofs.Vectors.{vector-zeros}
use Rattle.matrices.proofs.Spans.{any-list-found, any-list-at}
use Rattle.secrecy.specs.Leaks.{Leak}
use Rattle.secrecy.proofs.Forms.{Form, Unseen, MakesUp, Mask, Hidden, ByForms}
use Rattle.secrecy.proofs.Hiding.{hidden-keeps, unmasked-leaks}
use Rattle.secrecy.proofs.FormRank.{form_rows, source_rows, padded, FormOf, hidden-iff-rank}

module _ (q m n : ℕ) where
  -- is there a mask? By trying all source symbols
  masks : List Form → List ℕ → List ℕ → Bool
  masks [] d t = true
  masks (f ∷ F) d t = eqb (dot q f.on_readings d) (dot q f.on_source t) && masks F d t

  masks-all : (F : List Form) (d t : List ℕ) → T (masks F d t) → All (MakesUp q d t) F
  unfolding masks
  masks-all [] d t h = tt
  masks-all (f ∷ F) d t h =
      let (x, y) = T_and (eqb (dot q f.on_readings d) (dot q f.on_source t)) (masks F d t) h in
      (eqb→eq (dot q f.on_readings d) (dot q f.on_source t) x, masks-all F d t y)

  all-masks : (F : List Form) (d t : List ℕ) → All (MakesUp q d t) F → T (masks F d t)
  unfolding masks
  all-masks [] d t h = tt
  all-masks (f ∷ F) d t h =
      and_T (eqb (dot q f.on_readings d) (dot q f.on_source t)) (masks F d t)
      (subst (λ (z : ℕ). T (eqb (dot q f.on_readings d) z)) h.0 (eqb_refl (dot q f.on_readings d)))
      (all-masks F d t h.1)

  -- a difference is made up for, or it is not
  mask-decide : (F : List Form) (d : List ℕ) → Dec (Mask q n F d)
  mask-decide F d = go (T-decide (any_list q n (masks F d)))
    where
      go : Dec (T (any_list q n (masks F d))) → Dec (Mask q n F d)
      go (yes h) =
          let (t, v, k) = any-list-found q n (masks F d) h in
          yes (record { t = t; valid = v; makes-up = masks-all F d t k })
      go (no h) = no (λ k. h (any-list-at q n (masks F d) k.t k.valid (all-masks F d k.t k.makes-up)))

  module _ (among : ℕ → List ℕ → Type 0) (E : List (List ℕ)) (F : List Form) (agrees : ℕ → List ℕ → List ℕ → Type 0)
      (see : ℕ → List ℕ → List ℕ → List ℕ) (by : ByForms q m n among E F agrees see) (every : (d : List ℕ) → Vector q m d → among 1 d) where
    -- nothing leaks just where each difference that E does not see is made up for
    pub forms-iff : 0 < q → (¬ (Leak q n among agrees see)) ↔ Hidden q m n E F
    forms-iff pos = (
      (λ quiet d v un. go quiet d v un (mask-decide F d)),
      (λ hid. hidden-keeps q m n pos among E F agrees see by hid among (λ L W w. w)),
    )
      where
        go : ¬ (Leak q n among agrees see) → (d : List ℕ) → Vector q m d → Unseen q E d → Dec (Mask q n F d) → Mask q n F d
        go quiet d v un (yes k) = k
        go quiet d v un (no h) =
            absurd (quiet
            (unmasked-leaks q m n pos among E F agrees see by among (λ L W w. w) d (every (zeros m) (vector-zeros q m pos)) (every d v) un h))

    -- and so just where the ranks add up
    pub forms-rank : Prime q → All (Vector q m) E → All (FormOf q m n) F
        → (¬ (Leak q n among agrees see)) ↔ (rank_of q (m + n) (padded n E ++ form_rows F) ≡ rank_of q m E + rank_of q n (source_rows F))
    forms-rank prime h_e h_f =
        let a : (¬ (Leak q n among agrees see)) ↔ Hidden q m n E F = forms-iff (prime-pos prime) in
        let r : Hidden q m n E F ↔ (rank_of q (m + n) (padded n E ++ form_rows F) ≡ rank_of q m E + rank_of q n (source_rows F))
        = hidden-iff-rank q prime m n E h_e F h_f in
        ((λ quiet. r.0 (a.0 quiet)), (λ e. a.1 (r.1 e)))
