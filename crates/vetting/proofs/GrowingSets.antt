-- Coalitions that grow by users of falling number. One with no member up to j is m * 2 ^ (j + 1); with j it has one member more, whose row comes last in the
-- elimination.
use Prim.Native.Nat.{ℕ, zero, suc, ◌+◌, ◌-◌, ◌*◌, ◌/◌, ◌%◌, ◌^◌, ◌<◌}
use mathlib.Core.Path.{◌≡◌, refl, sym, ap, ap₂, ◌∙◌, subst}
use mathlib.Core.Logic.{◌⊎◌, inl, inr}
use mathlib.Core.List.{List, ◌∷◌}
use native.Mathlib.Nat.{pow-suc}
use native.Mathlib.Decide.{dec_lt}
use native.Mathlib.Omega.{arith}
use lib.Dec.{T}
use lib.Pow.{pow_pos}
use lib.Count.{ones, ones_cat, count_trailing_zeros}
use Rattle.lists.specs.Lists.{All}
use Rattle.lists.proofs.BitLaws.{low_ones}
use Rattle.matrices.specs.Tables.{eliminated}
use Rattle.secrecy.specs.Model.{in_coalition}
use Rattle.vetting.specs.Walking.{members_from, reduced_by, table_of}
use Rattle.vetting.proofs.MemberLaws.{members-next}
use Rattle.vetting.proofs.ReducedTables.{members-all, members-has}

-- the numbers
pub same-is : (m i : ℕ) → m * 2 ^ suc i ≡ (m * 2) * 2 ^ i
same-is m i = ap (λ (z : ℕ). m * z) (pow-suc 2 i) ∙ omega arith

pub next-is : (m i : ℕ) → m * 2 ^ suc i + 2 ^ i ≡ (m * 2 + 1) * 2 ^ i
next-is m i = ap (λ (z : ℕ). z + 2 ^ i) (same-is m i) ∙ omega arith

-- the lowest member is j
lowest : (k m j : ℕ) → j < k → count_trailing_zeros k ((m * 2 + 1) * 2 ^ j) ≡ j
unfolding count_trailing_zeros
lowest zero m j l = absurd (omega arith)
lowest (suc k) m zero l = let e : (m * 2 + 1) * 1 % 2 ≡ 1 = omega arith in rw e refl
lowest (suc k) m (suc j) l =
    let p : (m * 2 + 1) * 2 ^ suc j ≡ (m * 2 + 1) * 2 ^ j * 2 = ap (λ (z : ℕ). (m * 2 + 1) * z) (pow-suc 2 j) ∙ omega arith in
    let e : (m * 2 + 1) * 2 ^ j * 2 % 2 ≡ 0 = omega arith in
    let h : (m * 2 + 1) * 2 ^ j * 2 / 2 ≡ (m * 2 + 1) * 2 ^ j = omega arith in
    rw (p, e, h) (ap suc (lowest k m j (omega arith)))

-- one member more, within 16
module _ (m j : ℕ) (few : m * 2 ^ suc j + 2 ^ j < 2 ^ 16) (l : j < 16) where
  abbrev g : ℕ
  g = m * 2 ^ suc j

  abbrev h : ℕ
  h = m * 2 ^ suc j + 2 ^ j

  low : count_trailing_zeros 16 h ≡ j
  low = ap (count_trailing_zeros 16) (next-is m j) ∙ lowest 16 m j l

  some : 0 < h
  some = omega (arith, pow_pos j)

  left : h - 2 ^ count_trailing_zeros 16 h ≡ g
  left = ap (λ (z : ℕ). h - 2 ^ z) low ∙ omega arith

  pub more-ones : ones h ≡ ones g + 1
  more-ones = low_ones 16 h some few ∙ ap (λ (z : ℕ). suc (ones z)) left ∙ omega arith

  -- it comes first among the members
  pub more-members : members_from 16 0 h ≡ j ∷ members_from 16 0 g
  more-members = (members-next 16 h some few).2 ∙ ap₂ (λ (i z : ℕ). i ∷ members_from 16 0 z) low left

  -- a member is j, or was one before
  pub more-member : (i : ℕ) → i < 16 → T (in_coalition h i) → (i ≡ j) ⊎ T (in_coalition g i)
  more-member i b t =
      let Q : ℕ → Type 0 = λ i. (i ≡ j) ⊎ T (in_coalition g i) in
      members-has Q h 16 0 (subst (All Q) (sym more-members) (inl refl, members-all Q g (λ i s. inr s) 16 0)) i (omega arith) (omega arith) t

  -- the table of one member more
  pub more-table : (q rows cols : ℕ) (U : List ℕ) → eliminated q rows cols j (table_of q rows cols U g) ≡ table_of q rows cols U h
  unfolding reduced_by
  more-table q rows cols U = ap (λ (is : List ℕ). reduced_by q rows cols is U) (sym more-members)

-- ---- how many are to come

-- the highest digit
pub top-ones : (j r : ℕ) → r < 2 ^ j → ones (2 ^ j + r) ≡ 1 + ones r
unfolding ones
top-ones j r l = ap ones {x = 2 ^ j + r} {y = 1 * 2 ^ j + r} (omega arith) ∙ ones_cat j 1 r l

pub ones_none : (k r : ℕ) → r < 2 ^ k → ones r ≡ 0 → r ≡ 0
ones_none k r l e = go (dec_lt 0 r)
  where
    go : Dec (0 < r) → r ≡ 0
    go (yes p) = absurd (omega (arith, low_ones k r p l))
    go (no p) = omega arith
