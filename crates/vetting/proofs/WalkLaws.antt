-- The levels along the walk, one coalition after the other; and the pairs that are left.
use Rattle.std.specs.Prelude.{Some, None}
use mathlib.Core.Path.{◌≡◌, refl, sym, ap, ap₂, ◌∙◌, subst}
use mathlib.Core.Bool.{Bool, true, false, cond}
use mathlib.Core.List.{List, [], ◌∷◌, ◌++◌, map, append_assoc, append-nil}
use Prim.Native.Nat.{ℕ, zero, suc, ◌+◌, ◌-◌, ◌*◌, ◌/◌, ◌^◌, ◌≤◌, ◌<◌}
use native.Mathlib.Nat.{div-mul-le_self, zero-div, zero-mul, div-one, mul-one, zero-add}
use native.Mathlib.Numerals.{add-one}
use native.Mathlib.Decide.{dec_lt}
use native.Mathlib.Omega.{arith}
use lib.Dec.{leb}
use lib.Count.{ones, ones-le, count_trailing_zeros}
use lib.Pow.{pow_pos}
use borrow.Author.Tests.{le-leb, lt-leb}
use lib.ListN.{length, take, drop, length-append, length-drop}
use lib.Seq.{length-take-le, drop-cons}
use Rattle.matrices.specs.Tables.{eliminated}
use Rattle.matrices.proofs.Elimination.{eliminated-length}
use Rattle.lists.specs.Lists.{at, join_to, picked}
use Rattle.lists.specs.Sums.{how_many}
use Rattle.secrecy.specs.Model.{in_coalition}
use Rattle.vetting.specs.declared.Pair.{Pair}
use Rattle.vetting.specs.Walk.{pairs_with}
use Rattle.vetting.specs.Walking.{level_at, descended, reduced_by, table_of, walk, first_hit, level_size, levels_size, most_rows}
use Rattle.lists.proofs.BitLaws.{low-cleared, low_ones, cleared-fewer, cleared-next, ones-many}
use Rattle.vetting.proofs.MemberLaws.{members-next, members-none}
use Rattle.vetting.proofs.GatherLaws.{few-numbers}
use Rattle.vetting.proofs.LevelLaws.{level-below, level-here}

-- g with its j low digits cleared
abbrev pub high : ℕ → ℕ → ℕ
high g j = g / 2 ^ j * 2 ^ j

pub high_le : (g j : ℕ) → high g j ≤ g
high_le g j = div-mul-le_self g (2 ^ j)

-- before coalition g is looked at: each coalition of its highest members, at most t and not all, has its table on its level
pub record Holds (q rows cols t : ℕ) (T L : List ℕ) (g : ℕ) : Type 0 where
  pub size : length L ≡ levels_size
  pub base : level_at (rows * cols) L 0 ≡ T
  pub above : (j : ℕ) → high g j < g → ones (high g j) ≤ t → level_at (rows * cols) L (ones (high g j)) ≡ table_of q rows cols T (high g j)

-- after it: g too, if it is one of at most t
pub record Full (q rows cols t : ℕ) (T L : List ℕ) (g : ℕ) : Type 0 where
  pub size : length L ≡ levels_size
  pub base : level_at (rows * cols) L 0 ≡ T
  pub all : (j : ℕ) → ones (high g j) ≤ t → level_at (rows * cols) L (ones (high g j)) ≡ table_of q rows cols T (high g j)

module _ (q rows cols t : ℕ) (T L : List ℕ) where
  pub to-next : (g : ℕ) → Full q rows cols t T L g → Holds q rows cols t T L (g + 1)
  to-next g F =
      record {
        size = F.size;
        base = F.base;
        above = λ j l. subst (λ (x : ℕ). ones x ≤ t → level_at (rows * cols) L (ones x) ≡ table_of q rows cols T x) (sym (cleared-next j g l)) (F.all j);
      }

  pub full-none : Holds q rows cols t T L 0 → Full q rows cols t T L 0
  unfolding reduced_by ones
  full-none H =
      record {
        size = H.size;
        base = H.base;
        all = λ j.
            subst (λ (x : ℕ). ones x ≤ t → level_at (rows * cols) L (ones x) ≡ table_of q rows cols T x) (sym (zero_high j))
            (λ o. H.base ∙ sym (ap (λ (is : List ℕ). reduced_by q rows cols is T) (members-none 16 0)));
      }
    where
      zero_high : (j : ℕ) → high 0 j ≡ 0
      zero_high j = ap (λ (z : ℕ). z * 2 ^ j) (zero-div (2 ^ j)) ∙ zero-mul (2 ^ j)

  pub full-skip : (g : ℕ) → t < ones g → Holds q rows cols t T L g → Full q rows cols t T L g
  full-skip g o H =
      record {
        size = H.size;
        base = H.base;
        all = λ j. go j (dec_lt (high g j) g);
      }
    where
      go : (j : ℕ) → Dec (high g j < g) → ones (high g j) ≤ t → level_at (rows * cols) L (ones (high g j)) ≡ table_of q rows cols T (high g j)
      go j (yes l) h = H.above j l h
      go j (no n) h =
          let e : high g j ≡ g = omega (arith, high_le g j) in
          absurd (omega (arith, ap ones e))

  -- the level of g itself
  pub full_at : (g : ℕ) → ones g ≤ t → Full q rows cols t T L g → level_at (rows * cols) L (ones g) ≡ table_of q rows cols T g
  full_at g o F = subst (λ (x : ℕ). ones x ≤ t → level_at (rows * cols) L (ones x) ≡ table_of q rows cols T x) e (F.all 0) o
    where
      e : high g 0 ≡ g
      e = mul-one (g / 1) ∙ div-one g

  module _ (g : ℕ) (p : 0 < g) (h : g < 2 ^ 16) (rf : rows ≤ most_rows) (cf : cols ≤ 16) (H : Holds q rows cols t T L g) where
    i : ℕ
    i = count_trailing_zeros 16 g

    few : ones g ≤ 16
    few = ones-le 16 g h

    some : 0 < ones g
    some = omega (arith, low_ones 16 g p h)

    new : List ℕ
    new = eliminated q rows cols (count_trailing_zeros 16 g) (level_at (rows * cols) L (ones g - 1))

    length-new : length new ≡ rows * cols
    unfolding new
    length-new =
        let l : length (level_at (rows * cols) L (ones g - 1)) ≡ rows * cols
        = length-take-le (rows * cols) (drop ((ones g - 1) * level_size) L)
        (omega (arith, length-drop ((ones g - 1) * level_size) L, few-numbers rows cols rf cf, few, H.size)) in
        eliminated-length q rows cols (count_trailing_zeros 16 g) (level_at (rows * cols) L (ones g - 1)) (sym l) ∙ l

    -- what is put on the level of g is the table of g
    new_is : ones g ≤ t → new ≡ table_of q rows cols T g
    unfolding new reduced_by
    new_is o =
        let y : ℕ = g - 2 ^ count_trailing_zeros 16 g in
        let c = low-cleared 16 g p h in
        let e : y ≡ high g (suc (count_trailing_zeros 16 g)) = c.1 in
        let l : high g (suc (count_trailing_zeros 16 g)) < g = omega (arith, c.0, pow_pos (count_trailing_zeros 16 g)) in
        let n : ones g ≡ suc (ones y) = low_ones 16 g p h in
        let m : ones (high g (suc (count_trailing_zeros 16 g))) ≡ ones g - 1 = ap ones (sym e) ∙ omega arith in
        let a : level_at (rows * cols) L (ones g - 1) ≡ table_of q rows cols T y =
        ap (level_at (rows * cols) L) (sym m) ∙ H.above (suc (count_trailing_zeros 16 g)) l (omega arith) ∙ ap (table_of q rows cols T) (sym e) in
        ap (eliminated q rows cols (count_trailing_zeros 16 g)) a
        ∙ ap (λ (is : List ℕ). reduced_by q rows cols is T) (sym (members-next 16 g p h).2)

    room : ones g * level_size ≤ length L
    room = omega (arith, few, H.size)

    pub full-step : ones g ≤ t → Full q rows cols t T (descended q rows cols (ones g) (count_trailing_zeros 16 g) L) g
    unfolding new
    full-step o =
        record {
          size =
              length-append (take (ones g * level_size) L) (new ++ drop (ones g * level_size + rows * cols) L)
              ∙ (omega (
                arith,
                length-append new (drop (ones g * level_size + rows * cols) L),
                length-take-le
                    (ones g * level_size) L room,
                length-new,
                length-drop (ones g * level_size + rows * cols) L,
                few-numbers rows cols rf cf,
                few,
                H.size,
              ));
          base = level-below (rows * cols) 0 (ones g) L room (new ++ drop (ones g * level_size + rows * cols) L) some (few-numbers rows cols rf cf) ∙ H.base;
          all = λ j. go j (dec_lt (high g j) g);
        }
      where
        go : (j : ℕ) → Dec (high g j < g) → ones (high g j) ≤ t → level_at (rows * cols) (descended q rows cols (ones g) (count_trailing_zeros 16 g) L)
            (ones (high g j)) ≡ table_of q rows cols T (high g j)
        go j (yes l) k =
            level-below (rows * cols) (ones (high g j)) (ones g) L room (new ++ drop (ones g * level_size + rows * cols) L) (cleared-fewer 16 j g h l)
            (few-numbers rows cols rf cf)
            ∙ H.above j l k
        go j (no n) k =
            let e : g ≡ high g j = omega (arith, high_le g j) in
            subst (λ (x : ℕ). level_at (rows * cols) (descended q rows cols (ones g) (count_trailing_zeros 16 g) L) (ones x) ≡ table_of q rows cols T x) e
            (level-here (rows * cols) 0 (ones g) L room new (drop (ones g * level_size + rows * cols) L) length-new ∙ new_is o)

-- ---- the pairs that are left

abbrev pub pair_of : ℕ → ℕ → Pair
pair_of g w = record { coalition = g; observer = w }

-- the pairs of k coalitions from g on
unfoldable pub pairs_from : ℕ → ℕ → List ℕ → ℕ → ℕ → List Pair
pairs_from n limit watching zero g = []
pairs_from n limit watching (suc k) g =
    cond (leb (how_many n (in_coalition g)) limit) (map (pair_of g) watching) [] ++ pairs_from n limit watching k (g + 1)

join_front : {A : Type 0} (n : ℕ) (f : ℕ → List A) → join_to (suc n) f ≡ f 0 ++ join_to n (λ k. f (suc k))
unfolding join_to
join_front zero f = sym (append-nil (f 0))
join_front (suc n) f = ap (λ (l : List _). l ++ f (suc n)) (join_front n f) ∙ append_assoc (f 0) (join_to n (λ k. f (suc k))) (f (suc n))

join-cong : (k : ℕ) (f h : ℕ → List Pair) → ((i : ℕ) → f i ≡ h i) → join_to k f ≡ join_to k h
unfolding join_to
join-cong zero f h e = refl
join-cong (suc k) f h e = ap₂ ◌++◌ (join-cong k f h e) (e k)

pairs-join : (n limit : ℕ) (watching : List ℕ) (k g : ℕ)
    → join_to k (λ i. cond (leb (how_many n (in_coalition (g + i))) limit) (map (pair_of (g + i)) watching) []) ≡ pairs_from n limit watching k g
unfolding pairs_from join_to
pairs-join n limit watching zero g = refl
pairs-join n limit watching (suc k) g =
    let F : ℕ → List Pair = λ x. cond (leb (how_many n (in_coalition x)) limit) (map (pair_of x) watching) [] in
    join_front k (λ i. F (g + i))
    ∙ ap₂ ◌++◌ (ap F {x = g + 0} {y = g} (omega arith))
    (join-cong k (λ i. F (g + suc i)) (λ i. F (g + 1 + i)) (λ i. ap F {x = g + suc i} {y = g + 1 + i} (omega arith)) ∙ pairs-join n limit watching k (g + 1))

pub pairs-are : (watching : List ℕ) (clusters size limit : ℕ)
    → pairs_from (clusters * size) limit watching (2 ^ (clusters * size)) 0 ≡ pairs_with watching clusters size limit
unfolding pairs_with picked
pairs-are watching clusters size limit =
    let F : ℕ → List Pair = λ x. cond (leb (how_many (clusters * size) (in_coalition x)) limit) (map (pair_of x) watching) [] in
    sym (pairs-join (clusters * size) limit watching (2 ^ (clusters * size)) 0)
    ∙ join-cong (2 ^ (clusters * size)) (λ i. F (0 + i)) F (λ i. ap F (zero-add i))

-- ---- the first hit of what is left

module _ (f : ℕ → ℕ → Bool) (g : ℕ) (R : List Pair) where
  pub hit-first : (n w : ℕ) (ws : List ℕ) → f g w ≡ true → first_hit f n (map (pair_of g) (w ∷ ws) ++ R) ≡ walk (Some (pair_of g w)) (n + 1)
  unfolding first_hit
  hit-first n w ws e = rw e refl

  pub miss-first : (n w : ℕ) (ws : List ℕ) → f g w ≡ false → first_hit f n (map (pair_of g) (w ∷ ws) ++ R) ≡ first_hit f (n + 1) (map (pair_of g) ws ++ R)
  unfolding first_hit
  miss-first n w ws e = rw e refl

pub hit-none : (f : ℕ → ℕ → Bool) (n : ℕ) → first_hit f n [] ≡ walk None n
unfolding first_hit
hit-none f n = refl

-- one observer more
pub observers-next : (watching : List ℕ) (w : ℕ) → w < length watching → drop w watching ≡ at watching w ∷ drop (w + 1) watching
observers-next watching w h = drop-cons watching w 0 h ∙ ap (λ (k : ℕ). at watching w ∷ drop k watching) (sym (add-one w))

-- one coalition more: with its observers where it has at most the limit's members, with none where it has more
module _ (n limit : ℕ) (watching : List ℕ) (g : ℕ) (below : g < 2 ^ n) where
  pairs-one : (t : Bool) → leb (ones g) limit ≡ t
      → pairs_from n limit watching (2 ^ n - g) g ≡ cond t (map (pair_of g) watching) [] ++ pairs_from n limit watching (2 ^ n - (g + 1)) (g + 1)
  unfolding pairs_from
  pairs-one t e =
      ap (λ (k : ℕ). pairs_from n limit watching k g) {x = 2 ^ n - g} {y = suc (2 ^ n - (g + 1))} (omega arith)
      ∙ ap (λ (b : Bool). cond b (map (pair_of g) watching) [] ++ pairs_from n limit watching (2 ^ n - (g + 1)) (g + 1))
      (ap (λ (m : ℕ). leb m limit) (sym (ones-many n g below)) ∙ e)

  pub pairs-kept : ones g ≤ limit → pairs_from n limit watching (2 ^ n - g) g ≡ map (pair_of g) watching ++ pairs_from n limit watching (2 ^ n - (g + 1)) (g + 1)
  pairs-kept h = pairs-one true (le-leb (ones g) limit h)

  pub pairs-skipped : limit < ones g → pairs_from n limit watching (2 ^ n - g) g ≡ pairs_from n limit watching (2 ^ n - (g + 1)) (g + 1)
  pairs-skipped h = pairs-one false (lt-leb (ones g) limit h)

pub pairs_end : (n limit : ℕ) (watching : List ℕ) (k g : ℕ) → k ≡ 0 → pairs_from n limit watching k g ≡ []
unfolding pairs_from
pairs_end n limit watching k g e = ap (λ (x : ℕ). pairs_from n limit watching x g) e
