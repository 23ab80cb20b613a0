-- What growing does, step by step as the code goes; and that the levels up to its own stay.
use Prim.Native.Nat.{ℕ, zero, suc, ◌+◌, ◌-◌, ◌*◌, ◌%◌, ◌^◌, ◌≤◌, ◌<◌}
use mathlib.Core.Path.{◌≡◌, sym, ap, ap₂, ◌∙◌, subst}
use mathlib.Core.Bool.{Bool, true, false, cond, ◌&&◌}
use mathlib.Core.List.{List}
use native.Mathlib.Nat.{pow-suc, one-mul}
use native.Mathlib.Omega.{arith}
use lib.Dec.{eqb, ltb}
use lib.ListN.{length, take, drop, length-drop, take-append-drop}
use lib.Seq.{take-take, length-take-le, take_at}
use borrow.Author.Tests.{eq-eqb, ne_eqb, lt-ltb, le-ltb}
use Rattle.matrices.specs.Tables.{has_pivot, eliminated}
use Rattle.matrices.proofs.Elimination.{eliminated-length}
use Rattle.lists.proofs.BitLaws.{one_shl}
use Rattle.plans.specs.declared.Plan.{Plan}
use Rattle.plans.specs.Plans.{plan}
use Rattle.vetting.specs.Walking.{rows_in, level_at, level_size, levels_size, through, descended}
use Rattle.vetting.specs.Growing.{is_quiet_at, grown}
use Rattle.vetting.proofs.LevelLaws.{level-front, level-here}
use Rattle.vetting.proofs.GatherLaws.{few-numbers}

-- ---- by cases

yes-is : (b x y : Bool) → b ≡ true → cond b x y ≡ x
yes-is b x y e = ap (λ (c : Bool). cond c x y) e

no-is : (b x y : Bool) → b ≡ false → cond b x y ≡ y
no-is b x y e = ap (λ (c : Bool). cond c x y) e

grown-at : (P : Plan) (i k g : ℕ) (U : List ℕ) → k ≡ P.limit → is_quiet_at P g U ≡ grown P i k g U
unfolding grown
grown-at P zero k g U e = sym (yes-is (eqb k P.limit) (is_quiet_at P g U) true (eq-eqb k P.limit e))
grown-at P (suc i) k g U e = sym (yes-is (eqb k P.limit) (is_quiet_at P g U) _ (eq-eqb k P.limit e))

-- g has as many members as the limit says
pub grown-full : (q clusters size limit cols i k g : ℕ) (U : List ℕ) → k ≡ limit
    → is_quiet_at (plan clusters size 0 cols q) g U ≡ grown (plan clusters size limit cols q) i k g U
unfolding is_quiet_at
grown-full q clusters size limit cols i k g U e = grown-at (plan clusters size limit cols q) i k g U e

module _ (P : Plan) (k g : ℕ) (U : List ℕ) where
  few : k < P.limit → eqb k P.limit ≡ false
  few l = ne_eqb k P.limit (λ e. absurd (omega arith))

  -- too few can come in
  pub grown-few : (i : ℕ) → i + k < P.limit → true ≡ grown P i k g U
  unfolding grown
  grown-few zero l = sym (no-is (eqb k P.limit) (is_quiet_at P g U) true (few (omega arith)))
  grown-few (suc i) l =
      sym (no-is (eqb k P.limit) (is_quiet_at P g U) _ (few (omega arith)) ∙ yes-is (ltb (suc i + k) P.limit) true _ (lt-ltb (suc i + k) P.limit l))

  -- user j comes in, or does not
  abbrev Next : ℕ → ℕ → Type 0
  Next i j =
      grown P i k g U
      ≡ (has_pivot (rows_in P) P.rate j U
      && (grown P j (k + 1) (g + 2 ^ j) (eliminated P.q (rows_in P) P.rate j U) && grown P j k g U))

  grown-suc : (i : ℕ) → k < P.limit → P.limit ≤ suc i + k → Next (suc i) i
  unfolding grown
  grown-suc i n l =
      no-is (eqb k P.limit) (is_quiet_at P g U) _ (few n)
      ∙ no-is (ltb (suc i + k) P.limit) true _ (le-ltb (suc i + k) P.limit l)

  grown-step : (i : ℕ) → k < P.limit → 0 < i → P.limit ≤ i + k → Next i (i - 1)
  grown-step zero n s l = absurd (omega arith)
  grown-step (suc i) n s l = subst (Next (suc i)) {x = i} {y = suc i - 1} (omega arith) (grown-suc i n l)

-- ---- the three ways that a step ends

first-fails : (a b c x : Bool) → x ≡ (a && (b && c)) → a ≡ false → false ≡ x
first-fails a b c x e f = sym (e ∙ ap (λ (z : Bool). z && (b && c)) f)

second-fails : (a b c x : Bool) → x ≡ (a && (b && c)) → a ≡ true → b ≡ false → false ≡ x
second-fails a b c x e f h = sym (e ∙ ap₂ (λ (y z : Bool). y && (z && c)) f h)

third-decides : (a b c x : Bool) → x ≡ (a && (b && c)) → a ≡ true → b ≡ true → c ≡ x
third-decides a b c x e f h = sym (e ∙ ap₂ (λ (y z : Bool). y && (z && c)) f h)

-- ---- levels

-- lists that are equal up to the end of level k have the same level k
same-level : (n k : ℕ) (A L : List ℕ) → n ≤ level_size → through k ≤ length A → through k ≤ length L
    → take (through k) A ≡ take (through k) L → level_at n A k ≡ level_at n L k
same-level n k A L h a l e =
    let m : ℕ = through k in
    let part : (X : List ℕ) → m ≤ length X → level_at n X k ≡ level_at n (take m X) k
    = λ X x. ap (λ (Y : List ℕ). level_at n Y k) (sym (take-append-drop m X)) ∙ level-front n k (take m X) (drop m X) (omega (arith, length-take-le m X x)) in
    part A a ∙ ap (λ (Y : List ℕ). level_at n Y k) e ∙ sym (part L l)

-- what stays up to the next level stays up to this one
stays-below : (k : ℕ) (A L : List ℕ) → take (through (k + 1)) A ≡ take (through (k + 1)) L → take (through k) A ≡ take (through k) L
stays-below k A L e =
    let h : through k ≤ through (k + 1) = omega arith in
    sym (take-take (through k) (through (k + 1)) A h) ∙ ap (take (through k)) e ∙ take-take (through k) (through (k + 1)) L h

module _ (q rows cols k i : ℕ) (L : List ℕ) (h : (k + 1) * level_size + rows * cols ≤ length L) where
  front : length (take ((k + 1) * level_size) L) ≡ (k + 1) * level_size
  front = length-take-le ((k + 1) * level_size) L (omega arith)

  -- the levels up to k stay
  descend-stays : take (through k) (descended q rows cols (k + 1) i L) ≡ take (through k) L
  descend-stays =
      let e : through k ≡ (k + 1) * level_size = omega arith in
      ap (λ (n : ℕ). take n (descended q rows cols (k + 1) i L)) e
      ∙ take_at (take ((k + 1) * level_size) L) _ ((k + 1) * level_size) front
      ∙ ap (λ (n : ℕ). take n L) (sym e)

  -- the next level is this one, eliminated
  descend-level : level_at (rows * cols) (descended q rows cols (k + 1) i L) (k + 1) ≡ eliminated q rows cols i (level_at (rows * cols) L k)
  descend-level =
      let old : List ℕ = level_at (rows * cols) L (k + 1 - 1) in
      let size : length old ≡ rows * cols
      = length-take-le (rows * cols) (drop ((k + 1 - 1) * level_size) L) (omega (arith, length-drop ((k + 1 - 1) * level_size) L)) in
      level-here (rows * cols) 0 (k + 1) L (omega arith) (eliminated q rows cols i old) (drop ((k + 1) * level_size + rows * cols) L)
      (eliminated-length q rows cols i old (sym size) ∙ size)
      ∙ ap (λ (d : ℕ). eliminated q rows cols i (level_at (rows * cols) L d)) {x = k + 1 - 1} {y = k} (omega arith)

-- ---- the machine's 1 << j at a width of 16

shl_is : (j : ℕ) → j < 16 → 1 * 2 ^ j % 65536 ≡ 2 ^ j
shl_is j h = one_shl 16 j h ∙ one-mul (2 ^ j)

two-halves : (i : ℕ) → 0 < i → 2 ^ (i - 1) + 2 ^ (i - 1) ≡ 2 ^ i
two-halves zero n = absurd (omega arith)
two-halves (suc i) n =
    let e : suc i - 1 ≡ i = omega arith in
    ap (λ (j : ℕ). 2 ^ j + 2 ^ j) e ∙ omega (arith, pow-suc 2 i)

-- ---- a call, from the lists that it goes through: L, what `descend` makes of it, and what the first call leaves

-- one that asks for user i - 1
pub record Step (q clusters size limit cols i k g : ℕ) (L : List ℕ) : Type 0 where
  pub len : length L ≡ levels_size
  pub few : clusters ≤ 8
  pub users : clusters * size ≤ 16
  pub narrow : cols ≤ 16
  pub within : k < limit
  pub low : i + k ≤ 16
  pub room : g + 2 ^ i ≤ 65536
  pub some : 0 < i
  pub enough : limit ≤ i + k

module _ {q clusters size limit cols i k g : ℕ} {L : List ℕ} (c : Step q clusters size limit cols i k g L) where
  -- the user's bit, and the coalition with it
  pub bit_is : 1 * 2 ^ (i - 1) % 65536 ≡ 2 ^ (i - 1)
  bit_is = shl_is (i - 1) (omega (arith, c.low, c.some))

  pub room-half : g + 2 ^ (i - 1) + 2 ^ (i - 1) ≤ 65536
  room-half = omega (arith, two-halves i c.some, c.room)

  abbrev P : Plan
  P = plan clusters size limit cols q

  abbrev rows : ℕ
  rows = clusters * size + clusters

  abbrev m : ℕ
  m = through k

  abbrev Answer : Bool → Type 0
  Answer r = r ≡ grown P i k g (level_at (rows * cols) L k)

  small : rows * cols ≤ level_size
  small = few-numbers rows cols (omega (arith, c.few, c.users)) c.narrow

  fits : (k + 1) * level_size + rows * cols ≤ length L
  fits = omega (arith, small, c.len, c.low, c.some)

  -- the three that a step asks for
  abbrev one : Bool
  one = has_pivot rows cols (i - 1) (level_at (rows * cols) L k)

  abbrev two : Bool
  two = grown P (i - 1) (k + 1) (g + 2 ^ (i - 1)) (eliminated q rows cols (i - 1) (level_at (rows * cols) L k))

  abbrev three : Bool
  three = grown P (i - 1) k g (level_at (rows * cols) L k)

  abbrev answer : Bool
  answer = grown P i k g (level_at (rows * cols) L k)

  step : answer ≡ (one && (two && three))
  step = grown-step P k g (level_at (rows * cols) L k) i c.within c.some c.enough

  -- the row is 0
  module _ (r : Bool) (pivot : r ≡ has_pivot rows cols (i - 1) (level_at (rows * cols) L (k + 1 - 1))) where
    here : r ≡ one
    here = pivot ∙ ap (λ (d : ℕ). has_pivot rows cols (i - 1) (level_at (rows * cols) L d)) {x = k + 1 - 1} {y = k} (omega arith)

    pub ends-at-row : r ≡ false → Answer false
    ends-at-row e = first-fails one two three answer step (sym here ∙ e)

    -- it is not, and D is what `descend` makes
    module _ (D : List ℕ) (made : D ≡ descended q rows cols (k + 1) (i - 1) L) where
      pub stays-once : take m D ≡ take m L
      stays-once = ap (take m) made ∙ descend-stays q rows cols k (i - 1) L fits

      -- the call with one member more
      module _ (r₁ : Bool) (found : r₁ ≡ grown P (i - 1) (k + 1) (g + 1 * 2 ^ (i - 1) % 65536) (level_at (rows * cols) D (k + 1))) where
        inner : r₁ ≡ two
        inner =
            found
            ∙ ap₂ (λ (h : ℕ) (U : List ℕ). grown P (i - 1) (k + 1) h U)
            (ap (λ (z : ℕ). g + z) bit_is)
            (ap (λ (X : List ℕ). level_at (rows * cols) X (k + 1)) made ∙ descend-level q rows cols k (i - 1) L fits)

        pub ends-inside : r ≡ true → r₁ ≡ false → Answer false
        ends-inside e f = second-fails one two three answer step (sym here ∙ e) (sym inner ∙ f)

        -- A is what it leaves
        module _ (A : List ℕ) (len_a : length A ≡ levels_size) (left : take (through (k + 1)) A ≡ take (through (k + 1)) D) where
          pub stays_twice : take m A ≡ take m L
          stays_twice = stays-below k A D left ∙ stays-once

          pub ends-after : r ≡ true → r₁ ≡ true → (r₂ : Bool) → r₂ ≡ grown P (i - 1) k g (level_at (rows * cols) A k) → Answer r₂
          ends-after e f r₂ s =
              s
              ∙ ap (grown P (i - 1) k g) (same-level (rows * cols) k A L small (omega arith) (omega arith) stays_twice)
              ∙ third-decides one two three answer step (sym here ∙ e) (sym inner ∙ f)
