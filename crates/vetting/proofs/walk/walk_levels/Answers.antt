use mathlib.Core.Path.{◌≡◌, refl, sym, ap, ◌∙◌, subst}
use mathlib.Core.Bool.{Bool}
use mathlib.Core.List.{List, ◌++◌, map}
use Prim.Native.Nat.{ℕ, ◌+◌, ◌-◌, ◌*◌, ◌%◌, ◌^◌, ◌≤◌, ◌<◌}
use native.Mathlib.Nat.{one-mul, pos_of_ne-zero, sub-zero}
use native.Mathlib.Omega.{arith}
use lib.Count.{ones-le}
use lib.Pow.{pow_pos, pow_mono}
use lib.ListN.{drop, drop_of_length-le}
use Rattle.lists.specs.Lists.{at}
use Rattle.vetting.specs.declared.Pair.{Pair}
use Rattle.vetting.specs.declared.Walked.{Walked}
use Rattle.plans.specs.Plans.{plan}
use Rattle.vetting.specs.Walking.{watch_mask, dependent, table_of, hit, first_hit, walked, most_rows}
use Rattle.lists.proofs.BitLaws.{one_shl, low_ones}
use Rattle.vetting.proofs.WalkLaws.{Holds, Full, to-next, full-none, full-skip, full_at, full-step, pair_of, observers-next}
use Rattle.vetting.proofs.WalkLaws.{pairs_from, pairs-are, pairs-kept, pairs-skipped, pairs_end, hit-first, miss-first, hit-none}
use Rattle.vetting.proofs.walk.walk_levels.Invariants.{base, rest, most_observers}
use Rattle.vetting.proofs.walk.walk_levels.Goals as goal
use Rattle.vetting.proofs.walk.walk_levels.Goals.{After-leaks_to, At-walk, Else-g-top, Joined-g-ne0, Joined-k-limit, Start, Then-k-limit}
use Rattle.vetting.proofs.walk.walk_levels.Goals.{then-g-ne0, else-g-ne0, then-k-limit+else-loop-observer-test, else-k-limit}

-- what the call is about: the observers, the table, the pairs after a coalition, and over a table the test of a pair and the walk
abbrev watching_of : Start → List ℕ
watching_of s = s.args.watching.now

abbrev base_of : Start → List ℕ
base_of s = base s.args.clusters s.args.size s.args.cols s.args.levels.now

abbrev rest_of : Start → ℕ → List Pair
rest_of s g = rest s.args.clusters s.args.size s.args.limit (watching_of s) g

abbrev hit_of : Start → List ℕ → ℕ → ℕ → Bool
hit_of s T = hit (plan s.args.clusters s.args.size s.args.limit s.args.cols s.args.q) s.args.both T

abbrev walked_of : Start → List ℕ → Walked
walked_of s T =
    walked (plan s.args.clusters s.args.size s.args.limit s.args.cols s.args.q) s.args.both (watching_of s) T

-- the machine's 1 << n
top-is : (n : ℕ) → n ≤ 16 → 1 * 2 ^ n % 2 ^ 32 ≡ 2 ^ n
top-is n h = one_shl 32 n (omega arith) ∙ one-mul (2 ^ n)

-- a coalition's number has 16 digits, and the tables have 24 rows
small : (c : At-walk) → c.walk.g < 2 ^ 16
small c = omega (arith, c.walk.invariant.0, pow_mono c.requires.3)

rows_few : (s : Start) → s.args.clusters * s.args.size + s.args.clusters ≤ most_rows
rows_few s = omega (arith, s.requires.1, s.requires.3)

-- the coalition in hand has its observers before it
kept : (c : Then-k-limit)
    → (let g : ℕ = c.walk.g in let s₀ = (goal.at.Then-k-limit c).Start in first_hit (hit_of s₀ (base_of s₀)) c.walk.looked (map (pair_of g) (watching_of s₀) ++ rest_of s₀ g) ≡ walked_of s₀ (base_of s₀))
kept c =
    let g : ℕ = c.walk.g in
    let s₀ = (goal.at.Then-k-limit c).Start in let a = s₀.args in
    let i = c.walk.invariant in
    ap (first_hit (hit_of s₀ (base_of s₀)) c.walk.looked)
    (sym (pairs-kept (a.clusters * a.size) a.limit (watching_of s₀) g i.0 (omega (arith, c.if-k-limit.true))))
    ∙ i.3

full-zero : (q rows cols t : ℕ) (T L : List ℕ) (g : ℕ) → g ≡ 0 → Holds q rows cols t T L g → Full q rows cols t T L g
full-zero q rows cols t T L g z H =
    subst (λ (x : ℕ). Full q rows cols t T L x) (sym z) (full-none q rows cols t T L (subst (λ (x : ℕ). Holds q rows cols t T L x) z H))

-- each level up to that of g is right
full : (c : Joined-g-ne0)
    → (let s₀ = (goal.at.Joined-g-ne0 c).Start in let a = s₀.args in Full a.q (a.clusters * a.size + a.clusters) a.cols a.limit
    (base_of s₀) c.if-g-ne0.levels c.walk.g)
full c =
    let s₀ = (goal.at.Joined-g-ne0 c).Start in let a = s₀.args in
    let g : ℕ = c.walk.g in
    let L : List ℕ = c.walk.levels in
    let rows : ℕ = a.clusters * a.size + a.clusters in
    let T : List ℕ = (base_of s₀) in
    let H : Holds a.q rows a.cols a.limit T L g = c.walk.invariant.1 in
    elim c.if-g-ne0.branch [
      | then-g-ne0 w ↦
          subst (λ (X : List ℕ). Full a.q rows a.cols a.limit T X g) (sym (w.levels-is ∙ w.descend.ensures.1))
          (full-step a.q rows a.cols a.limit T L g (pos_of_ne-zero w.if-g-ne0.true) (small (goal.at.Joined-g-ne0 c).At-walk) (rows_few s₀) s₀.requires.4 H
          (omega (arith, c.if-k-limit.true)))
      | else-g-ne0 w ↦
          subst (λ (X : List ℕ). Full a.q rows a.cols a.limit T X g) (sym w.levels-is) (full-zero a.q rows a.cols a.limit T L g w.if-g-ne0.false H)
    ]

-- the test of an observer is that of the definition
tested : (c : After-leaks_to)
    → (let s₀ = (goal.at.After-leaks_to c).Start in let a = s₀.args in
    c.leaks_to.result ≡ hit_of s₀ (base a.clusters a.size a.cols c.if-g-ne0.levels) c.walk.g (at (watching_of s₀) c.loop-observer.observer-index))
tested c =
    let s₀ = (goal.at.After-leaks_to c).Start in
    let a = s₀.args in
    let rows : ℕ = a.clusters * a.size + a.clusters in
    let g : ℕ = c.walk.g in
    let w : ℕ = at (watching_of s₀) c.loop-observer.observer-index in
    let G = full (goal.at.After-leaks_to c).Joined-g-ne0 in
    c.leaks_to.ensures
    ∙ ap (dependent a.q rows a.cols (watch_mask a.clusters a.size a.both g w) g)
    (full_at a.q rows a.cols a.limit (base_of s₀) c.if-g-ne0.levels g (omega (arith, c.if-k-limit.true)) G
    ∙ ap (λ (X : List ℕ). table_of a.q rows a.cols X g) (sym G.base))

-- after a coalition, looked at or not
joined : (c : Joined-k-limit)
    → (let s₀ = (goal.at.Joined-k-limit c).Start in let a = s₀.args in Full a.q (a.clusters * a.size + a.clusters) a.cols a.limit (base_of s₀)
    c.if-k-limit.levels c.walk.g)
joined c =
    let s₀ = (goal.at.Joined-k-limit c).Start in let a = s₀.args in
    let g : ℕ = c.walk.g in
    let rows : ℕ = a.clusters * a.size + a.clusters in
    let T : List ℕ = (base_of s₀) in
    elim c.if-k-limit.branch [
      | then-k-limit+else-loop-observer-test w ↦
          elim w.if-g-ne0.branch [
            | then-g-ne0 v ↦
                subst (λ (X : List ℕ). Full a.q rows a.cols a.limit T X g) (sym (w.levels-is ∙ v.levels-is ∙ v.descend.ensures.1))
                (full-step a.q rows a.cols a.limit T c.walk.levels g (pos_of_ne-zero v.if-g-ne0.true) (small (goal.at.Joined-k-limit c).At-walk) (rows_few s₀)
                s₀.requires.4 c.walk.invariant.1 (omega (arith, w.if-k-limit.true)))
            | else-g-ne0 v ↦
                subst (λ (X : List ℕ). Full a.q rows a.cols a.limit T X g) (sym (w.levels-is ∙ v.levels-is))
                (full-zero a.q rows a.cols a.limit T c.walk.levels g v.if-g-ne0.false c.walk.invariant.1)
          ]
      | else-k-limit w ↦
          subst (λ (X : List ℕ). Full a.q rows a.cols a.limit T X g) (sym w.levels-is)
          (full-skip a.q rows a.cols a.limit T c.walk.levels g w.if-k-limit.false c.walk.invariant.1)
    ]

-- the coalition is behind, or was none
over : (c : Joined-k-limit)
    → (let s₀ = (goal.at.Joined-k-limit c).Start in first_hit (hit_of s₀ (base_of s₀)) c.if-k-limit.looked (rest_of s₀ c.walk.g) ≡ walked_of s₀ (base_of s₀))
over c =
    let s₀ = (goal.at.Joined-k-limit c).Start in let a = s₀.args in
    let g : ℕ = c.walk.g in
    let i = c.walk.invariant in
    let R : List Pair = rest_of s₀ g in
    elim c.if-k-limit.branch [
      | then-k-limit+else-loop-observer-test w ↦
          let L : List ℕ = w.if-g-ne0.levels in
          let n : ℕ = w.loop-observer.looked in
          let F : Full a.q (a.clusters * a.size + a.clusters) a.cols a.limit (base_of s₀) L g
          = subst (λ (X : List ℕ). Full a.q (a.clusters * a.size + a.clusters) a.cols a.limit (base_of s₀) X g) w.levels-is (joined c) in
          ap (λ (n : ℕ). first_hit (hit_of s₀ (base_of s₀)) n R) w.looked-is
          ∙ subst (λ (X : List ℕ). first_hit (hit_of s₀ X) n R ≡ walked_of s₀ X) F.base
          (ap (λ (l : List ℕ). first_hit (hit_of s₀ (base a.clusters a.size a.cols L)) n (map (pair_of g) l ++ R))
          (sym (drop_of_length-le (watching_of s₀) w.loop-observer-test.false)) ∙ w.loop-observer.invariant.1)
      | else-k-limit w ↦
          ap (λ (n : ℕ). first_hit (hit_of s₀ (base_of s₀)) n R) w.looked-is
          ∙ ap (first_hit (hit_of s₀ (base_of s₀)) c.walk.looked)
          (sym (pairs-skipped (a.clusters * a.size) a.limit (watching_of s₀) g i.0 w.if-k-limit.false))
          ∙ i.3
    ]

-- at most so many pairs were looked at
few : (c : Joined-k-limit) → c.if-k-limit.looked ≤ (c.walk.g + 1) * most_observers
few c =
    elim c.if-k-limit.branch [
      | then-k-limit+else-loop-observer-test w ↦ omega (arith, w.loop-observer.invariant.0, c.requires.5)
      | else-k-limit w ↦ omega (arith, c.walk.invariant.2)
    ]

-- the coalition in hand is not the last
more : (c : Else-g-top)
    → (let a = c.args in c.walk.g + 1 < 2 ^ (a.clusters * a.size))
more c =
    let s = c.walk in
    let n : ℕ = c.args.clusters * c.args.size in
    let e : 1 * 2 ^ n % 2 ^ 32 ≡ 2 ^ n = top-is n c.requires.3 in
    let x : (s.g ≡ 2 ^ n - 1) → ⊥ = λ x. c.if-g-top.false (x ∙ ap (λ (k : ℕ). k - 1) (sym e)) in
    omega (arith, x, s.invariant.0)

pub walk-init : goal.walk-init
walk-init c =
    let s₀ = (goal.at.walk-init c).Start in let a = s₀.args in
    let n : ℕ = a.clusters * a.size in (
      pow_pos n,
      record { size = s₀.requires.0; base = refl; above = λ j l o. absurd (omega arith) },
      omega arith,
      ap (first_hit (hit_of s₀ (base_of s₀)) 0)
          (ap (λ (k : ℕ). pairs_from n a.limit (watching_of s₀) k 0) (sub-zero (2 ^ n)) ∙ pairs-are (watching_of s₀) a.clusters a.size a.limit),
    )

pub descend-requires : goal.descend-requires
descend-requires c =
    let d = (goal.at.descend-requires c).At-walk in
    let s = (goal.at.descend-requires c).Start in (
      d.walk.invariant.1.size,
      rows_few s,
      s.requires.4,
      omega (arith, low_ones 16 d.walk.g (pos_of_ne-zero c.if-g-ne0.true) (small d)),
      ones-le 16
          d.walk.g (small d),
    )

pub loop-observer-init : goal.loop-observer-init
loop-observer-init c =
    let s₀ = (goal.at.loop-observer-init c).Start in
    let g : ℕ = c.walk.g in
    let looked : ℕ = c.walk.looked in (
      omega (arith, c.walk.invariant.2),
      subst (λ (X : List ℕ). first_hit (hit_of s₀ X) looked (map (pair_of g) (watching_of s₀) ++ rest_of s₀ g) ≡ walked_of s₀ X)
          (sym (full (goal.at.loop-observer-init c).Joined-g-ne0).base) (kept (goal.at.loop-observer-init c).Then-k-limit),
    )

pub loop-observer-preserved : goal.loop-observer-preserved
loop-observer-preserved c =
    let s₀ = (goal.at.loop-observer-preserved c).Start in
    let a = s₀.args in
    let g : ℕ = c.walk.g in
    let w : ℕ = c.loop-observer.observer-index in
    let f = hit_of s₀ (base a.clusters a.size a.cols c.if-g-ne0.levels) in
    let R : List Pair = rest_of s₀ g in
    let looked : ℕ = c.loop-observer.looked in
    let h = c.loop-observer-test.true in (
      omega (arith, c.loop-observer.invariant.0),
      sym (miss-first f g R looked (at (watching_of s₀) w) (drop (w + 1) (watching_of s₀)) (sym (tested (goal.at.loop-observer-preserved c).After-leaks_to) ∙ c.if-leaks_to.false))
          ∙ ap (λ (l : List ℕ). first_hit f looked (map (pair_of g) l ++ R)) (sym (observers-next (watching_of s₀) w h))
          ∙ c.loop-observer.invariant.1,
    )

pub walk-preserved : goal.walk-preserved
walk-preserved c = (more c, to-next _ _ _ _ _ _ _ (joined (goal.at.walk-preserved c).Joined-k-limit), few (goal.at.walk-preserved c).Joined-k-limit, over (goal.at.walk-preserved c).Joined-k-limit)

pub returns-then-leaks_to : goal.returns-then-leaks_to
returns-then-leaks_to c =
    let s₀ = (goal.at.returns-then-leaks_to c).Start in
    let a = s₀.args in
    let g : ℕ = c.walk.g in
    let w : ℕ = c.loop-observer.observer-index in
    let f = hit_of s₀ (base a.clusters a.size a.cols c.if-g-ne0.levels) in
    let R : List Pair = rest_of s₀ g in
    let looked : ℕ = c.loop-observer.looked in
    sym (hit-first f g R looked (at (watching_of s₀) w) (drop (w + 1) (watching_of s₀)) (sym (tested (goal.at.returns-then-leaks_to c).After-leaks_to) ∙ c.if-leaks_to.true))
    ∙ ap (λ (l : List ℕ). first_hit f looked (map (pair_of g) l ++ R)) (sym (observers-next (watching_of s₀) w c.loop-observer-test.true))
    ∙ c.loop-observer.invariant.1
    ∙ ap (walked_of s₀) (full (goal.at.returns-then-leaks_to c).Joined-g-ne0).base

pub returns-then-g-top : goal.returns-then-g-top
returns-then-g-top c =
    let s₀ = (goal.at.returns-then-g-top c).Start in let a = s₀.args in
    let n : ℕ = a.clusters * a.size in
    let g : ℕ = c.walk.g in
    let e : 1 * 2 ^ n % 2 ^ 32 ≡ 2 ^ n = top-is n s₀.requires.3 in
    let l : g ≡ 2 ^ n - 1 = c.if-g-top.true ∙ ap (λ (k : ℕ). k - 1) e in
    let f = hit_of s₀ (base_of s₀) in
    let looked : ℕ = c.if-k-limit.looked in
    sym (ap (first_hit f looked) (pairs_end n a.limit (watching_of s₀) (2 ^ n - (g + 1)) (g + 1) (omega (arith, pow_pos n))) ∙ hit-none f looked)
    ∙ over (goal.at.returns-then-g-top c).Joined-k-limit
