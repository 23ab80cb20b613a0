-- The table of level 0: sums modulo q one number at a time, rows one symbol at a time, and the key table with the sums below it.
use mathlib.Core.Path.{◌≡◌, refl, sym, ap, ◌∙◌}
use mathlib.Core.Bool.{Bool, cond}
use mathlib.Core.List.{List, [], ◌++◌, append_assoc}
use Prim.Native.Nat.{ℕ, ◌+◌, ◌*◌, ◌%◌, ◌≤◌, ◌<◌}
use native.Mathlib.Nat.{mul-le-mul}
use native.Mathlib.Numerals.{add-one}
use native.Mathlib.Omega.{arith}
use lib.Dec.{eqb}
use lib.ListN.{length, take, drop, length-append, length-drop}
use lib.Seq.{length-take-le, take_at}
use borrow.Author.Tests.{eq-eqb}
use borrow.Rule.Slice.PartMut.{same_len_mid}
use Rattle.lists.specs.Lists.{join_to, at}
use Rattle.lists.specs.Sums.{sum_to}
use Rattle.lists.proofs.Sums.{sum-cong}
use Rattle.plans.specs.declared.Plan.{Plan}
use Rattle.plans.specs.Plans.{users_of}
use Rattle.vetting.specs.Walking.{cluster_sum, level_size}
use Rattle.plans.proofs.PlanBounds.{Bounds}
use Rattle.vetting.proofs.GatherLaws.{row_put, room, few-numbers}

-- ---- rows, one after the other

pub join-none : (f : ℕ → List ℕ) → [] ≡ join_to 0 f
unfolding join_to
join-none f = refl

pub join-next : (f : ℕ → List ℕ) (rate n : ℕ) (out y Z : List ℕ) → n * rate ≤ length out → length (f n) ≡ rate → y ≡ f n → take (n * rate) out ≡ join_to n f
    → take ((n + 1) * rate) (take (n * rate) out ++ (y ++ Z)) ≡ join_to (n + 1) f
unfolding join_to
join-next f rate n out y Z h l ey e =
    ap (λ (x : List ℕ). take ((n + 1) * rate) (take (n * rate) out ++ (x ++ Z))) ey
    ∙ row_put rate n out (f n) Z h l ∙ ap (λ (x : List ℕ). x ++ f n) e ∙ ap (λ (k : ℕ). join_to k f) (sym (add-one n))

-- ---- sizes

-- as many rows as a list holds are at most as many as its symbols
pub rows-below : (n rate m : ℕ) → 0 < rate → n * rate ≤ m → n ≤ m
rows-below n rate m h l = omega (arith, mul-le-mul {n₁ = n} {m₁ = 1} {n₂ = n} {m₂ = rate} (omega arith) h)

-- the rows of cluster u lie in the table
pub cluster-fits : (clusters size rate u m : ℕ) → u < clusters → clusters * size * rate ≤ m → (u * size + size) * rate ≤ m
cluster-fits clusters size rate u m h l =
    omega (
      arith,
      mul-le-mul {n₁ = u * size + size} {m₁ = rate} {n₂ = clusters * size} {m₂ = rate} (room clusters size u (clusters * size) h (omega arith))
          (omega arith),
    )

-- its key table, and the sums below that, have room on a level
pub base-room : (P : Plan) → Bounds P → users_of P * P.rate + P.clusters * P.rate ≤ level_size
base-room P w = omega (arith, few-numbers (users_of P + P.clusters) P.rate (omega (arith, w.counts.few-users, w.counts.few-clusters)) w.few-symbols)

-- ---- a table put in front, and a list put after it

module _ (n s m k : ℕ) (L K new : List ℕ) (em : m ≡ n) (ek : k ≡ s) (size : length K ≡ n) (h : n + s ≤ length L)
    (copied : new ≡ cond (eqb (length K) (length (take m (drop 0 L)))) K (take m (drop 0 L))) where
  abbrev after : List ℕ
  after = take 0 L ++ (new ++ drop m (drop 0 L))

  new_is : new ≡ K
  new_is =
      let l : length (take m L) ≡ m = length-take-le m L (omega arith) in
      copied ∙ ap (λ (t : Bool). cond t K (take m L)) (eq-eqb (length K) (length (take m L)) (omega arith))

  pub copy-length : length (take 0 L ++ (new ++ drop m (drop 0 L))) ≡ length L
  copy-length = length-append new (drop m L) ∙ omega (arith, ap length new_is, length-drop m L)

  pub both-length : (y : List ℕ) → length y ≡ s → length (take n after ++ (y ++ drop k (drop n after))) ≡ length L
  both-length y e =
      let l : length (take k (drop n after)) ≡ k = length-take-le k (drop n after) (omega (arith, copy-length, length-drop n after)) in
      same_len_mid n k after y (omega arith) ∙ copy-length

  pub both-front : (y : List ℕ) (t : ℕ) → length y ≡ s → t ≡ n + s → take t (take n after ++ (y ++ drop k (drop n after))) ≡ K ++ y
  both-front y t e et =
      let R : List ℕ = drop k (drop n after) in
      let f : take n after ≡ K = take_at new (drop m L) n (ap length new_is ∙ size) ∙ new_is in
      ap (λ (x : List ℕ). take t (x ++ (y ++ R))) f
      ∙ ap (take t) (sym (append_assoc K y R))
      ∙ take_at (K ++ y) R t (length-append K y ∙ omega arith)

-- ---- columns

-- the rows of a column sum up like one cluster
pub one-cluster : (q rows cols : ℕ) (K : List ℕ) (k : ℕ) → cluster_sum q rows cols K 0 k ≡ sum_to rows (λ i. at K (i * cols + k)) % q
unfolding cluster_sum
one-cluster q rows cols K k =
    ap (λ (s : ℕ). s % q)
    (sum-cong rows (λ v. at K ((0 * rows + v) * cols + k)) (λ i. at K (i * cols + k))
    (λ v h. ap (λ (i : ℕ). at K (i * cols + k)) (omega arith)))
