-- The rows that the masks choose are those of the condition on ranks: a relay's users outside the coalition, the sums of the open clusters before the
-- last, and the users of two clusters outside the coalition.
use mathlib.Core.Path.{◌≡◌, refl, sym, ap, ap₂, ◌∙◌}
use mathlib.Core.Logic.{◌⊎◌, inl, inr}
use mathlib.Core.Bool.{Bool, true, false, cond, not, ◌&&◌, ◌||◌, and-true, and-false, or-true, or-false}
use mathlib.Core.List.{List, [], ◌∷◌, ◌++◌, append-nil}
use Prim.Native.Nat.{ℕ, zero, suc, ◌+◌, ◌*◌, ◌/◌, ◌%◌, ◌^◌, ◌≤◌, ◌<◌}
use native.Mathlib.Nat.{mul-le-mul, div-div-eq-div-mul, div-add-mod', div-eq_of_lt-le, mod-lt}
use native.Mathlib.Numerals.{add-one}
use native.Mathlib.Decide.{dec_lt}
use native.Mathlib.Omega.{arith}
use lib.Dec.{lit<, eqb, ltb, leb, ltb→lt}
use lib.Pow.{pow-add}
use borrow.Author.Tests.{eq-eqb, ne_eqb, lt-ltb, le-ltb, le-leb, lt-leb}
use Rattle.lists.specs.Search.{any_to}
use Rattle.lists.proofs.Searches.{T_and, any_found, not-T→false, all-cong}
use Rattle.lists.specs.Bits.{has_bit}
use Rattle.lists.specs.Lists.{picked}
use Rattle.secrecy.specs.Model.{Pool, users, in_coalition, in_cluster, in_either}
use Rattle.secrecy.proofs.RankCondition.{outside, has_outsider, tested}
use Rattle.vetting.specs.Walking.{chosen, cluster_mask, outsider_in, outsider_mask, tested_mask, joint_mask, watch_mask}
use Rattle.lists.proofs.BitLaws.{lt-or-ge, mask-bits, mask-under, mask-from, mask-has, bit-above, all_ones}
use Rattle.vetting.proofs.PickedLaws.{picked-cong, picked-nothing, picked-split}

-- ---- clusters with outsiders

-- the bits of a shifted number
shifted-bit : (g a v : ℕ) → in_coalition (g / 2 ^ a) v ≡ in_coalition g (a + v)
unfolding has_bit
shifted-bit g a v =
    ap (λ (z : ℕ). eqb (z % 2) 1) (div-div-eq-div-mul g (2 ^ a) (2 ^ v) ∙ ap (λ (z : ℕ). g / z) (sym (pow-add 2 a v)))

any-cong : (n : ℕ) (f h : ℕ → Bool) → ((k : ℕ) → f k ≡ h k) → any_to n f ≡ any_to n h
unfolding any_to
any-cong zero f h e = refl
any-cong (suc n) f h e = ap₂ ◌||◌ (any-cong n f h e) (e n)

outsider-is : (P : Pool) (g u : ℕ) → outsider_in P.size g u ≡ has_outsider P g u
unfolding has_outsider
outsider-is P g u =
    ap not (all_ones (g / 2 ^ (u * P.size)) P.size
    ∙ all-cong P.size (in_coalition (g / 2 ^ (u * P.size))) (λ v. in_coalition g (u * P.size + v)) (λ v _. shifted-bit g (u * P.size) v))

-- ---- those before the last of them

module _ (size g : ℕ) where
  -- is some cluster below k, and after u, one of them?
  unfoldable after : ℕ → ℕ → Bool
  after k u = any_to k (λ w. ltb u w && outsider_in size g w)

  after_none : (k u : ℕ) → k ≤ u → after k u ≡ false
  unfolding after
  after_none k u h =
      not-T→false (any_to k (λ w. ltb u w && outsider_in size g w))
      (λ t.
      let (w, l, f) = any_found k (λ w. ltb u w && outsider_in size g w) t in
      absurd (omega (arith, ltb→lt u w (T_and (ltb u w) (outsider_in size g w) f).0)))

  tested-next : (k u : ℕ) (t : Bool) → Dec (u < k) → in_coalition (tested_mask size g k) u ≡ (outsider_in size g u && after k u)
      → in_coalition (cond t (outsider_mask size g k) (tested_mask size g k)) u ≡ (outsider_in size g u && (after k u || (ltb u k && t)))
  unfolding outsider_mask
  tested-next k u true (yes h) ih =
      mask-has (outsider_in size g) k u
      ∙ ap (λ (x : Bool). x && outsider_in size g u) (lt-ltb u k h)
      ∙ sym (ap (λ (x : Bool). outsider_in size g u && (after k u || (x && true))) (lt-ltb u k h)
      ∙ ap (λ (x : Bool). outsider_in size g u && x) (or-true (after k u))
      ∙ and-true (outsider_in size g u))
  tested-next k u true (no h) ih =
      mask-has (outsider_in size g) k u
      ∙ ap (λ (x : Bool). x && outsider_in size g u) (le-ltb u k (omega arith))
      ∙ sym (ap₂ (λ (y x : Bool). outsider_in size g u && (y || (x && true))) (after_none k u (omega arith)) (le-ltb u k (omega arith))
      ∙ and-false (outsider_in size g u))
  tested-next k u false d ih =
      ih ∙ sym (ap (λ (x : Bool). outsider_in size g u && (after k u || x)) (and-false (ltb u k)) ∙ ap (λ (x : Bool). outsider_in size g u && x)
      (or-false (after k u)))

  tested-bits : (k u : ℕ) → in_coalition (tested_mask size g k) u ≡ (outsider_in size g u && after k u)
  unfolding tested_mask after any_to
  tested-bits zero u = bit-above 0 0 u (lit< tt) (omega arith) ∙ sym (and-false (outsider_in size g u))
  tested-bits (suc k) u = tested-next k u (outsider_in size g k) (dec_lt u k) (tested-bits k u)

-- the clusters whose sums the server watches
pub tested-is : (P : Pool) (g u : ℕ) → in_coalition (tested_mask P.size g P.clusters) u ≡ tested P g u
unfolding tested after
tested-is P g u =
    tested-bits P.size g P.clusters u
    ∙ ap₂ ◌&&◌ (outsider-is P g u)
    (any-cong P.clusters (λ w. ltb u w && outsider_in P.size g w) (λ w. ltb u w && has_outsider P g w)
    (λ w. ap (λ (x : Bool). ltb u w && x) (outsider-is P g w)))

-- ---- the users of a cluster

cluster-is : (P : Pool) (u i : ℕ) → 1 ≤ P.size → in_coalition (cluster_mask P.size u) i ≡ in_cluster P u i
unfolding in_cluster
cluster-is P u i s = mask-bits P.size (u * P.size) i ∙ go (lt-or-ge i (u * P.size)) (lt-or-ge i (u * P.size + P.size))
  where
    parts : i / P.size * P.size + i % P.size ≡ i
    parts = div-add-mod' i P.size

    small : i % P.size < P.size
    small = mod-lt i s

    go : (i < u * P.size) ⊎ (u * P.size ≤ i) → (i < u * P.size + P.size) ⊎ (u * P.size + P.size ≤ i)
        → (leb (u * P.size) i && ltb i (u * P.size + P.size)) ≡ eqb (i / P.size) u
    go (inl l) b =
        ap (λ (x : Bool). x && ltb i (u * P.size + P.size)) (lt-leb (u * P.size) i l)
        ∙ sym (ne_eqb (i / P.size) u (λ e. absurd (omega (arith, parts, ap (λ (z : ℕ). z * P.size) e))))
    go (inr l) (inl h) =
        ap₂ ◌&&◌ (le-leb (u * P.size) i l) (lt-ltb i (u * P.size + P.size) h)
        ∙ sym (eq-eqb (i / P.size) u (div-eq_of_lt-le {k = u} P.size {m = i} l (omega arith)))
    go (inr l) (inr h) =
        ap₂ ◌&&◌ (le-leb (u * P.size) i l) (le-ltb i (u * P.size + P.size) h)
        ∙ sym (ne_eqb (i / P.size) u (λ e. absurd (omega (arith, parts, small, ap (λ (z : ℕ). z * P.size) e))))

-- ---- what is watched

module _ (P : Pool) (g : ℕ) (low : g < 2 ^ users P) (f : ℕ → List ℕ) where
  -- the rows of a mask outside the coalition
  abbrev of_mask : ℕ → List (List ℕ)
  of_mask m = picked (users P + P.clusters) (chosen m g) (λ i. f i ∷ [])

  -- with the joint observer's mask `both`
  abbrev pub watched_by : ℕ → ℕ → List (List ℕ)
  watched_by both w = of_mask (watch_mask P.clusters P.size both g w)

  -- the rows from number `users` on are the clusters'
  split : (m : ℕ) → of_mask m ≡ picked (users P) (chosen m g) (λ i. f i ∷ [])
      ++ picked P.clusters (λ u. chosen m g (users P + u)) (λ u. f (users P + u) ∷ [])
  split m = picked-split (users P) P.clusters (chosen m g) (λ i. f i ∷ [])

  pub server-watches : (both : ℕ) → watched_by both 0 ≡ picked P.clusters (tested P g) (λ u. f (users P + u) ∷ [])
  server-watches both =
      let m : ℕ = tested_mask P.size g P.clusters in
      split (m * 2 ^ users P)
      ∙ ap₂ ◌++◌
      (picked-nothing (users P) (chosen (m * 2 ^ users P) g) (λ i. f i ∷ [])
      (λ i l. ap (λ (x : Bool). x && not (in_coalition g i)) (mask-under m (users P) i l)))
      (picked-cong P.clusters (λ u. chosen (m * 2 ^ users P) g (users P + u)) (tested P g) (λ u. f (users P + u) ∷ []) (λ u. f (users P + u) ∷ [])
      (λ u l.
      ap₂ (λ (x y : Bool). x && not y) (mask-from m (users P) u ∙ tested-is P g u) (bit-above g (users P) (users P + u) low (omega arith))
      ∙ and-true (tested P g u))
      (λ u l. refl))

  -- a mask of users
  of-users : (m : ℕ) (b : ℕ → Bool) → ((i : ℕ) → i < users P → in_coalition m i ≡ b i) → ((i : ℕ) → users P ≤ i → in_coalition m i ≡ false)
      → of_mask m ≡ picked (users P) (outside P b g) (λ i. f i ∷ [])
  unfolding outside
  of-users m b is none =
      split m
      ∙ ap₂ ◌++◌
      (picked-cong (users P) (chosen m g) (outside P b g) (λ i. f i ∷ []) (λ i. f i ∷ [])
      (λ i l. ap (λ (x : Bool). x && not (in_coalition g i)) (is i l))
      (λ i l. refl))
      (picked-nothing P.clusters (λ u. chosen m g (users P + u)) (λ u. f (users P + u) ∷ [])
      (λ u l. ap (λ (x : Bool). x && not (in_coalition g (users P + u))) (none (users P + u) (omega arith))))
      ∙ append-nil (picked (users P) (outside P b g) (λ i. f i ∷ []))

  pub relay-watches : (both u : ℕ) → u < P.clusters → 1 ≤ P.size → watched_by both (suc u) ≡ picked (users P) (outside P (in_cluster P u) g) (λ i. f i ∷ [])
  relay-watches both u h s =
      let last : u * P.size + P.size ≤ users P = omega (arith, mul-le-mul {n₁ = suc u} {m₁ = P.size} {n₂ = P.clusters} {m₂ = P.size} h (omega arith)) in
      ap (λ (t : Bool). of_mask (cond t (cluster_mask P.size u) both)) (lt-ltb u P.clusters h)
      ∙ of-users (cluster_mask P.size u) (in_cluster P u) (λ i l. cluster-is P u i s)
      (λ i l.
      mask-bits P.size (u * P.size) i
      ∙ ap (λ (y : Bool). leb (u * P.size) i && y) (le-ltb i (u * P.size + P.size) (omega arith))
      ∙ and-false (leb (u * P.size) i))

  -- the joint observer of clusters a and b: their users outside the coalition
  pub joint-watches : (a b : ℕ) → watched_by (joint_mask P.size a b (users P)) (P.clusters + 1)
      ≡ picked (users P) (outside P (in_either P a b) g) (λ i. f i ∷ [])
  unfolding joint_mask in_either in_cluster
  joint-watches a b =
      let both : ℕ = joint_mask P.size a b (users P) in
      let bits : (i : ℕ) → in_coalition both i ≡ (ltb i (users P) && in_either P a b i) = mask-has (in_either P a b) (users P) in
      ap (watched_by both) (add-one P.clusters)
      ∙ ap (λ (t : Bool). of_mask (cond t (cluster_mask P.size P.clusters) both)) (le-ltb P.clusters P.clusters (omega arith))
      ∙ of-users both (in_either P a b)
      (λ i l. bits i ∙ ap (λ (t : Bool). t && in_either P a b i) (lt-ltb i (users P) l))
      (λ i l. bits i ∙ ap (λ (t : Bool). t && in_either P a b i) (le-ltb i (users P) l))
