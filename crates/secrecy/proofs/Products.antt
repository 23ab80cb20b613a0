-- Rows that are picked, over others: independent ones can be given any products together with those, and rows that can be told apart are independent.
use Prim.Native.Nat.{ℕ, ◌+◌, ◌-◌, ◌*◌, ◌≤◌, ◌<◌}
use mathlib.Core.Path.{◌≡◌, ap}
use mathlib.Core.Bool.{Bool}
use mathlib.Core.List.{List, [], ◌∷◌, ◌++◌}
use native.Mathlib.Omega.{arith}
use lib.Dec.{T}
use Rattle.residues.specs.Primes.{Prime}
use Rattle.residues.proofs.PrimeLaws.{prime-pos}
use Rattle.residues.proofs.Congruence.{Cong, of_eq, of-mod, c-refl, c_sym, c-trans, c-add, cong-zero, zero-not-one}
use Rattle.lists.specs.Lists.{All, picked}
use Rattle.lists.proofs.Members.{all_append}
use Rattle.lists.proofs.ListLaws.{all-picked, picked_all}
use Rattle.matrices.specs.Linear.{Vector}
use Rattle.matrices.proofs.Notions.{dot_n, dot, Independent}
use Rattle.matrices.proofs.Spans.{span-dot}
use Rattle.secrecy.proofs.Units.{shift, dot-shift}
use Rattle.secrecy.proofs.Independence.{Solved, solved, independent-picked}

-- ---- rows that can be told apart

module _ (q n : ℕ) (G : List (List ℕ)) (b : ℕ → Bool) (s : ℕ → List ℕ) where
  -- N has the product 1 with s j, and 0 with each of G and with each picked row before it
  pub record Apart (j : ℕ) : Type 0 where
    pub N : List ℕ
    pub none : All (λ g. Cong q (dot_n g N) 0) G
    pub before : (t : ℕ) → t < j → T (b t) → Cong q (dot_n (s t) N) 0
    pub one : Cong q (dot_n (s j) N) 1

  -- where each picked row can be told apart, they are independent
  pub told-apart : 2 ≤ q → (k : ℕ) → ((j : ℕ) → j < k → T (b j) → Apart j) → Independent q n G (picked k b (λ i. s i ∷ []))
  told-apart two k h =
      independent-picked q n G b s k
      (λ j l t w.
      let x : Apart j = h j l t in
      let null : List ℕ → Type 0 = λ c. Cong q (dot_n c x.N) 0 in
      zero-not-one q two
      (c-trans
      (c_sym (span-dot q n (G ++ picked j b (λ i. s i ∷ [])) (s j) x.N w
      (all_append null G (picked j b (λ i. s i ∷ [])) x.none (all-picked null j b s x.before))))
      x.one))

-- ---- any products

-- what D lacks to y is added to it
fill-number : (q D y : ℕ) → 0 < q → Cong q (D + (y + (q - 1) * D)) y
fill-number q D y pos =
    let m : ℕ = q - 1 in
    let e : q ≡ m + 1 = omega arith in
    record { up = 0; dn = D; eq = omega (arith, ap (λ (z : ℕ). z * D) e) }

-- rows r i below m that a picks, and rows s j below k that b picks
module _ (q : ℕ) (prime : Prime q) (n m : ℕ) (a : ℕ → Bool) (r : ℕ → List ℕ) (k : ℕ) (b : ℕ → Bool) (s : ℕ → List ℕ) where
  abbrev first : List (List ℕ)
  first = picked m a (λ i. r i ∷ [])

  abbrev second : List (List ℕ)
  second = picked k b (λ j. s j ∷ [])

  -- N has the product x i with each r i, and y j with each s j
  pub record Both (x y : ℕ → ℕ) : Type 0 where
    pub N : List ℕ
    pub on-first : (i : ℕ) → i < m → T (a i) → Cong q (dot_n (r i) N) (x i)
    pub on-second : (j : ℕ) → j < k → T (b j) → Cong q (dot_n (s j) N) (y j)

  -- there is one for all x and y, where the first are independent, and the second over them
  pub both : ((i : ℕ) → Vector q n (r i)) → ((j : ℕ) → Vector q n (s j))
      → Independent q n [] first → Independent q n first second → (x y : ℕ → ℕ) → Both x y
  both hr hs i j x y =
      let A : Solved q n [] a r x m = solved q prime n [] a r tt hr x m i in
      let lacks : ℕ → ℕ = λ t. y t + (q - 1) * dot_n (s t) A.N in
      let B : Solved q n first b s lacks k = solved q prime n first b s (all-picked (Vector q n) m a r (λ i l t. hr i)) hs lacks k j in
      record {
        N = shift q A.N B.N;
        on-first = λ i l t.
            c-trans (dot-shift q (r i) A.N B.N)
            (c-trans
            (c-add (of-mod q (dot_n (r i) A.N) (x i) (A.hits i l t))
            (cong-zero q (dot_n (r i) B.N) (picked_all (λ g. dot q g B.N ≡ 0) m a r B.none i l t)))
            (of_eq (omega arith)));
        on-second = λ j l t.
            c-trans (dot-shift q (s j) A.N B.N)
            (c-trans (c-add (c-refl {a = dot_n (s j) A.N}) (of-mod q (dot_n (s j) B.N) (lacks j) (B.hits j l t)))
            (fill-number q (dot_n (s j) A.N) (y j) (prime-pos prime)));
      }
