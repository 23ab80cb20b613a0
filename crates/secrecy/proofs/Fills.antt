-- A coalition whose rows are independent leaks nothing to an observer just where source symbols can give any keys to its users and to what the observer sees
-- of the others. That asks less of a smaller coalition.
use Prim.Native.Nat.{ℕ, suc, ◌+◌, ◌-◌, ◌*◌, ◌<◌}
use mathlib.Core.Path.{◌≡◌, refl, sym, ap, ap₂, ◌∙◌, subst}
use mathlib.Core.Bool.{Bool, not, cond}
use mathlib.Core.Logic.{◌≢◌}
use mathlib.Core.List.{List, []}
use native.Mathlib.Decide.{dec_lt}
use native.Mathlib.Omega.{arith}
use lib.Dec.{T, T_not, not_T, eqb}
use lib.Arith.{digits_lt}
use borrow.Author.Tests.{eq-eqb, ne_eqb}
use Rattle.residues.specs.Primes.{Prime}
use Rattle.residues.proofs.Congruence.{Cong, of_eq, c_sym, c-trans, c-multiple}
use Rattle.residues.proofs.CongruentSums.{sum-c, sum_left}
use Rattle.lists.specs.Sums.{sum_to}
use Rattle.lists.proofs.ListLaws.{all-picked}
use Rattle.lists.proofs.Searches.{T_and, and_T, T-decide}
use Rattle.lists.proofs.Sums.{sum-zero, sum-add, sum-grid, sum-only}
use Rattle.matrices.specs.Linear.{Vector}
use Rattle.matrices.proofs.Notions.{dot_n, Independent}
use Rattle.secrecy.specs.Model.{Pool, users, in_coalition, in_cluster, ZeroSum}
use Rattle.secrecy.proofs.RankCondition.{row, summed_row, coalition_rows, outside, has_outsider, tested, watched_rows, row-vector, sum-row-vector}
use Rattle.secrecy.proofs.Clusters.{cluster-apart, sum_row, rows_none, outsider-of, closed_all, tested-outsider, tested-later, made-tested}
use Rattle.secrecy.proofs.Products.{Both, both, told-apart}

-- ---- a number at one place, and 0 elsewhere

abbrev pub spot : ℕ → ℕ → ℕ → ℕ
spot c i k = cond (eqb k i) c 0

pub spot-here : (c i : ℕ) → spot c i i ≡ c
spot-here c i = ap (λ (t : Bool). cond t c 0) (eq-eqb i i refl)

pub spot-off : (c i k : ℕ) → k ≢ i → spot c i k ≡ 0
spot-off c i k ne = ap (λ (t : Bool). cond t c 0) (ne_eqb k i ne)

module _ (P : Pool) where
  -- N gives the keys x to the coalition's users
  abbrev pub Gives : ℕ → (ℕ → ℕ) → List ℕ → Type 0
  Gives g x N = (i : ℕ) → i < users P → T (in_coalition g i) → Cong P.q (dot_n (row P i) N) (x i)

  -- source symbols that give them to those of cluster u as well
  pub record RelayFill (g u : ℕ) (x : ℕ → ℕ) : Type 0 where
    pub N : List ℕ
    pub members : Gives g x N
    pub cluster : (i : ℕ) → i < users P → T (in_cluster P u i) → Cong P.q (dot_n (row P i) N) (x i)

  -- source symbols that give the sums of these keys to all clusters
  pub record ServerFill (g : ℕ) (x : ℕ → ℕ) : Type 0 where
    pub N : List ℕ
    pub members : Gives g x N
    pub sums : (u : ℕ) → u < P.clusters → Cong P.q (dot_n (summed_row P u) N) (sum_to P.size (λ v. x (u * P.size + v)))

  -- for all keys; for the server, those that sum to 0
  abbrev pub RelayFills : ℕ → ℕ → Type 0
  RelayFills g u = (x : ℕ → ℕ) → RelayFill g u x

  abbrev pub ServerFills : ℕ → Type 0
  ServerFills g = (x : ℕ → ℕ) → Cong P.q (sum_to (users P) x) 0 → ServerFill g x

  -- a part of a coalition asks for less
  module _ (g h : ℕ) (part : (i : ℕ) → i < users P → T (in_coalition g i) → T (in_coalition h i)) where
    pub relay-part : (u : ℕ) → RelayFills h u → RelayFills g u
    relay-part u f x = let r : RelayFill h u x = f x in record { N = r.N; members = λ i l t. r.members i l (part i l t); cluster = r.cluster }

    pub server-part : ServerFills h → ServerFills g
    server-part f x z = let r : ServerFill h x = f x z in record { N = r.N; members = λ i l t. r.members i l (part i l t); sums = r.sums }

module _ (P : Pool) (prime : Prime P.q) (valid : Vector P.q (users P * P.rate) P.table) (g : ℕ) where
  -- the coalition's rows are independent
  abbrev Rows : Type 0
  Rows = Independent P.q P.rate [] (coalition_rows P g)

  -- the rows that an observer watches are independent over them
  abbrev Watched : ℕ → Type 0
  Watched w = Independent P.q P.rate (coalition_rows P g) (watched_rows P g w)

  -- a number outside the coalition is none of its members
  not-member : (i k : ℕ) → ¬ (T (in_coalition g i)) → T (in_coalition g k) → k ≢ i
  not-member i k out s e = out (subst (λ (z : ℕ). T (in_coalition g z)) e s)

  -- ---- a relay

  pub relay-fills : (u : ℕ) → Rows → Watched (suc u) → RelayFills P g u
  unfolding outside
  relay-fills u i j x =
      record { N = B.N; members = B.on-first; cluster = λ k l c. go k l c (T-decide (in_coalition g k)) }
    where
      B : Both P.q prime P.rate (users P) (in_coalition g) (row P) (users P) (outside P (in_cluster P u) g) (row P) x x
      B = both P.q prime P.rate (users P) (in_coalition g) (row P) (users P) (outside P (in_cluster P u) g) (row P)
          (row-vector P prime valid) (row-vector P prime valid) i j x x

      go : (k : ℕ) → k < users P → T (in_cluster P u k) → Dec (T (in_coalition g k)) → Cong P.q (dot_n (row P k) B.N) (x k)
      go k l c (yes t) = B.on-first k l t
      go k l c (no t) = B.on-second k l (and_T (in_cluster P u k) (not (in_coalition g k)) c (not_T (in_coalition g k) t))

  pub relay-watched : (u : ℕ) → RelayFills P g u → Watched (suc u)
  unfolding outside
  relay-watched u f =
      told-apart P.q P.rate (coalition_rows P g) (outside P (in_cluster P u) g) (row P) prime.two (users P)
      (λ i l t.
      let (c, out) = T_and (in_cluster P u i) (not (in_coalition g i)) t in
      let r : RelayFill P g u (spot 1 i) = f (spot 1 i) in
      record {
        N = r.N;
        none = all-picked (λ c. Cong P.q (dot_n c r.N) 0) (users P) (in_coalition g) (row P)
            (λ k m s. c-trans (r.members k m s) (of_eq (spot-off 1 i k (not-member i k (T_not (in_coalition g i) out) s))));
        before = λ k m s.
            c-trans (r.cluster k (omega arith) (T_and (in_cluster P u k) (not (in_coalition g k)) s).0) (of_eq (spot-off 1 i k (omega arith)));
        one = c-trans (r.cluster i l c) (of_eq (spot-here 1 i));
      })

  -- ---- the server

  module _ (zs : ZeroSum P) where
    pub server-fills : Rows → Watched 0 → ServerFills P g
    server-fills i j x z = record { N = N; members = B.on-first; sums = meets }
      where
        sum : ℕ → ℕ
        sum u = sum_to P.size (λ v. x (u * P.size + v))

        B : Both P.q prime P.rate (users P) (in_coalition g) (row P) P.clusters (tested P g) (summed_row P) x sum
        B = both P.q prime P.rate (users P) (in_coalition g) (row P) P.clusters (tested P g) (summed_row P)
            (row-vector P prime valid) (sum-row-vector P prime valid) i j x sum

        N : List ℕ
        N = B.N

        Meets : ℕ → Type 0
        Meets u = Cong P.q (dot_n (summed_row P u) N) (sum u)

        -- a cluster wholly in the coalition
        closed : (u : ℕ) → u < P.clusters → ¬ (T (has_outsider P g u)) → Meets u
        closed u h out =
            c-trans (sum_row P N u)
            (sum-c P.size (λ v. dot_n (row P (u * P.size + v)) N) (λ v. x (u * P.size + v))
            (λ v l. B.on-first (u * P.size + v) (digits_lt h l) (closed_all P g u out v l)))

        -- both sides have in all the sum 0
        totals : Cong P.q (sum_to P.clusters (λ u. dot_n (summed_row P u) N)) (sum_to P.clusters sum)
        totals =
            c-trans
            (sum-c P.clusters (λ u. dot_n (summed_row P u) N) (λ u. sum_to P.size (λ v. dot_n (row P (u * P.size + v)) N)) (λ u l. sum_row P N u))
            (c-trans (of_eq (sym (sum-grid P.clusters P.size (λ i. dot_n (row P i) N))))
            (c-trans (rows_none P zs N) (c_sym (c-trans (of_eq (sym (sum-grid P.clusters P.size x))) z))))

        -- of two clusters with outsiders one is tested
        other : (u : ℕ) → u < P.clusters → ¬ (T (tested P g u)) → T (has_outsider P g u) → (w : ℕ) → w < P.clusters → w ≢ u → Meets w
        other u h nt o w l ne = go (T-decide (tested P g w)) (T-decide (has_outsider P g w)) (dec_lt w u)
          where
            go : Dec (T (tested P g w)) → Dec (T (has_outsider P g w)) → Dec (w < u) → Meets w
            go (yes t) r c = B.on-second w l t
            go (no t) (no r) c = closed w l r
            go (no t) (yes r) (yes c) = absurd (t (made-tested P g w u h c r o))
            go (no t) (yes r) (no c) = absurd (nt (made-tested P g u w l (omega arith) o r))

        meets : (u : ℕ) → u < P.clusters → Meets u
        meets u h = go (T-decide (tested P g u)) (T-decide (has_outsider P g u))
          where
            go : Dec (T (tested P g u)) → Dec (T (has_outsider P g u)) → Meets u
            go (yes t) o = B.on-second u h t
            go (no t) (no o) = closed u h o
            go (no t) (yes o) = sum_left P.clusters (λ u. dot_n (summed_row P u) N) sum u h (other u h t o) totals

    -- a 1 of a user of a tested cluster, and a minus 1 of one of a later cluster, both outside the coalition
    pub server-watched : ServerFills P g → Watched 0
    server-watched f =
        told-apart P.q P.rate (coalition_rows P g) (tested P g) (summed_row P) prime.two P.clusters
        (λ u h t.
        let (v, hv, out) = outsider-of P g u (tested-outsider P g u t) in
        let (w, hw, later, o) = tested-later P g u t in
        let (y, hy, out') = outsider-of P g w o in
        let i : ℕ = u * P.size + v in
        let j : ℕ = w * P.size + y in
        let m : ℕ = P.q - 1 in
        let x : ℕ → ℕ = λ k. spot 1 i k + spot m j k in
        let all : sum_to (users P) x ≡ 1 + m
        = sum-add (users P) (spot 1 i) (spot m j)
        ∙ ap₂ ◌+◌ (sum-only (users P) (spot 1 i) i (digits_lt h hv) (λ k l. spot-off 1 i k) ∙ spot-here 1 i)
        (sum-only (users P) (spot m j) j (digits_lt hw hy) (λ k l. spot-off m j k) ∙ spot-here m j) in
        let r : ServerFill P g x = f x (c-trans (of_eq (omega (arith, all, prime.two))) (c-multiple P.q 1)) in
        let away : (c z p e : ℕ) → e < P.size → z ≢ p → sum_to P.size (λ v. spot c (p * P.size + e) (z * P.size + v)) ≡ 0
        = λ c z p e he ne. sum-zero P.size (λ v. spot c (p * P.size + e) (z * P.size + v))
        (λ v l. spot-off c (p * P.size + e) (z * P.size + v) (cluster-apart P z p v e ne l he)) in
        let one : sum_to P.size (λ v. spot 1 i (u * P.size + v)) ≡ 1
        = sum-only P.size (λ v. spot 1 i (u * P.size + v)) v hv (λ k l ne. spot-off 1 i (u * P.size + k) (omega arith)) ∙ spot-here 1 i in
        let split : (z : ℕ) → sum_to P.size (λ v. x (z * P.size + v))
        ≡ sum_to P.size (λ v. spot 1 i (z * P.size + v)) + sum_to P.size (λ v. spot m j (z * P.size + v))
        = λ z. sum-add P.size (λ v. spot 1 i (z * P.size + v)) (λ v. spot m j (z * P.size + v)) in
        record {
          N = r.N;
          none = all-picked (λ c. Cong P.q (dot_n c r.N) 0) (users P) (in_coalition g) (row P)
              (λ k l s. c-trans (r.members k l s) (of_eq (ap₂ ◌+◌ (spot-off 1 i k (not-member i k out s)) (spot-off m j k (not-member j k out' s)))));
          before = λ z l s.
              c-trans (r.sums z (omega arith))
              (of_eq (split z ∙ ap₂ ◌+◌ (away 1 z u v hv (omega arith)) (away m z w y hy (omega arith))));
          one = c-trans (r.sums u h) (of_eq (split u ∙ ap₂ ◌+◌ one (away m u w y hy (omega arith))));
        })
