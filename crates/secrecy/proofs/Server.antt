-- The server: with a table that sums to 0 it leaks just where the sum row of a tested cluster depends on the coalition's rows and the sum rows of the
-- tested clusters before it.
use Prim.Native.Nat.{ℕ, ◌+◌, ◌-◌, ◌*◌, ◌<◌}
use mathlib.Core.Path.{◌≡◌, refl, sym, ◌∙◌}
use mathlib.Core.Bool.{true}
use mathlib.Core.Logic.{◌≢◌, ◌⊎◌}
use mathlib.Core.List.{List, [], ◌∷◌}
use native.Mathlib.Decide.{dec_lt}
use native.Mathlib.Omega.{arith}
use lib.Dec.{T}
use lib.Arith.{digits_lt}
use Rattle.residues.specs.Primes.{Prime}
use Rattle.lists.proofs.Searches.{T-decide}
use Rattle.residues.proofs.Congruence.{Cong, to-mod, of_eq, of-mod, c-refl, c_sym, c-trans, c-add, c-mul-left, cong-zero, zero-cong, minus_number}
use Rattle.lists.specs.Lists.{All, picked}
use Rattle.matrices.specs.Linear.{Vector}
use Rattle.matrices.proofs.Notions.{dot_n, dot, Independent}
use Rattle.lists.proofs.Members.{all_both}
use Rattle.lists.specs.Sums.{sum_to}
use Rattle.secrecy.specs.Model.{Pool, users, server_view, ZeroSum}
use Rattle.secrecy.specs.Leaks.{Leak, Symbols, ServerAgree}
use Rattle.lists.proofs.Sums.{sum-cong, sum-grid}
use Rattle.residues.proofs.CongruentSums.{sum-c, sum_left}
use Rattle.secrecy.proofs.Units.{unit, minus, dot-minus, dot-minus-is, dot-add_to, dot-units-one}
use Rattle.secrecy.proofs.Forms.{Unseen, MakesUp}
use Rattle.secrecy.proofs.Readings.{Enough}
use Rattle.secrecy.proofs.RankCondition.{row, summed_row, coalition_rows, has_outsider, tested, sum-row-vector}
use Rattle.secrecy.proofs.PoolForms.{sum_form, units, ones, server-forms}
use Rattle.secrecy.proofs.Coalitions.{unit-unseen, member-made}
use Rattle.secrecy.proofs.Clusters.{sum-units, sum_row, rows_none, outsider-of, closed_all, tested-outsider, tested-later, made-tested}
use Rattle.secrecy.proofs.Clusters.{in-cluster, cluster-apart, other-cluster}
use Rattle.secrecy.proofs.Observers.{Observer, Telling, observer-keeps, observer-either}

-- ---- the tested clusters are enough: source symbols that make up for a difference in them make up for it in all

module _ (P : Pool) (zs : ZeroSum P) (g : ℕ) (d N : List ℕ) (un : Unseen P.q (ones P ∷ units P g) d)
    (none : All (λ r. dot P.q r N ≡ 0) (coalition_rows P g))
    (hits : (u : ℕ) → u < P.clusters → T (tested P g u) → MakesUp P.q d N (sum_form P u)) where
  abbrev Meets : ℕ → Type 0
  Meets u = Cong P.q (dot_n (sum_form P u).on_readings d) (dot_n (summed_row P u) N)

  tested-meets : (u : ℕ) → u < P.clusters → T (tested P g u) → Meets u
  tested-meets u h t = of-mod P.q (dot_n (sum_form P u).on_readings d) (dot_n (summed_row P u) N) (hits u h t)

  -- a cluster wholly in the coalition has 0 on both sides
  closed-meets : (u : ℕ) → u < P.clusters → ¬ (T (has_outsider P g u)) → Meets u
  closed-meets u h out =
      c-trans (of_eq (sum-units P d u))
      (c-trans
      (sum-c P.size (λ v. dot_n (unit (users P) (u * P.size + v)) d) (λ v. dot_n (row P (u * P.size + v)) N)
      (λ v l.
      let i : ℕ = u * P.size + v in
      of-mod P.q (dot_n (unit (users P) i) d) (dot_n (row P i) N) (member-made P g d N un.1 none i (digits_lt h l) (closed_all P g u out v l))))
      (c_sym (sum_row P N u)))

  -- both sides have in all the sum 0
  totals-meet : Cong P.q (sum_to P.clusters (λ u. dot_n (sum_form P u).on_readings d)) (sum_to P.clusters (λ u. dot_n (summed_row P u) N))
  totals-meet =
      c-trans
      (of_eq
      (sum-cong P.clusters (λ u. dot_n (sum_form P u).on_readings d) (λ u. sum_to P.size (λ v. dot_n (unit (users P) (u * P.size + v)) d))
      (λ u l. sum-units P d u)
      ∙ sym (sum-grid P.clusters P.size (λ i. dot_n (unit (users P) i) d))
      ∙ sym (dot-add_to (users P) (users P) (unit (users P)) d)))
      (c-trans (cong-zero P.q (dot_n (ones P) d) un.0)
      (c_sym
      (c-trans
      (sum-c P.clusters (λ u. dot_n (summed_row P u) N) (λ u. sum_to P.size (λ v. dot_n (row P (u * P.size + v)) N)) (λ u l. sum_row P N u))
      (c-trans (of_eq (sym (sum-grid P.clusters P.size (λ i. dot_n (row P i) N)))) (rows_none P zs N)))))

  -- of two clusters with outsiders one is tested
  other-meets : (u : ℕ) → u < P.clusters → ¬ (T (tested P g u)) → T (has_outsider P g u) → (w : ℕ) → w < P.clusters → w ≢ u → Meets w
  other-meets u h nt o w l ne = go (T-decide (tested P g w)) (T-decide (has_outsider P g w)) (dec_lt w u)
    where
      go : Dec (T (tested P g w)) → Dec (T (has_outsider P g w)) → Dec (w < u) → Meets w
      go (yes t) r c = tested-meets w l t
      go (no t) (no r) c = closed-meets w l r
      go (no t) (yes r) (yes c) = absurd (t (made-tested P g w u h c r o))
      go (no t) (yes r) (no c) = absurd (nt (made-tested P g u w l (omega arith) o r))

  meets : (u : ℕ) → u < P.clusters → Meets u
  meets u h = go (T-decide (tested P g u)) (T-decide (has_outsider P g u))
    where
      go : Dec (T (tested P g u)) → Dec (T (has_outsider P g u)) → Meets u
      go (yes t) o = tested-meets u h t
      go (no t) (no o) = closed-meets u h o
      go (no t) (yes o) =
          sum_left P.clusters (λ u. dot_n (sum_form P u).on_readings d) (λ u. dot_n (summed_row P u) N) u h (other-meets u h t o) totals-meet

  all-made-up : (u : ℕ) → u < P.clusters → MakesUp P.q d N (sum_form P u)
  all-made-up u h = to-mod (meets u h)

-- ---- a 1 of one user and a minus 1 of another

minus-unseen : (q : ℕ) (E : List (List ℕ)) (x y : List ℕ) → Unseen q E x → Unseen q E y → Unseen q E (minus q x y)
minus-unseen q E x y =
    all_both (λ e. dot q e x ≡ 0) (λ e. dot q e y ≡ 0) (λ e. dot q e (minus q x y) ≡ 0)
    (λ e h k.
    zero-cong q (dot_n e (minus q x y))
    (c-trans (dot-minus q e x y)
    (c-trans (c-add (cong-zero q (dot_n e x) h) (c-mul-left (q - 1) (cong-zero q (dot_n e y) k))) (of_eq (omega arith)))))
    E

ones-unit : (P : Pool) (i : ℕ) → i < users P → dot_n (ones P) (unit (users P) i) ≡ 1
ones-unit P i h = dot-units-one (users P) (users P) (λ k. k) i (λ k l. l) i h refl (λ k l ne. ne)

-- ---- it leaks just where a sum row depends

module _ (P : Pool) (prime : Prime P.q) (valid : Vector P.q (users P * P.rate) P.table) (zs : ZeroSum P) (g : ℕ) where
  server-observer : Observer P g (ones P ∷ units P g) P.clusters (λ _. true) (tested P g) (sum_form P)
  server-observer =
      record {
        sources = sum-row-vector P prime valid;
        shown = λ u t. tt;
        members = λ d un. un.1;
        others = λ d N un none hits u h t. all-made-up P zs g d N un none hits u h;
      }

  -- users of a tested cluster and of a later one, both outside the coalition, tell of the sum of the first
  telling : (readings : ℕ → List ℕ → Type 0) → Enough P.q (users P) readings → (u : ℕ) → u < P.clusters → T (tested P g u)
      → Telling P readings (ones P ∷ units P g) (tested P g) (sum_form P) u
  telling readings en u h t =
      let (v, hv, out) = outsider-of P g u (tested-outsider P g u t) in
      let (w, hw, later, o) = tested-later P g u t in
      let (x, hx, out') = outsider-of P g w o in
      let i : ℕ = u * P.size + v in
      let j : ℕ = w * P.size + x in
      let hi : i < users P = digits_lt h hv in
      let hj : j < users P = digits_lt hw hx in
      let a : List ℕ = unit (users P) i in
      let b : List ℕ = unit (users P) j in
      record {
        d = minus P.q a b;
        chosen = en.two i j hi hj (cluster-apart P u w v x (omega arith) hv hx);
        unseen = (
          zero-cong P.q (dot_n (ones P) (minus P.q a b))
              (c-trans (dot-minus-is P.q (ones P) a b 1 1 (ones-unit P i hi) (ones-unit P j hj))
              (minus_number P.q (P.q - 1) 1 1 (omega (arith, prime.two)) c-refl)),
          minus-unseen P.q (units P g) a b (unit-unseen P g i out) (unit-unseen P g j out'),
        );
        one =
            c-trans (dot-minus-is P.q (sum_form P u).on_readings a b 1 0 (in-cluster P u v h hv) (other-cluster P u w x h (omega arith) hx))
            (of_eq (omega arith));
        before = λ y l s.
            c-trans
            (dot-minus-is P.q (sum_form P y).on_readings a b 0 0
            (other-cluster P y u v (omega arith) (omega arith) hv) (other-cluster P y w x (omega arith) (omega arith) hx))
            (of_eq (omega arith));
      }

  module _ (readings : ℕ → List ℕ → Type 0) where
    -- where the sum rows are independent nothing leaks, among any readings
    pub server-keeps : ((L : ℕ) (W : List ℕ) → readings L W → Symbols P.q (users P) L W)
        → Independent P.q P.rate (coalition_rows P g) (picked P.clusters (tested P g) (λ u. summed_row P u ∷ []))
        → ¬ (Leak P.q P.rate readings (ServerAgree P g) (server_view P g))
    server-keeps =
        observer-keeps P prime valid g (ones P ∷ units P g) P.clusters (λ _. true) (tested P g) (sum_form P) server-observer
        (ServerAgree P g) (server_view P g) (server-forms P g) readings

    -- they are independent, or there is a leak, among any readings that are enough
    pub server-either : Enough P.q (users P) readings
        → Independent P.q P.rate (coalition_rows P g) (picked P.clusters (tested P g) (λ u. summed_row P u ∷ []))
        ⊎ Leak P.q P.rate readings (ServerAgree P g) (server_view P g)
    server-either en =
        observer-either P prime valid g (ones P ∷ units P g) P.clusters (λ _. true) (tested P g) (sum_form P) server-observer
        (ServerAgree P g) (server_view P g) (server-forms P g) readings en.symbols en.none (telling readings en)
