-- A pair of coalition and observer, and a joint observer, leak among the readings inside a cap just where they leak among all symbols.
use Prim.Native.Nat.{ℕ, zero, suc, ◌+◌, ◌-◌, ◌*◌, ◌≤◌, ◌<◌}
use mathlib.Core.Path.{◌≡◌, sym, ap, ◌∙◌, subst}
use mathlib.Core.Logic.{◌⊎◌, ⊎_elim, ◌↔◌}
use mathlib.Core.Bool.{Bool, true, false, cond}
use mathlib.Core.List.{List, map}
use native.Mathlib.Omega.{arith}
use native.Mathlib.Decide.{ℕ_discrete}
use lib.Dec.{T, eqb}
use lib.Seq.{ext_get_or}
use lib.ListN.{length-map}
use lib.IntN.{ℤ, pos, negsuc, nat_abs}
use borrow.Author.Tests.{eq-eqb, ne_eqb, lt-ltb}
use Rattle.lists.specs.Lists.{at}
use Rattle.lists.proofs.ListLaws.{map_get}
use Rattle.residues.specs.Primes.{Prime}
use Rattle.matrices.specs.Linear.{Vector}
use Rattle.secrecy.specs.Model.{Pool, users, in_either, set_view, view, total, ZeroSum}
use Rattle.secrecy.specs.Leaks.{keys_showing, Symbols, Leak, Agree, Agrees, PairLeak, JointLeak}
use Rattle.secrecy.proofs.PairLeaks.{Small, small-leak, set-small-leak}
use Rattle.signed.specs.Numbers.{symbol_of, travelling, shown_of, true_sum, signed_reading}
use Rattle.signed.specs.Caps.{all_in_cap}
use Rattle.signed.specs.SignedLeaks.{SignedAgree, SignedAgrees, Capped, SignedLeak, SignedPairLeak, SignedJointLeak}
use Rattle.signed.proofs.NumberLaws.{symbol-minus}
use Rattle.signed.proofs.CapLaws.{Cap, one-room, cap-at, at_cap}
use Rattle.signed.proofs.Totals.{shown-symbol, symbol-shown, reading-symbol, total-below, shown-total}
use Rattle.signed.proofs.SignedLaws.{symbols-vector}

-- ---- 0, 1 and q - 1 are what 0, 1 and -1 travel as

least : ℕ → ℤ
least x = cond (eqb x 0) (pos 0) (cond (eqb x 1) (pos 1) (negsuc 0))

least_size : (x : ℕ) → nat_abs (least x) ≤ 1
unfolding least
least_size x = go (eqb x 0) (eqb x 1)
  where
    go : (s t : Bool) → nat_abs (cond s (pos 0) (cond t (pos 1) (negsuc 0))) ≤ 1
    go true t = omega arith
    go false true = omega arith
    go false false = omega arith

least-travels : (q x : ℕ) → 2 ≤ q → (x ≡ 0) ⊎ ((x ≡ 1) ⊎ (x ≡ q - 1)) → symbol_of q (least x) ≡ x
unfolding least
least-travels q x two e = go (ℕ_discrete x 0) (ℕ_discrete x 1)
  where
    go : Dec (x ≡ 0) → Dec (x ≡ 1) → symbol_of q (least x) ≡ x
    go (yes z) o = rw (eq-eqb x 0 z, lt-ltb 0 q (omega arith)) (sym z)
    go (no n) (yes o) = rw (ne_eqb x 0 n, eq-eqb x 1 o, lt-ltb 1 q (omega arith)) (sym o)
    go (no n) (no k) =
        let last : x ≡ q - 1 = ⊎_elim (λ z. absurd (n z)) (⊎_elim (λ o. absurd (k o)) (λ l. l)) e in
        rw (ne_eqb x 0 n, ne_eqb x 1 k) (symbol-minus q 0 (omega arith) ∙ sym last)

module _ (P : Pool) (m : ℕ) where
  -- so what small readings show, readings inside every cap other than 0 show
  small-capped : (L : ℕ) (W : List ℕ) → 0 < m → Small P.q (users P) L W → Capped P m L (map least W)
  small-capped L W some s =
      record {
        size = length-map W least ∙ s.symbols.size;
        inside = at_cap m (map least W)
            (λ i l. subst (λ (z : ℤ). nat_abs z ≤ m) (sym (map_get least W i 0 (pos 0) (omega (arith, length-map W least))))
            (omega (arith, least_size (at W i))));
      }

  small-travels : (L : ℕ) (W : List ℕ) → 2 ≤ P.q → Small P.q (users P) L W → W ≡ travelling P.q (map least W)
  small-travels L W two s =
      ext_get_or 0 W (travelling P.q (map least W)) (sym (length-map (map least W) (symbol_of P.q) ∙ length-map W least))
      (λ i l. sym (map_get (symbol_of P.q) (map least W) i (pos 0) 0 (omega (arith, length-map W least))
      ∙ ap (symbol_of P.q) (map_get least W i 0 (pos 0) l)
      ∙ least-travels P.q (at W i) two (s.entries i (omega (arith, s.symbols.size)))))

  -- ---- any leak that small readings show, of sets that agree as signed numbers just where they agree as they travel

  module _ (two : 2 ≤ P.q) (some : 0 < m) (agrees : ℕ → List ℕ → List ℕ → Type 0) (signed : ℕ → List ℤ → List ℤ → Type 0)
      (see : ℕ → List ℕ → List ℕ → List ℕ)
      (alike : (L : ℕ) (R R' : List ℤ) → Capped P m L R → Capped P m L R' → signed L R R' ↔ agrees L (travelling P.q R) (travelling P.q R'))
      (small : Leak P.q P.rate (Symbols P.q (users P)) agrees see → Leak P.q P.rate (Small P.q (users P)) agrees see) where
    inside-cap : Leak P.q P.rate (Small P.q (users P)) agrees see → SignedLeak P m signed see
    inside-cap k =
        let R : List ℤ = map least k.W in
        let R' : List ℤ = map least k.W' in
        let e : k.W ≡ travelling P.q R = small-travels k.L k.W two k.W-in in
        let e' : k.W' ≡ travelling P.q R' = small-travels k.L k.W' two k.W'-in in
        let c = small-capped k.L k.W some k.W-in in
        let c' = small-capped k.L k.W' some k.W'-in in
        record {
          L = k.L;
          low = k.low;
          high = k.high;
          R = R;
          R' = R';
          R-in = c;
          R'-in = c';
          same = (alike k.L R R' c c').1
              (subst (λ (X : List ℕ). agrees k.L (travelling P.q R) X) e' (subst (λ (X : List ℕ). agrees k.L X k.W') e k.same));
          s = k.s;
          unequal = λ x.
              k.unequal
              (ap (λ (X : List ℕ). keys_showing P.q P.rate see k.L X k.s) e
              ∙ x
              ∙ sym (ap (λ (X : List ℕ). keys_showing P.q P.rate see k.L X k.s) e'));
        }

    -- the readings as they travel are symbols
    among-symbols : SignedLeak P m signed see → Leak P.q P.rate (Symbols P.q (users P)) agrees see
    among-symbols k =
        record {
          L = k.L;
          low = k.low;
          high = k.high;
          W = travelling P.q k.R;
          W' = travelling P.q k.R';
          W-in = symbols-vector P.q (users P * k.L) k.R (omega arith) k.R-in.size;
          W'-in = symbols-vector P.q (users P * k.L) k.R' (omega arith) k.R'-in.size;
          same = (alike k.L k.R k.R' k.R-in k.R'-in).0 k.same;
          s = k.s;
          unequal = k.unequal;
        }

    leak-alike : Leak P.q P.rate (Symbols P.q (users P)) agrees see ↔ SignedLeak P m signed see
    leak-alike = ((λ k. inside-cap (small k)), among-symbols)

  -- ---- sets of readings inside a cap that fits

  module _ (cap : Cap (users P) P.q m) where
    module _ (L : ℕ) (R R' : List ℤ) (c : Capped P m L R) (c' : Capped P m L R') where
      -- readings are told apart by their symbols
      shown-reading : (S : List ℤ) → T (all_in_cap m S) → (i p : ℕ) → i < users P
          → shown_of P.q (symbol_of P.q (signed_reading L S i p)) ≡ signed_reading L S i p
      shown-reading S t i p h = shown-symbol P.q m (signed_reading L S i p) (cap-at m S t (i * L + p)) (one-room cap (omega arith))

      pub members_alike : (g : ℕ) → SignedAgree P g L R R' ↔ Agree P g L (travelling P.q R) (travelling P.q R')
      members_alike g = (
        (λ a. record {
          members = λ i p h t l.
              reading-symbol P m L R c.size i p h l
              ∙ ap (symbol_of P.q) (a.members i p h t l)
              ∙ sym (reading-symbol P m L R' c'.size i p h l);
        }),
        (λ a. record {
          members = λ i p h t l.
              sym (shown-reading R c.inside i p h)
              ∙ ap (shown_of P.q)
              (sym (reading-symbol P m L R c.size i p h l) ∙ a.members i p h t l ∙ reading-symbol P m L R' c'.size i p h l)
              ∙ shown-reading R' c'.inside i p h;
        }),
      )

      -- and true sums by their totals: agreement on the totals modulo the prime is agreement on the true sums
      shown-is : (S : List ℤ) → Capped P m L S → (p : ℕ) → p < L
          → shown_of P.q (total P L (travelling P.q S) p) ≡ true_sum (users P) (λ i. signed_reading L S i p)
      shown-is S d = shown-total P m L S d.size d.inside cap

      pub sums-alike : (p : ℕ) → p < L
          → (total P L (travelling P.q R) p ≡ total P L (travelling P.q R') p)
          ↔ (true_sum (users P) (λ i. signed_reading L R i p) ≡ true_sum (users P) (λ i. signed_reading L R' i p))
      sums-alike p l = (
        (λ e. sym (shown-is R c p l) ∙ ap (shown_of P.q) e ∙ shown-is R' c' p l),
        (λ e.
            sym (symbol-shown P.q (total P L (travelling P.q R) p) (total-below P (omega (arith, cap.room)) L (travelling P.q R) p))
            ∙ ap (symbol_of P.q) (shown-is R c p l ∙ e ∙ sym (shown-is R' c' p l))
            ∙ symbol-shown P.q (total P L (travelling P.q R') p) (total-below P (omega (arith, cap.room)) L (travelling P.q R') p)),
      )

      pub agrees-alike : (g w : ℕ) → SignedAgrees P g w L R R' ↔ Agrees P g w L (travelling P.q R) (travelling P.q R')
      agrees-alike g zero = (
        (λ a. record { coalition = (members_alike g).0 a.coalition; totals = a.totals }),
        (λ a. record { coalition = (members_alike g).1 a.coalition; totals = a.totals }),
      )
      agrees-alike g (suc u) = members_alike g

    -- ---- so a pair, and a joint observer

    module _ (prime : Prime P.q) (valid : Vector P.q (users P * P.rate) P.table) where
      pub pair-alike : ZeroSum P → (g w : ℕ) → PairLeak P g w ↔ SignedPairLeak P m g w
      pair-alike zs g w =
          leak-alike prime.two cap.some (Agrees P g w) (SignedAgrees P g w) (view P g w)
          (λ L R R' c c'. agrees-alike L R R' c c' g w) (small-leak P prime valid zs g w)

      pub joint-alike : (u w g : ℕ) → JointLeak P u w g ↔ SignedJointLeak P m u w g
      joint-alike u w g =
          leak-alike prime.two cap.some (Agree P g) (SignedAgree P g) (set_view P (in_either P u w) g)
          (λ L R R' c c'. members_alike L R R' c c' g) (set-small-leak P prime valid (in_either P u w) g)
