-- Views by forms that keep differences of readings hidden. Where each difference that the agreement does not see is made up for by source symbols,
-- the numbers are equal; and one that nothing makes up for leaks, in one position.
use Prim.Native.Nat.{ℕ, ◌+◌, ◌-◌, ◌*◌, ◌/◌, ◌%◌, ◌<◌}
use mathlib.Core.Path.{◌≡◌, refl, sym, ap, ap₂, ◌∙◌, subst}
use mathlib.Core.List.{List, [], ◌∷◌, ◌++◌, head-eq_of_cons-eq, tail-eq_of_cons-eq}
use native.Mathlib.Nat.{zero-mod}
use native.Mathlib.Decide.{dec_lt}
use native.Mathlib.Omega.{arith}
use lib.ListN.{length}
use lib.Arith.{digits_lt, digits_div, digits_mod, lt-one}
use Rattle.residues.proofs.Congruence.{Cong, to-mod, of_eq, of-mod, c_sym, c-trans, zero-cong, minus_number, back-number}
use Rattle.lists.specs.Lists.{at, All, zeros, tab}
use Rattle.matrices.specs.Linear.{Vector, scale, reduce}
use Rattle.matrices.proofs.Notions.{dot_n, dot}
use Rattle.matrices.specs.Rank.{same_list}
use Rattle.lists.proofs.Members.{all_map}
use Rattle.matrices.proofs.Vectors.{dot-scaled, dot-zeroed, dot-reduced, length-scale, vector-reduce, vector-zeros}
use Rattle.lists.proofs.ListLaws.{length-zeros, at-tab, length-tab, tab-cong, tab-at}
use Rattle.secrecy.specs.Leaks.{keys_showing, Leak}
use Rattle.matrices.proofs.MadeVectors.{tab-vector, entry-below}
use Rattle.secrecy.proofs.Units.{shift, minus, el-shift, tab-shift, dot-shift, dot-minus, minus-vector}
use Rattle.secrecy.proofs.CountLaws.{same-counts, counts-differ}
use Rattle.secrecy.proofs.Forms.{Form, readings_at, source_at, value, view_of, AgreeOn, Unseen, MakesUp, Mask, Hidden, ByForms}

-- added to any source key, T makes it show under W' what that key shows under W
pub record Carrier (q n : ℕ) (see : ℕ → List ℕ → List ℕ → List ℕ) (L : ℕ) (W W' : List ℕ) : Type 0 where
  pub T : List ℕ
  pub valid : Vector q (L * n) T
  pub carries : (N : List ℕ) → Vector q (L * n) N → see L W' (shift q N T) ≡ see L W N

-- so W and W' have equal numbers for every view
pub carried-numbers : (q n : ℕ) (see : ℕ → List ℕ → List ℕ → List ℕ) (L : ℕ) (W W' : List ℕ) → Carrier q n see L W W' → (s : List ℕ)
    → keys_showing q n see L W s ≡ keys_showing q n see L W' s
unfolding keys_showing
carried-numbers q n see L W W' c s = same-counts q (L * n) (see L W) (see L W') c.T c.valid c.carries (λ v. same_list v s)

-- y = x + v and v = r - r', so r' + y = r + x
carry-number : (q m r r' x y v : ℕ) → q ≡ m + 1 → Cong q y (x + v) → Cong q v (r + m * r') → Cong q (r' + y) (r + x)
carry-number q m r r' x y v em c e =
    record {
      up = c.up + e.up;
      dn = r' + c.dn + e.dn;
      eq = omega (arith, ap (λ (z : ℕ). z * r') em);
    }

module _ (q m n : ℕ) (pos : 0 < q) where
  -- ---- hidden differences

  source-shift : (N T : List ℕ) (p : ℕ) → source_at n (shift q N T) p ≡ shift q (source_at n N p) (source_at n T p)
  source-shift N T p =
      tab-cong n (λ k. at (shift q N T) (p * n + k)) (λ k. (at N (p * n + k) + at T (p * n + k)) % q) (λ k l. el-shift q N T (p * n + k))
      ∙ sym (tab-shift q n (λ k. at N (p * n + k)) (λ k. at T (p * n + k)))

  -- the source key that has the symbols f p in position p
  spread : ℕ → (ℕ → List ℕ) → List ℕ
  spread L f = tab (L * n) (λ j. at (f (j / n)) (j % n))

  source-spread : (L : ℕ) (f : ℕ → List ℕ) (p : ℕ) → p < L → length (f p) ≡ n → source_at n (spread L f) p ≡ f p
  unfolding spread
  source-spread L f p h e =
      tab-at n (λ k. at (spread L f) (p * n + k)) (f p) e
      (λ k l.
      at-tab (L * n) (λ j. at (f (j / n)) (j % n)) (p * n + k) (digits_lt h l)
      ∙ ap₂ (λ (x y : ℕ). at (f x) y) (digits_div p l) (digits_mod p l))

  spread-vector : (L : ℕ) (f : ℕ → List ℕ) → ((p : ℕ) → Vector q n (f p)) → Vector q (L * n) (spread L f)
  unfolding spread
  spread-vector L f v = tab-vector q (L * n) (λ j. at (f (j / n)) (j % n)) (λ j l. entry-below q n (f (j / n)) pos (v (j / n)) (j % n))

  module _ (E : List (List ℕ)) (F : List Form) (L : ℕ) (W W' : List ℕ) where
    -- the difference in position p
    abbrev apart : ℕ → List ℕ
    apart p = minus q (readings_at m L W p) (readings_at m L W' p)

    apart-vector : (p : ℕ) → Vector q m (apart p)
    apart-vector p =
        minus-vector q m (readings_at m L W p) (readings_at m L W' p) pos (length-tab m (λ i. at W (i * L + p))) (length-tab m (λ i. at W' (i * L + p)))

    apart-unseen : AgreeOn q m E L W W' → (p : ℕ) → p < L → Unseen q E (apart p)
    apart-unseen a p l =
        let r : List ℕ = readings_at m L W p in
        let r' : List ℕ = readings_at m L W' p in
        all_map (λ e. dot q e r ≡ dot q e r') (λ e. dot q e (apart p) ≡ 0)
        (λ e h. zero-cong q (dot_n e (apart p))
        (c-trans (dot-minus q e r r') (minus_number q (q - 1) (dot_n e r) (dot_n e r') (omega arith) (of-mod q (dot_n e r) (dot_n e r') h))))
        E (a p l)

    -- where T makes up for the differences, it carries the view of W to that of W'
    carried : (G : List Form) (N T : List ℕ) → ((p : ℕ) → p < L → All (MakesUp q (apart p) (source_at n T p)) G)
        → view_of q m n G L W' (shift q N T) ≡ view_of q m n G L W N
    unfolding view_of value
    carried [] N T h = refl
    carried (f ∷ G) N T h =
        ap₂ ◌++◌
        (tab-cong L (value q m n f L W' (shift q N T)) (value q m n f L W N)
        (λ p l.
        let c : List ℕ = f.on_source in
        let a : List ℕ = f.on_readings in
        to-mod
        (carry-number q (q - 1) (dot_n a (readings_at m L W p)) (dot_n a (readings_at m L W' p)) (dot_n c (source_at n N p))
        (dot_n c (source_at n (shift q N T) p)) (dot_n c (source_at n T p)) (omega arith)
        (c-trans (of_eq (ap (dot_n c) (source-shift N T p))) (dot-shift q c (source_at n N p) (source_at n T p)))
        (c-trans (c_sym (of-mod q (dot_n a (apart p)) (dot_n c (source_at n T p)) (h p l).0)) (dot-minus q a (readings_at m L W p) (readings_at m L W' p))))))
        (carried G N T (λ p l. (h p l).1))

    -- source symbols for each position; past the last any will do
    record Made (p : ℕ) : Type 0 where
      t : List ℕ
      valid : Vector q n t
      makes-up : p < L → All (MakesUp q (apart p) t) F

    made : Hidden q m n E F → AgreeOn q m E L W W' → (p : ℕ) → Made p
    made hid a p = go (dec_lt p L)
      where
        go : Dec (p < L) → Made p
        go (no h) = record { t = zeros n; valid = vector-zeros q n pos; makes-up = λ l. absurd (h l) }
        go (yes h) =
            let k : Mask q n F (apart p) = hid (apart p) (apart-vector p) (apart-unseen a p h) in
            record { t = k.t; valid = k.valid; makes-up = λ _. k.makes-up }

    hidden-spread : Hidden q m n E F → AgreeOn q m E L W W' → Carrier q n (view_of q m n F) L W W'
    hidden-spread hid a =
        record {
          T = spread L f;
          valid = spread-vector L f (λ p. (made hid a p).valid);
          carries =
              λ N v. carried F N (spread L f)
              (λ p l. subst (λ (x : List ℕ). All (MakesUp q (apart p) x) F)
              (sym (source-spread L f p l (made hid a p).valid.size))
              ((made hid a p).makes-up l));
        }
      where
        f : ℕ → List ℕ
        f p = (made hid a p).t

  -- ---- in one position, the readings 0 and d

  first-readings : (d : List ℕ) → length d ≡ m → readings_at m 1 d 0 ≡ d
  first-readings d e = tab-at m (λ i. at d (i * 1 + 0)) d e (λ k l. ap (at d) (omega arith))

  first-source : (N : List ℕ) → length N ≡ n → source_at n N 0 ≡ N
  first-source N e = tab-at n (λ k. at N (0 * n + k)) N e (λ k l. ap (at N) (omega arith))

  -- what a form shows in one position
  first-value : (f : Form) (d N : List ℕ) → length d ≡ m → length N ≡ n → value q m n f 1 d N 0 ≡ (dot_n f.on_readings d + dot_n f.on_source N) % q
  unfolding value
  first-value f d N ed e_n = ap₂ (λ (x y : List ℕ). (dot_n f.on_readings x + dot_n f.on_source y) % q) (first-readings d ed) (first-source N e_n)

  -- where a form shows under d and N what it shows under zeros, minus N makes up for d
  undone : (f : Form) (d N : List ℕ) → length d ≡ m → length N ≡ n → value q m n f 1 d N 0 ≡ value q m n f 1 (zeros m) (zeros n) 0
      → MakesUp q d (reduce q (scale (q - 1) N)) f
  undone f d N ed e_n h =
      let a : List ℕ = f.on_readings in
      let c : List ℕ = f.on_source in
      let none : dot_n a (zeros m) + dot_n c (zeros n) ≡ 0 = ap₂ ◌+◌ (dot-zeroed a m) (dot-zeroed c n) in
      to-mod
      (c-trans
      (back-number q (q - 1) (dot_n a d) (dot_n c N) (omega arith)
      (of-mod q (dot_n a d + dot_n c N) 0
      (sym (first-value f d N ed e_n) ∙ h ∙ first-value f (zeros m) (zeros n) (length-zeros m) (length-zeros n) ∙ ap (λ (z : ℕ). z % q) none)))
      (c-trans (of_eq (sym (dot-scaled (q - 1) c N))) (c_sym (dot-reduced q c (scale (q - 1) N)))))

  all-undone : (F : List Form) (d N : List ℕ) → length d ≡ m → length N ≡ n → view_of q m n F 1 d N ≡ view_of q m n F 1 (zeros m) (zeros n)
      → All (MakesUp q d (reduce q (scale (q - 1) N))) F
  unfolding view_of tab
  all-undone [] d N ed e_n e = tt
  all-undone (f ∷ F) d N ed e_n e = (undone f d N ed e_n (head-eq_of_cons-eq e), all-undone F d N ed e_n (tail-eq_of_cons-eq e))

  unseen-agree : (E : List (List ℕ)) (d : List ℕ) → length d ≡ m → Unseen q E d → AgreeOn q m E 1 (zeros m) d
  unseen-agree E d ed un p l =
      rw (lt-one l, first-readings d ed, first-readings (zeros m) (length-zeros m))
      (all_map (λ e. dot q e d ≡ 0) (λ e. dot q e (zeros m) ≡ dot q e d)
      (λ e h. ap (λ (z : ℕ). z % q) (dot-zeroed e m) ∙ zero-mod q ∙ sym h) E un)

  -- ---- any view that is one by forms

  module _ (among : ℕ → List ℕ → Type 0) (E : List (List ℕ)) (F : List Form) (agrees : ℕ → List ℕ → List ℕ → Type 0)
      (see : ℕ → List ℕ → List ℕ → List ℕ) (by : ByForms q m n among E F agrees see) where
    -- where all unseen differences are hidden, one view is carried to the other
    pub hidden-carries : Hidden q m n E F → (L : ℕ) (W W' : List ℕ) → among L W → among L W' → agrees L W W' → Carrier q n see L W W'
    hidden-carries hid L W W' v v' a =
        let c : Carrier q n (view_of q m n F) L W W' = hidden-spread E F L W W' hid (by.rows L W W' v v' a) in
        record {
          T = c.T;
          valid = c.valid;
          carries = λ N w. by.views L W' (shift q N c.T) v' ∙ c.carries N w ∙ sym (by.views L W N v);
        }

    -- so nothing leaks, among any of these readings
    pub hidden-keeps : Hidden q m n E F → (readings : ℕ → List ℕ → Type 0) → ((L : ℕ) (W : List ℕ) → readings L W → among L W)
        → ¬ (Leak q n readings agrees see)
    hidden-keeps hid readings within k =
        k.unequal
        (carried-numbers q n see k.L k.W k.W'
        (hidden-carries hid k.L k.W k.W' (within k.L k.W k.W-in) (within k.L k.W' k.W'-in) k.same) k.s)

    -- a difference that nothing makes up for leaks in one position, and it takes no other readings than 0 and d
    pub unmasked-leaks : (readings : ℕ → List ℕ → Type 0) → ((L : ℕ) (W : List ℕ) → readings L W → among L W)
        → (d : List ℕ) → readings 1 (zeros m) → readings 1 d → Unseen q E d → ¬ (Mask q n F d) → Leak q n readings agrees see
    unfolding keys_showing
    unmasked-leaks readings within d r₀ r₁ un none =
        let v₀ : among 1 (zeros m) = within 1 (zeros m) r₀ in
        let v₁ : among 1 d = within 1 d r₁ in
        let ed : length d ≡ m = omega (arith, (by.symbols 1 d v₁).size) in
        record {
          L = 1;
          low = omega arith;
          high = omega arith;
          W = zeros m;
          W' = d;
          W-in = r₀;
          W'-in = r₁;
          same = by.agreed 1 (zeros m) d v₀ v₁ (unseen-agree E d ed un);
          s = see 1 (zeros m) (zeros n);
          unequal =
              counts-differ q (1 * n) (see 1 (zeros m)) (see 1 d) (see 1 (zeros m) (zeros n)) (zeros n)
              (subst (λ (k : ℕ). Vector q k (zeros n)) (omega arith) (vector-zeros q n pos))
              refl
              (λ N v e.
              let e_n : length N ≡ n = omega (arith, v.size) in
              none (record {
                t = reduce q (scale (q - 1) N);
                valid = vector-reduce q n (scale (q - 1) N) pos (length-scale (q - 1) N ∙ e_n);
                makes-up = all-undone F d N ed e_n (sym (by.views 1 d N v₁) ∙ e ∙ by.views 1 (zeros m) (zeros n) v₀);
              }));
        }
