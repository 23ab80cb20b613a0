-- Uploads and shown totals of one symbol.
use Prim.Native.Nat.{ℕ, ◌+◌, ◌*◌, ◌%◌, ◌^◌, ◌≤◌, ◌<◌}
use mathlib.Core.Path.{◌≡◌, refl, sym, ap, ap₂, ◌∙◌, subst}
use mathlib.Core.Bool.{Bool, true, false, cond, not}
use mathlib.Core.List.{List, [], ◌∷◌, map}
use native.Mathlib.Nat.{mod-lt}
use native.Mathlib.Omega.{arith}
use lib.Arith.{digits_lt}
use lib.Dec.{T, leb, ltb}
use lib.IntN.{ℤ, pos, ◌-ℤ◌}
use lib.ListN.{length, get_or}
use borrow.Author.Tests.{lt-ltb, le-leb, eq-eqb, ltb-true, ltb-false}
use mir.Syntax.{w32}
use mir.Val.{SFits}
use Rattle.refusals.specs.Codes.{code, accepted, first_of}
use Rattle.refusals.proofs.CodeLaws.{accepted-takes}
use Rattle.refusals.proofs.Orders.{rest-decides}
use Rattle.lists.specs.Lists.{at, tab}
use Rattle.lists.proofs.ListLaws.{at-tab, length-tab, tab-cong}
use Rattle.lists.specs.Sums.{sum_to}
use Rattle.lists.proofs.Sums.{sum-cong}
use Rattle.lists.proofs.Searches.{T→true, true→T, and_T}
use Rattle.residues.specs.Primes.{is_prime, all_below}
use Rattle.residues.specs.Field.{sum_of}
use Rattle.residues.proofs.Congruence.{residue-mod}
use Rattle.residues.proofs.PrimeLaws.{below_at, at-below, prime-pos, prime-true, true-prime}
use Rattle.matrices.specs.Linear.{Vector}
use Rattle.secrecy.specs.Model.{reading, key, upload, relay_sum}
use Rattle.plans.specs.declared.Plan.{Plan}
use Rattle.plans.specs.Plans.{users_of, in_bounds, table_checks}
use Rattle.plans.proofs.TableLaws.{Passed, table-passed}
use Rattle.vetting.specs.Pools.{pool_of}
use Rattle.keys.specs.Keys.{keys_of, block_checks, unvetted_code, unvetted_after}
use Rattle.keys.proofs.KeyLaws.{keys-are, length-keys, keys-at}
use Rattle.signed.specs.Numbers.{symbol_of, shown_of}
use Rattle.signed.specs.Caps.{cap_fits, all_in_cap}
use Rattle.signed.specs.SignedBlocks.{signed_upload_code, signed_upload_after, totals_code, totals_after}
use Rattle.signed.proofs.CheckLaws.{Shape, positive, reading-room}
use Rattle.signed.proofs.NumberLaws.{half-fits}
use Rattle.signed.proofs.SignedLaws.{signed-taken, symbols-shown}
use Rattle.trials.specs.Drawing.{Fit, Maskable}

module _ (P : Plan) (m : ℕ) (fit : Fit P m) where
  pub shape : Shape P m 1
  shape = record { bounds = fit.bounds; prime = fit.prime; cap = fit.cap; fits = refl }

  pub some-symbols : 0 < P.q
  some-symbols = positive shape

  pub cap-room : 2 * m < P.q
  cap-room = reading-room shape

  one_inside : (r : ℕ) → r ≤ m → T (all_in_cap m (pos r ∷ []))
  unfolding all_in_cap
  one_inside r h = and_T (leb r m) true (true→T (leb r m) (le-leb r m h)) tt

  -- one reading and one key's symbol
  pub one-upload : (r : ℕ) (key out : List ℕ) → r ≤ m → length key ≡ 1 → all_below P.q key ≡ true → length out ≡ 1
      → (at (signed_upload_after P m 1 (pos r ∷ []) key out) 0 ≡ (r + at key 0) % P.q) × (accepted ≡ signed_upload_code P m 1 (pos r ∷ []) key out)
  one-upload r key out inside size below room =
      let q : ℕ = P.q in
      let vec : Vector q 1 key = record { size = size; small = λ i _. below_at q key some-symbols (true→T (all_below q key) below) i } in
      let sent : ℕ → ℕ = λ p. sum_of q (at (map (symbol_of q) (pos r ∷ [])) p) (at key p) in
      let symbol : symbol_of q (pos r) ≡ r = ap (λ (b : Bool). cond b r 0) (lt-ltb r q (omega (arith, cap-room))) in
      let (told, taken) = signed-taken P m 1 shape (pos r ∷ []) key out refl (one_inside r inside) vec room in (
        ap (λ (l : List ℕ). at l 0) taken
            ∙ at-tab 1 sent 0 (omega arith)
            ∙ residue-mod q (symbol_of q (pos r) + at key 0) some-symbols
            ∙ ap (λ (x : ℕ). (x + at key 0) % q) symbol,
        told,
      )

  -- one total
  pub one-shown : (t : ℕ) (out : List ℤ) → t < P.q → length out ≡ 1
      → (get_or (totals_after P m 1 (t ∷ []) out) 0 (pos 0) ≡ shown_of P.q t) × (accepted ≡ totals_code P m 1 (t ∷ []) out)
  one-shown t out h room =
      let (told, shown) = symbols-shown P m 1 shape (t ∷ []) out (record { size = refl; small = λ i l. small i l }) room in
      (ap (λ (l : List ℤ). get_or l 0 (pos 0)) shown, told)
    where
      small : (i : ℕ) → i < 1 → at (t ∷ []) i < P.q
      small i l = let e : 0 ≡ i = omega arith in subst (λ (k : ℕ). at (t ∷ []) k < P.q) e h

-- a shown total fits 32 bits
pub shown-fits : (q t : ℕ) → q < 2 ^ 32 → t < q → SFits w32 (shown_of q t)
shown-fits q t h l = go (ltb (2 * t) q) refl
  where
    go : (b : Bool) → ltb (2 * t) q ≡ b → SFits w32 (cond b (pos t) (pos t -ℤ pos q))
    go true e = record { sfits = omega (arith, ltb-true (2 * t) q e) }
    go false e = half-fits q t h l (ltb-false (2 * t) q e)

-- ---- everyone's key and upload

module _ (P : Plan) (K : List ℕ) (m : ℕ) (N W : List ℕ) (s : Maskable P K m N W) where
  pos-q : 0 < P.q
  pos-q = some-symbols P m s.fit

  -- dealing without a vet refuses nothing
  pub dealt : (out : List ℕ) → length out ≡ users_of P → (unvetted_after P K 1 N out ≡ keys_of P K 1 N) × (accepted ≡ unvetted_code P K 1 N out)
  dealt out room =
      let told : accepted ≡ unvetted_code P K 1 N out =
      sym
      (simp (eq-eqb (length N) (1 * P.rate) (omega (arith, s.source)), eq-eqb (length out) (users_of P * 1) (omega arith), s.symbols))
      ∙ rest-decides (table_checks P K) (block_checks P 1 N out) tt s.table in
      (accepted-takes (unvetted_code P K 1 N out) (keys_of P K 1 N) out told, told)

  pub keys_length : length (keys_of P K 1 N) ≡ users_of P
  keys_length = ap length (sym (keys-are P K 1 N)) ∙ length-keys P.q (users_of P) P.rate 1 K N ∙ omega arith

  key-at : (i : ℕ) → i < users_of P → at (keys_of P K 1 N) i ≡ key (pool_of P K) N i 0
  key-at i h = let e : i ≡ i * 1 + 0 = omega arith in ap (at (keys_of P K 1 N)) e ∙ keys-at P K 1 N i 0 h (omega arith)

  pub keys_below : all_below P.q (keys_of P K 1 N) ≡ true
  unfolding key
  keys_below =
      T→true (all_below P.q (keys_of P K 1 N))
      (at-below P.q (keys_of P K 1 N)
      (λ i h. subst (λ (x : ℕ). x < P.q) (sym (key-at i (omega (arith, keys_length)))) (mod-lt _ pos-q)))

  -- reading and key are the upload
  pub upload-is : (i : ℕ) → i < users_of P → (at W i + at (keys_of P K 1 N) i) % P.q ≡ upload (pool_of P K) 1 W N i 0
  unfolding upload reading
  upload-is i h =
      let e : i ≡ i * 1 + 0 = omega arith in
      ap₂ (λ (x y : ℕ). (x + y) % P.q) (ap (at W) e) (key-at i h)

  -- ---- from uploads to the total

  abbrev pub uploads_all : List ℕ
  uploads_all = tab (users_of P) (λ i. upload (pool_of P K) 1 W N i 0)

  abbrev pub relays_all : List ℕ
  relays_all = tab P.clusters (λ u. relay_sum (pool_of P K) 1 W N u 0)

  tab-below : (n : ℕ) (f : ℕ → ℕ) → ((i : ℕ) → i < n → f i < P.q) → all_below P.q (tab n f) ≡ true
  tab-below n f h =
      T→true (all_below P.q (tab n f))
      (at-below P.q (tab n f)
      (λ i l.
      let k : i < n = omega (arith, length-tab n f) in
      subst (λ (x : ℕ). x < P.q) (sym (at-tab n f i k)) (h i k)))

  pub uploads-below : all_below P.q uploads_all ≡ true
  unfolding upload
  uploads-below = tab-below (users_of P) (λ i. upload (pool_of P K) 1 W N i 0) (λ i l. mod-lt _ pos-q)

  pub relays-below : all_below P.q relays_all ≡ true
  unfolding relay_sum
  relays-below = tab-below P.clusters (λ u. relay_sum (pool_of P K) 1 W N u 0) (λ u l. mod-lt _ pos-q)

  -- the sums of the uploads are the relay sums
  pub relays-are : tab P.clusters (λ u. sum_to P.size (λ v. at uploads_all (u * P.size + v)) % P.q) ≡ relays_all
  unfolding relay_sum
  relays-are =
      tab-cong P.clusters (λ u. sum_to P.size (λ v. at uploads_all (u * P.size + v)) % P.q) (λ u. relay_sum (pool_of P K) 1 W N u 0)
      (λ u h.
      ap (λ (x : ℕ). x % P.q)
      (sum-cong P.size (λ v. at uploads_all (u * P.size + v)) (λ v. upload (pool_of P K) 1 W N (u * P.size + v) 0)
      (λ v l. at-tab (users_of P) (λ i. upload (pool_of P K) 1 W N i 0) (u * P.size + v) (digits_lt h l))))

  -- and their sum is the total
  pub total-are : sum_to P.clusters (at relays_all) % P.q ≡ sum_to P.clusters (λ u. relay_sum (pool_of P K) 1 W N u 0) % P.q
  total-are =
      ap (λ (x : ℕ). x % P.q)
      (sum-cong P.clusters (at relays_all) (λ u. relay_sum (pool_of P K) 1 W N u 0) (λ u h. at-tab P.clusters (λ u. relay_sum (pool_of P K) 1 W N u 0) u h))

-- showing a total of 0 judges the cap alone, where the plan is good
pub cap-judged : (P : Plan) (m : ℕ) → in_bounds P ≡ true → is_prime P.q ≡ true
    → totals_code P m 1 (0 ∷ []) (pos 0 ∷ []) ≡ first_of ((not (cap_fits P m), code 16) ∷ [])
unfolding all_below
cap-judged P m b p = rw (b, p, lt-ltb 0 P.q (prime-pos (true-prime P.q p)))

pub cap-told : (P : Plan) (K : List ℕ) (m : ℕ) → accepted ≡ first_of (table_checks P K)
    → totals_code P m 1 (0 ∷ []) (pos 0 ∷ []) ≡ first_of ((not (cap_fits P m), code 16) ∷ [])
cap-told P K m e = let p : Passed P K = table-passed P K [] tt e in cap-judged P m p.bounds (prime-true P.q p.prime)
