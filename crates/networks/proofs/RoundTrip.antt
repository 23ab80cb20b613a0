-- From readings to totals: what the code's uploads and sums are in the network, that honest ones are taken, and what decoding answers and writes.
use Prim.Native.Nat.{ℕ, ◌+◌, ◌-◌, ◌*◌, ◌/◌, ◌%◌, ◌^◌, ◌≤◌, ◌<◌}
use mathlib.Core.Path.{◌≡◌, refl, sym, ap, ap₂, ◌∙◌, subst}
use mathlib.Core.Bool.{Bool, true, false, cond, not, ◌&&◌, ◌||◌}
use mathlib.Core.List.{List, [], ◌∷◌, ◌++◌}
use native.Mathlib.Nat.{mod-lt, div-eq_of_lt}
use native.Mathlib.Omega.{arith}
use lib.Arith.{digits_lt}
use lib.Dec.{T, leb, ltb, eqb, le→leb, lt→ltb}
use lib.ListN.{length}
use borrow.Author.Tests.{eq-eqb}
use Rattle.refusals.specs.declared.Code.{Code}
use Rattle.refusals.specs.Codes.{code, accepted, first_of, is_accepted, if_accepted}
use Rattle.refusals.proofs.CodeLaws.{NoneHolds, none-holds, accepted-takes}
use Rattle.refusals.proofs.Orders.{first-accepts, first-decides, rest-decides, number-accepts, never-given}
use Rattle.lists.specs.Bits.{has_bit}
use Rattle.lists.specs.Lists.{at, tab}
use Rattle.lists.proofs.Searches.{and_T, T→true, true→T, not-T→false, T-decide, all-cong, all_made}
use Rattle.lists.proofs.Sums.{sum-cong}
use Rattle.lists.proofs.ListLaws.{at-tab, tab-cong, length-tab}
use Rattle.residues.specs.Primes.{all_below}
use Rattle.residues.proofs.PrimeLaws.{prime-pos, at-below}
use Rattle.matrices.specs.Linear.{Vector}
use Rattle.cyclic.specs.Network.{Network, symbols, link_of, linked, weight, reading, key, upload, relay_sum, total, relay_view}
use Rattle.cyclic.specs.Decoding.{decodable, decoded}
use Rattle.cyclic.proofs.DecodingLaws.{decoded-true, decoded-same}
use Rattle.networks.specs.declared.Ring.{Ring}
use Rattle.networks.specs.Rings.{network_of, table_fits, weights_fit, count_checks, symbol_checks, network_checks, upload_checks, upload_of, sum_checks}
use Rattle.networks.specs.Rings.{summed, arrived_below, lent_fits, lent_below, arrival_checks, decode_checks, decoded_after}
use Rattle.networks.specs.Machine.{Ready}
use Rattle.networks.proofs.RingLaws.{sound}
use Rattle.networks.proofs.CheckLaws.{ready-known, arrivals-known}

-- a condition that is not met
unmet : (b : Bool) → T b → not b ≡ false
unmet b t = ap not (T→true b t)

-- no condition holds, so nothing is refused
none-accepts : (checks : List (Bool × Code)) → NoneHolds checks → first_of checks ≡ accepted
none-accepts [] n = refl
none-accepts (c ∷ checks) n = ap (λ (b : Bool). cond b c.1 (first_of checks)) n.0 ∙ none-accepts checks n.1

module _ (R : Ring) (K A : List ℕ) (passed : accepted ≡ first_of (network_checks R K A)) where
  ready : Ready R K A
  ready = ready-known R K A passed

  none : NoneHolds (network_checks R K A)
  none = none-holds (network_checks R K A) tt passed

  pos : 0 < R.q
  pos = prime-pos ready.prime

  weights-fit : T (weights_fit R A)
  weights-fit = true→T (weights_fit R A) (eq-eqb (length A) (R.size * R.links * (R.parts + 1)) ready.weights)

  table-fit : T (table_fits R K)
  table-fit = true→T (table_fits R K) (eq-eqb (length K) (R.size * R.rate) ready.table)

  module _ (W N : List ℕ) where
    -- what a user sends on a link, from its reading and its key
    pub upload-meant : (k l : ℕ) → upload_of R A k l (tab R.parts (reading (network_of R K A) W k)) (key (network_of R K A) N k) ≡ upload (network_of R K A) W N
        k l
    unfolding upload_of upload weight
    upload-meant k l =
        ap (λ (z : ℕ). (z + weight (network_of R K A) k l R.parts * key (network_of R K A) N k) % R.q)
        (sum-cong R.parts (λ s. weight (network_of R K A) k l s * at (tab R.parts (reading (network_of R K A) W k)) s)
        (λ s. weight (network_of R K A) k l s * reading (network_of R K A) W k s)
        (λ s b. ap (λ (z : ℕ). weight (network_of R K A) k l s * z) (at-tab R.parts (reading (network_of R K A) W k) s b)))

    -- it is taken
    pub upload-taken : Vector R.q (symbols (network_of R K A)) W → (k g : ℕ) → 1 ≤ k → k ≤ R.size → 1 ≤ g → g ≤ R.size
        → T (linked (network_of R K A) (k - 1) (g - 1))
        → accepted ≡ first_of (upload_checks R A k g (tab R.parts (reading (network_of R K A) W (k - 1))) (key (network_of R K A) N (k - 1)))
    unfolding reading key linked link_of
    upload-taken v k g kl kh gl gh link =
        let w : List ℕ = tab R.parts (reading (network_of R K A) W (k - 1)) in
        let x : ℕ = key (network_of R K A) N (k - 1) in
        let C : Network = network_of R [] [] in
        let lengths : Bool = weights_fit R A && eqb (length w) R.parts in
        let symbol : Bool = all_below R.q A && all_below R.q w && ltb x R.q in
        let known : Bool = leb 1 k && leb k R.size && leb 1 g && leb g R.size && linked C (k - 1) (g - 1) in
        let long : T lengths
        = and_T (weights_fit R A) (eqb (length w) R.parts) weights-fit
        (true→T (eqb (length w) R.parts) (eq-eqb (length w) R.parts (length-tab R.parts _))) in
        let small : T (all_below R.q w)
        = at-below R.q w
        (λ s l.
        let b : s < R.parts = subst (λ (z : ℕ). s < z) (length-tab R.parts _) l in
        subst (λ (z : ℕ). z < R.q) (sym (at-tab R.parts (reading (network_of R K A) W (k - 1)) s b))
        (v.small ((k - 1) * R.parts + s) (digits_lt (omega arith) b))) in
        let below : T symbol
        = and_T (all_below R.q A && all_below R.q w) (ltb x R.q) (and_T (all_below R.q A) (all_below R.q w) ready.weights-below small)
        (lt→ltb x R.q (mod-lt _ pos)) in
        let there : T known
        = and_T (leb 1 k && leb k R.size && leb 1 g && leb g R.size) (linked C (k - 1) (g - 1))
        (and_T (leb 1 k && leb k R.size && leb 1 g) (leb g R.size)
        (and_T (leb 1 k && leb k R.size) (leb 1 g) (and_T (leb 1 k) (leb k R.size) (le→leb 1 k kl) (le→leb k R.size kh)) (le→leb 1 g gl))
        (le→leb g R.size gh)) link in
        sym (none-accepts (upload_checks R A k g w x)
        (none.0, (none.1.0, (unmet lengths long, (none.1.1.1.0, (unmet symbol below, (unmet known there, tt)))))))

    -- what a relay sends to the server, from what it sees
    pub sum-meant : (j : ℕ) → summed R (relay_view (network_of R K A) j W N) ≡ relay_sum (network_of R K A) W N j
    unfolding relay_view relay_sum
    sum-meant j =
        ap (λ (z : ℕ). z % R.q)
        (sum-cong R.links (λ l. at (tab R.links _) l) _ (λ l b. at-tab R.links _ l b))

    pub sum-taken : (j : ℕ) → accepted ≡ first_of (sum_checks R (relay_view (network_of R K A) j W N))
    unfolding relay_view upload
    sum-taken j =
        let U : List ℕ = relay_view (network_of R K A) j W N in
        let long : T (eqb (length U) R.links) = true→T (eqb (length U) R.links) (eq-eqb (length U) R.links (length-tab R.links _)) in
        let below : T (all_below R.q U)
        = at-below R.q U
        (λ l b.
        let c : l < R.links = subst (λ (z : ℕ). l < z) (length-tab R.links _) b in
        subst (λ (z : ℕ). z < R.q) (sym (at-tab R.links _ l c)) (mod-lt _ pos)) in
        sym (none-accepts (sum_checks R U) (
          none.0,
          (none.1.0, (unmet (eqb (length U) R.links) long, (none.1.1.1.0, (unmet (all_below R.q U) below, tt)))),
        ))

-- ---- decoding

module _ (R : Ring) (K A : List ℕ) (reported : ℕ) where
  -- sums that have not arrived change nothing
  below-same : (Y Y' : List ℕ) → ((j : ℕ) → T (has_bit reported j) → at Y j ≡ at Y' j)
      → arrived_below R.q R.size reported Y ≡ arrived_below R.q R.size reported Y'
  below-same Y Y' h =
      all-cong R.size (λ j. not (has_bit reported j) || ltb (at Y j) R.q) (λ j. not (has_bit reported j) || ltb (at Y' j) R.q)
      (λ j l. one (has_bit reported j) (at Y j) (at Y' j) (h j))
    where
      one : (b : Bool) (x y : ℕ) → (T b → x ≡ y) → (not b || ltb x R.q) ≡ (not b || ltb y R.q)
      one true x y e = ap (λ (z : ℕ). ltb z R.q) (e tt)
      one false x y e = refl

  pub checks-same : (Y Y' out : List ℕ) → length Y ≡ length Y' → ((j : ℕ) → T (has_bit reported j) → at Y j ≡ at Y' j)
      → first_of (decode_checks R K A reported Y out) ≡ first_of (decode_checks R K A reported Y' out)
  checks-same Y Y' out e h =
      ap₂ (λ (n : ℕ) (b : Bool).
      first_of (((count_checks R ++ symbol_checks R.q (table_fits R K && weights_fit R A && eqb n R.size && eqb (length out) R.parts)
      (all_below R.q K && all_below R.q A && b)) ++ ((not (eqb (reported / 2 ^ R.size) 0), code 8) ∷ []))
      ++ ((not (decodable (network_of R K A) reported), code 23) ∷ []))) e (below-same Y Y' h)

  pub after_same : (Y Y' out : List ℕ) → length Y ≡ length Y' → ((j : ℕ) → T (has_bit reported j) → at Y j ≡ at Y' j)
      → decoded_after R K A reported Y out ≡ decoded_after R K A reported Y' out
  after_same Y Y' out e h =
      ap₂ (λ (c : Code) (l : List ℕ). if_accepted c l out) (checks-same Y Y' out e h)
      (tab-cong R.parts (decoded (network_of R K A) reported Y) (decoded (network_of R K A) reported Y')
      (λ s b. decoded-same (network_of R K A) reported Y Y' (λ j l. h j) s))

  -- once nothing before 23 is refused, what is decodable is accepted, and what is not is 23
  module _ (Y out : List ℕ) where
    abbrev last : List (Bool × Code)
    last = (not (decodable (network_of R K A) reported), code 23) ∷ []

    pub arrivals-first : accepted ≡ first_of (decode_checks R K A reported Y out) → accepted ≡ first_of (arrival_checks R K A reported Y out)
    arrivals-first e = first-accepts (arrival_checks R K A reported Y out) last tt e

    pub accepted-decodable : accepted ≡ first_of (decode_checks R K A reported Y out) → T (decodable (network_of R K A) reported)
    accepted-decodable e = go (T-decide (decodable (network_of R K A) reported))
      where
        go : Dec (T (decodable (network_of R K A) reported)) → T (decodable (network_of R K A) reported)
        go (yes t) = t
        go (no n) =
            absurd (omega (
              arith,
              ap (λ (c : Code). c.number)
                  (e ∙ sym (rest-decides (arrival_checks R K A reported Y out) last tt (arrivals-first e))
                  ∙ ap (λ (b : Bool). first_of ((not b, code 23) ∷ [])) (not-T→false (decodable (network_of R K A) reported) n)),
            ))

    pub decodable-accepted : accepted ≡ first_of (arrival_checks R K A reported Y out) → T (decodable (network_of R K A) reported)
        → accepted ≡ first_of (decode_checks R K A reported Y out)
    decodable-accepted e t =
        sym (ap (λ (b : Bool). first_of ((not b, code 23) ∷ [])) (T→true (decodable (network_of R K A) reported) t))
        ∙ rest-decides (arrival_checks R K A reported Y out) last tt e

    pub undecodable-refused : accepted ≡ first_of (arrival_checks R K A reported Y out) → ¬ (T (decodable (network_of R K A) reported))
        → first_of (decode_checks R K A reported Y out) ≡ code 23
    undecodable-refused e n =
        sym (rest-decides (arrival_checks R K A reported Y out) last tt e)
        ∙ ap (λ (b : Bool). first_of ((not b, code 23) ∷ [])) (not-T→false (decodable (network_of R K A) reported) n)

    -- 23 is given then alone
    pub refused-undecodable : ◌≡◌ {A = ℕ} (first_of (decode_checks R K A reported Y out)).number 23
        → (accepted ≡ first_of (arrival_checks R K A reported Y out)) × (¬ (T (decodable (network_of R K A) reported)))
    refused-undecodable n = go (is_accepted (first_of (arrival_checks R K A reported Y out))) refl
      where
        go : (b : Bool) → is_accepted (first_of (arrival_checks R K A reported Y out)) ≡ b
            → (accepted ≡ first_of (arrival_checks R K A reported Y out)) × (¬ (T (decodable (network_of R K A) reported)))
        go false e =
            absurd (never-given 23 (arrival_checks R K A reported Y out) tt
            (ap (λ (c : Code). c.number) (first-decides (arrival_checks R K A reported Y out) last e) ∙ n))
        go true e =
            let a : accepted ≡ first_of (arrival_checks R K A reported Y out) = number-accepts (arrival_checks R K A reported Y out) tt e in
            (a, λ t. omega (arith, n, ap (λ (c : Code). c.number) (decodable-accepted a t)))

    -- what is written
    pub totals-written : accepted ≡ first_of (decode_checks R K A reported Y out) → (W N : List ℕ)
        → ((j : ℕ) → j < R.size → T (has_bit reported j) → at Y j ≡ relay_sum (network_of R K A) W N j)
        → decoded_after R K A reported Y out ≡ tab R.parts (total (network_of R K A) W)
    totals-written e W N h =
        accepted-takes (first_of (decode_checks R K A reported Y out)) (tab R.parts (decoded (network_of R K A) reported Y)) out e
        ∙ tab-cong R.parts (decoded (network_of R K A) reported Y) (total (network_of R K A) W)
        (λ s b. decoded-true (network_of R K A) (sound R K A (arrivals-known R K A reported Y out (arrivals-first e)).ready) reported
        (accepted-decodable e) W N Y h s b)

  -- honest sums of the arrived are taken
  pub arrivals-taken : accepted ≡ first_of (network_checks R K A) → reported < 2 ^ R.size → (W N Y out : List ℕ) → length Y ≡ R.size → length out ≡ R.parts
      → ((j : ℕ) → j < R.size → T (has_bit reported j) → at Y j ≡ relay_sum (network_of R K A) W N j)
      → accepted ≡ first_of (arrival_checks R K A reported Y out)
  unfolding relay_sum
  arrivals-taken passed few W N Y out many room h =
      let r : Ready R K A = ready-known R K A passed in
      let n : NoneHolds (network_checks R K A) = none-holds (network_checks R K A) tt passed in
      let long : T (lent_fits R K A Y out)
      = and_T (table_fits R K && weights_fit R A && eqb (length Y) R.size) (eqb (length out) R.parts)
      (and_T (table_fits R K && weights_fit R A) (eqb (length Y) R.size)
      (and_T (table_fits R K) (weights_fit R A) (table-fit R K A passed) (weights-fit R K A passed))
      (true→T (eqb (length Y) R.size) (eq-eqb (length Y) R.size many)))
      (true→T (eqb (length out) R.parts) (eq-eqb (length out) R.parts room)) in
      let sums : T (arrived_below R.q R.size reported Y)
      = all_made R.size (λ j. not (has_bit reported j) || ltb (at Y j) R.q)
      (λ j l. one (has_bit reported j) (at Y j)
      (λ t. subst (λ (z : ℕ). z < R.q) (sym (h j l t)) (mod-lt _ (prime-pos r.prime)))) in
      let below : T (lent_below R K A reported Y)
      = and_T (all_below R.q K && all_below R.q A) (arrived_below R.q R.size reported Y)
      (and_T (all_below R.q K) (all_below R.q A) r.table_below r.weights-below) sums in
      sym (none-accepts (arrival_checks R K A reported Y out) (
        n.0,
        (
          n.1.0,
          (
            unmet (lent_fits R K A Y out) long,
            (
              n.1.1.1.0,
              (unmet (lent_below R K A reported Y) below, (ap not (eq-eqb (reported / 2 ^ R.size) 0 (div-eq_of_lt few)), tt)),
            ),
          ),
        ),
      ))
    where
      one : (b : Bool) (x : ℕ) → (T b → x < R.q) → T (not b || ltb x R.q)
      one true x e = lt→ltb x R.q (e tt)
      one false x e = tt
