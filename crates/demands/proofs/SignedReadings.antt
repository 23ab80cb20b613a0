-- Loads that run backwards: the statements of specs/SignedReadings.
use Prim.Native.Nat.{ℕ, ◌-◌, ◌*◌}
use mathlib.Core.Path.{◌≡◌, sym, ap, ◌∙◌, subst}
use mathlib.Core.Logic.{◌↔◌}
use mathlib.Core.Bool.{true, not, ◌&&◌}
use mathlib.Core.List.{List, [], ◌∷◌, map}
use native.Mathlib.Omega.{arith}
use lib.Dec.{eqb, leb→le, le→leb}
use lib.IntN.{ℤ, pos, nat_abs}
use lib.ListN.{length, take, drop, get_or}
use borrow.Author.Tests.{not-false}
use Rattle.refusals.specs.Codes.{code, accepted, first_of}
use Rattle.refusals.proofs.CodeLaws.{none-holds}
use Rattle.lists.specs.Lists.{tab}
use Rattle.lists.proofs.Fronts.{row_fits, length_part}
use Rattle.residues.specs.Primes.{all_below}
use Rattle.residues.proofs.PrimeLaws.{prime-pos}
use Rattle.matrices.specs.Linear.{Vector}
use Rattle.matrices.proofs.MadeVectors.{tab-vector}
use Rattle.secrecy.specs.Model.{total}
use Rattle.secrecy.specs.Leaks.{JointLeak}
use Rattle.plans.specs.declared.Plan.{Plan}
use Rattle.plans.specs.Plans.{users_of, length_fits, plan_code}
use Rattle.vetting.specs.Pools.{pool_of}
use Rattle.vetting.specs.Joint.{relay_pair}
use Rattle.vetting.specs.Vet.{other_checks, vet_code}
use Rattle.vetting.proofs.ExactSecrecy.{Checked, checked, first-map, accepted-checked, accepted-equal-numbers, refused-iff-leaks, refused-names-first}
use Rattle.keys.specs.Keys.{keys_of}
use Rattle.masking.specs.Blocks.{upload_of}
use Rattle.rounds.specs.Rounds.{open_checks}
use Rattle.signed.specs.Numbers.{symbol_of}
use Rattle.signed.specs.Caps.{cap_fits, all_in_cap}
use Rattle.signed.specs.SignedBlocks.{totals_code, totals_after}
use Rattle.signed.proofs.NumberLaws.{symbol-is, symbol-below}
use Rattle.signed.proofs.CapLaws as CapLaws
use Rattle.signed.proofs.CapLaws.{Cap, cap-known, one-room}
use Rattle.signed.proofs.CheckLaws.{Shape, plan-shape, positive}
use Rattle.signed.proofs.Totals.{shown-symbol, own-readings, total-below, shown-totals}
use Rattle.signed.proofs.SignedLaws as SignedLaws
use Rattle.signed.proofs.SignedLaws.{symbols-vector, signed-taken, symbols-unmasked, symbols-shown, signed-gives-back}
use Rattle.signed.specs.SignedLeaks.{SignedJointLeak}
use Rattle.signed.proofs.Secrecy as Secrecy
use Rattle.signed.proofs.Secrecy.{members_alike, agrees-alike, pair-alike, joint-alike}
use Rattle.demands.specs.SignedReadings.{CapMeans, CapRefused, SixteenExactly, FifteenExactly, AllInCapMeans, CapOfSixteen, Travels, ThereAndBack, SignedUploadsAre, ShownIsTrue}
use Rattle.demands.specs.SignedReadings.{AnyTotalsShown, AnyUnmasked, LeaksAlike, JointLeaksAlike, RefusedIffSignedLeaks, NamesFirstSigned, SumsAlike}
use Rattle.demands.specs.SignedReadings.{SignedEqualNumbers, SignedJointHides, RefusedIffSignedJointLeaks, NamesLeastSigned, SignedUnmasks, NeverOutside}
use Rattle.demands.proofs.Totals.{readings-to-total}
use Rattle.demands.proofs.Equations.{key-vector, keys-are, sent_is}
use Rattle.demands.proofs.JointRelays.{accepted-alone, joint-hides, refused-iff-joint-leaks, names-least}

pub cap-means : CapMeans
cap-means = CapLaws.cap-means

module _ (P : Plan) (m : ℕ) where
  pub cap-refused : CapRefused P m
  cap-refused = CapLaws.cap-refused P m

  pub sixteen-exactly : SixteenExactly P m
  sixteen-exactly L R a b = (
    SignedLaws.sixteen-exactly P m L
        ((not (eqb (length R) L && eqb (length a) L && eqb (length b) L), code 4)
        ∷ (not (all_in_cap m R), code 15)
        ∷ (not (all_below P.q a), code 3)
        ∷ []) tt,
    SignedLaws.sixteen-exactly P m L
        ((not (eqb (length a) L && eqb (length b) L && eqb (length R) L), code 4) ∷ (not (all_below P.q a && all_below P.q b), code 3) ∷ []) tt,
    SignedLaws.sixteen-exactly P m L
        ((not (eqb (length a) L && eqb (length R) L), code 4) ∷ (not (all_below P.q a), code 3) ∷ []) tt,
  )

  pub fifteen-exactly : FifteenExactly P m
  fifteen-exactly L = SignedLaws.fifteen-exactly P m L

pub all-in-cap-means : AllInCapMeans
all-in-cap-means m R = (
  (λ t p l. le→leb (nat_abs (get_or R p (pos 0))) m (CapLaws.cap-at m R t p)),
  (λ h. CapLaws.at_cap m R (λ p l. leb→le (nat_abs (get_or R p (pos 0))) m (h p l))),
)

pub cap-of-sixteen : CapOfSixteen
cap-of-sixteen P q sixteen = (rw (sixteen, q), rw (sixteen, q))

module _ (P : Plan) (m : ℕ) (cap : cap_fits P m ≡ true) where
  abbrev fits : Cap (users_of P) P.q m
  fits = cap-known P m cap

  pub travels : Travels P m cap
  travels some w t =
      let inside = leb→le (nat_abs w) m t in
      let room = one-room fits some in
      let (negative, other) = symbol-is P.q w (omega arith) in
      (symbol-below P.q w (omega arith), negative, other)

  pub there_and_back : ThereAndBack P m cap
  there_and_back some w t = shown-symbol P.q m w (leb→le (nat_abs w) m t) (one-room fits some)

  module _ (K : List ℕ) (L : ℕ) (R : List ℤ) (N : List ℕ) where
    abbrev W : List ℕ
    W = map (symbol_of P.q) R

    pub signed-uploads : SignedUploadsAre P m cap K L R N
    signed-uploads plan fit size i l inside out room =
        let own : List ℤ = take L (drop (i * L) R) in
        let key : List ℕ = take L (drop (i * L) (keys_of P K L N)) in
        let s : Shape P m L = plan-shape P m L plan cap fit in
        let vec : Vector P.q L key = subst (λ (X : List ℕ). Vector P.q L X) (sym (keys-are P K L N i l)) (key-vector (pool_of P K) (positive s) L N i) in
        let long : length own ≡ L = length_part L (i * L) R (row_fits (users_of P) L i (length R) l size) in
        let (told, written) = signed-taken P m L s own key out long inside vec room in (
          told,
          written
              ∙ ap (λ (X : List ℕ). upload_of P.q L X key) (sym (own-readings (pool_of P K) m L R size i l))
              ∙ sent_is P K (positive s) L W N i l,
        )

    pub shown-is-true : ShownIsTrue P m cap K L R N
    shown-is-true round plan size inside zs pass first events frames heard out shown room room' =
        let pool = pool_of P K in
        let totals : List ℕ = tab L (total pool L W) in
        let given = (readings-to-total P K L W N round zs pass first events frames heard out room).1 in
        let opens = none-holds (open_checks P.clusters P.size P.q L true) tt pass in
        let s : Shape P m L = plan-shape P m L plan cap (not-false (length_fits L) opens.1.1.0) in
        let (taken, written) = symbols-shown P m L s totals shown (tab-vector P.q L (total pool L W) (λ p _. total-below pool (positive s) L W p)) room' in (
          taken ∙ ap (λ (X : List ℕ). totals_code P m L X shown) (sym given),
          ap (λ (X : List ℕ). totals_after P m L X shown) given ∙ written ∙ shown-totals pool m L R size inside fits,
        )

  module _ (L : ℕ) (plan : accepted ≡ plan_code P) (fit : length_fits L ≡ true) (out : List ℤ) (room : length out ≡ L) where
    pub any-totals-shown : AnyTotalsShown P m cap L plan fit out room
    any-totals-shown totals vec = symbols-shown P m L (plan-shape P m L plan cap fit) totals out vec room

    pub any-unmasked : AnyUnmasked P m cap L plan fit out room
    any-unmasked sent key vec own = symbols-unmasked P m L (plan-shape P m L plan cap fit) sent key out vec own room

  module _ (K : List ℕ) (others : accepted ≡ first_of (other_checks P K)) where
    abbrev c : Checked P K
    c = checked P K others

    pub leaks-alike : LeaksAlike P m cap K others
    leaks-alike = pair-alike (pool_of P K) m fits c.prime c.valid c.zero-sum

    pub joint-leaks-alike : JointLeaksAlike P m cap K others
    joint-leaks-alike = joint-alike (pool_of P K) m fits c.prime c.valid

    pub refused-iff-signed-leaks : RefusedIffSignedLeaks P m cap K others
    refused-iff-signed-leaks =
        let r = refused-iff-leaks P K others in (
          (λ e. let k = r.0 e in (k.0, k.1, k.2, (leaks-alike k.0 k.1).0 k.3)),
          (λ k. r.1 (k.0, k.1, k.2, (leaks-alike k.0 k.1).1 k.3)),
        )

    pub names-first-signed : NamesFirstSigned P m cap K others
    names-first-signed p =
        let r = refused-names-first P K others p in (
          (λ e. first-map (λ x. leaks-alike x.coalition x.observer) (r.0 e)),
          (λ k. r.1 (first-map (λ x. let b = leaks-alike x.coalition x.observer in (b.1, b.0)) k)),
        )

  pub sums-alike : SumsAlike P m cap
  sums-alike K L R R' a b = Secrecy.sums-alike (pool_of P K) m fits L R R' a b

  pub signed-equal-numbers : SignedEqualNumbers P m cap
  signed-equal-numbers K e g w i L low high R R' in_cap in-cap' agree =
      let c = checked P K (accepted-checked P K e) in
      let h = prime-pos c.prime in
      accepted-equal-numbers P K e g w i L low high (map (symbol_of P.q) R) (map (symbol_of P.q) R')
      (symbols-vector P.q (users_of P * L) R h in_cap.size) (symbols-vector P.q (users_of P * L) R' h in-cap'.size)
      ((agrees-alike (pool_of P K) m fits L R R' in_cap in-cap' g w).0 agree)

  module _ (K : List ℕ) (a b : ℕ) where
    joint-leak : accepted ≡ vet_code P K → (g : ℕ) → JointLeak (pool_of P K) (a - 1) (b - 1) g ↔ SignedJointLeak (pool_of P K) m (a - 1) (b - 1) g
    joint-leak e = joint-leaks-alike K (accepted-checked P K e) (a - 1) (b - 1)

    pub signed-joint-hides : SignedJointHides P m cap K a b
    signed-joint-hides e g few L low high R R' in_cap in-cap' agree =
        let v = (accepted-alone P K (relay_pair a b) e).0 in
        let c = checked P K (accepted-checked P K v) in
        let h = prime-pos c.prime in
        joint-hides P K a b e g few L low high (map (symbol_of P.q) R) (map (symbol_of P.q) R')
        (symbols-vector P.q (users_of P * L) R h in_cap.size) (symbols-vector P.q (users_of P * L) R' h in-cap'.size)
        ((members_alike (pool_of P K) m fits L R R' in_cap in-cap' g).0 agree)

    pub refused-iff-signed-joint-leaks : RefusedIffSignedJointLeaks P m cap K a b
    refused-iff-signed-joint-leaks v fit =
        let r = refused-iff-joint-leaks P K a b v fit in (
          (λ e. let k = r.0 e in (k.0, k.1, (joint-leak v k.0).0 k.2)),
          (λ k. r.1 (k.0, k.1, (joint-leak v k.0).1 k.2)),
        )

    pub names-least-signed : NamesLeastSigned P m cap K a b
    names-least-signed n =
        let r = names-least P K a b n in
        let (g, named, few, leak, least) = r.3 in
        (g, named, few, (joint-leak r.0 g).0 leak, (λ h l f k. least h l f ((joint-leak r.0 h).1 k)))

pub signed-unmasks : SignedUnmasks
signed-unmasks P m n L = signed-gives-back P m n L

pub never-outside : NeverOutside
never-outside P m L = SignedLaws.never-outside P m L
