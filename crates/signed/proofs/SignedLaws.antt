-- Laws of the signed calls: "Taking a key off shows the reading likewise, and never gives 15.", and any block of symbols is shown.
use Prim.Native.Nat.{ℕ, ◌*◌, ◌≤◌, ◌<◌}
use mathlib.Core.Path.{◌≡◌, refl, sym, ap, ap₂, ◌∙◌, subst}
use mathlib.Core.Logic.{◌≢◌, ◌⊎◌, ◌↔◌}
use mathlib.Core.Bool.{Bool, true, false, not, ◌&&◌}
use mathlib.Core.List.{List, [], ◌∷◌, ◌++◌, map}
use native.Mathlib.Omega.{arith}
use lib.Dec.{T, eqb, leb→le}
use lib.IntN.{ℤ, pos, nat_abs}
use lib.ListN.{length, get_or, length-map}
use borrow.Author.Tests.{eq-eqb, not-true}
use Rattle.refusals.specs.declared.Code.{Code}
use Rattle.refusals.specs.Codes.{code, accepted, first_of}
use Rattle.refusals.proofs.CodeLaws.{accepted-takes, none-holds}
use Rattle.refusals.proofs.Orders.{lacks, never-given, given-exactly}
use Rattle.lists.proofs.Searches.{T_and, T→true}
use Rattle.lists.proofs.ListLaws.{map_get}
use Rattle.residues.specs.Primes.{all_below}
use Rattle.residues.proofs.PrimeLaws.{at-below, below_at}
use Rattle.matrices.specs.Linear.{Vector}
use Rattle.plans.specs.declared.Plan.{Plan}
use Rattle.plans.specs.Plans.{users_of, length_fits, plan_checks, plan_code}
use Rattle.masking.proofs.BlockLaws.{upload-vector, unmask-upload}
use Rattle.signed.specs.Numbers.{symbol_of, shown_of}
use Rattle.signed.specs.Caps.{cap_fits, is_in_cap, all_in_cap}
use Rattle.signed.specs.SignedBlocks.{cap_checks, signed_upload_code, signed_upload_of, signed_upload_after, signed_unmask_checks, signed_unmask_code}
use Rattle.signed.specs.SignedBlocks.{signed_unmasked_of, signed_unmask_after, totals_code, totals_after}
use Rattle.signed.proofs.NumberLaws.{symbol-below}
use Rattle.signed.proofs.CapLaws.{cap-refused}
use Rattle.signed.proofs.CheckLaws.{Shape, shape, lengths, shape_checks, plan-shape, positive, reading-room, uploadable}
use Rattle.signed.proofs.Totals.{shown-symbol}

-- readings inside the cap, as symbols and back
shown-symbols : (q m : ℕ) (R : List ℤ) → T (all_in_cap m R) → 2 * m < q → map (shown_of q) (map (symbol_of q) R) ≡ R
unfolding all_in_cap
shown-symbols q m [] t room = refl
shown-symbols q m (w ∷ R) t room =
    let (here, rest) = T_and (is_in_cap m w) (all_in_cap m R) t in
    ap₂ (λ (x : ℤ) (l : List ℤ). x ∷ l) (shown-symbol q m w (leb→le (nat_abs w) m here) room) (shown-symbols q m R rest room)

-- they travel as symbols
pub symbols-vector : (q n : ℕ) (R : List ℤ) → 0 < q → length R ≡ n → Vector q n (map (symbol_of q) R)
symbols-vector q n R h size =
    record {
      size = length-map R (symbol_of q) ∙ size;
      small = λ i l. subst (λ (x : ℕ). x < q) (sym (map_get (symbol_of q) R i (pos 0) 0 (omega (arith, size)))) (symbol-below q (get_or R i (pos 0)) h);
    }

pub vector-below : (q n : ℕ) (l : List ℕ) → Vector q n l → all_below q l ≡ true
vector-below q n l vec = T→true (all_below q l) (at-below q l (λ i h. vec.small i (subst (λ (n : ℕ). i < n) vec.size h)))

-- ---- 16 and 15

module _ (P : Plan) (m L : ℕ) where
  pub sixteen-exactly : (rest : List (Bool × Code)) → T (lacks 16 rest)
      → ◌≡◌ {A = ℕ} (first_of (cap_checks P m L ++ rest)).number 16 ↔ ((accepted ≡ plan_code P) × ((m ≡ 0) ⊎ (P.q ≤ 2 * users_of P * m)))
  sixteen-exactly rest t =
      let (gives, given) = given-exactly 16 (plan_checks P) (not (cap_fits P m)) ((not (length_fits L), code 9) ∷ rest) tt tt t in
      let (none, some) = cap-refused P m in
      ((λ e. let (plan, cap) = gives e in (plan, none (not-true (cap_fits P m) cap))), (λ k. given (k.0, ap not (some k.1))))

  pub fifteen-exactly : (R : List ℤ) (key out : List ℕ)
      → ◌≡◌ {A = ℕ} (signed_upload_code P m L R key out).number 15
      ↔ ((accepted ≡ plan_code P) × (cap_fits P m ≡ true) × (length_fits L ≡ true) × (length R ≡ L) × (length key ≡ L) × (length out ≡ L)
      × (all_in_cap m R ≡ false))
  fifteen-exactly R key out =
      let sized : Bool = eqb (length R) L && eqb (length key) L && eqb (length out) L in
      let (gives, given) = given-exactly 15 (shape_checks P m L sized) (not (all_in_cap m R)) ((not (all_below P.q key), code 3) ∷ []) tt tt tt in (
        (λ e.
            let (before, outside) = gives e in
            let w = none-holds (shape_checks P m L sized) tt before in
            let (a, b, o) = lengths (length R) (length key) (length out) L w.1.1.1.1.0 in
            let s = shape P m L w.0 w.1.0 w.1.1.0 w.1.1.1.0 in
            (simp (s.bounds, s.prime), s.cap, s.fits, a, b, o, not-true (all_in_cap m R) outside)),
        (λ (plan, cap, fits, a, b, o, outside).
            let s = plan-shape P m L plan cap fits in
            given (
              simp (s.bounds, s.prime, cap, fits, eq-eqb (length R) L a, eq-eqb (length key) L b, eq-eqb (length out) L o),
              ap not outside,
            )),
      )

  module _ (s : Shape P m L) where
    -- readings inside the cap are uploaded
    pub signed-taken : (R : List ℤ) (key out : List ℕ) → length R ≡ L → T (all_in_cap m R) → Vector P.q L key → length out ≡ L
        → (accepted ≡ signed_upload_code P m L R key out) × (signed_upload_after P m L R key out ≡ signed_upload_of P L R key)
    signed-taken R key out size inside vec room =
        let told : accepted ≡ signed_upload_code P m L R key out = simp (
          s.bounds,
          s.prime,
          s.cap,
          s.fits,
          eq-eqb (length R) L size,
          eq-eqb (length key) L vec.size,
          eq-eqb (length out) L room,
          T→true (all_in_cap m R) inside,
          vector-below P.q L key vec,
        ) in
        (told, accepted-takes (signed_upload_code P m L R key out) (signed_upload_of P L R key) out told)

    -- the key is taken off any symbols
    pub symbols-unmasked : (sent key : List ℕ) (out : List ℤ) → Vector P.q L sent → Vector P.q L key → length out ≡ L
        → (accepted ≡ signed_unmask_code P m L sent key out) × (signed_unmask_after P m L sent key out ≡ signed_unmasked_of P L sent key)
    symbols-unmasked sent key out vec own room =
        let told : accepted ≡ signed_unmask_code P m L sent key out = simp (
          s.bounds,
          s.prime,
          s.cap,
          s.fits,
          eq-eqb (length sent) L vec.size,
          eq-eqb (length key) L own.size,
          eq-eqb (length out) L room,
          vector-below P.q L sent vec,
          vector-below P.q L key own,
        ) in
        (told, accepted-takes (signed_unmask_code P m L sent key out) (signed_unmasked_of P L sent key) out told)

    -- a block of symbols is shown
    pub symbols-shown : (totals : List ℕ) (out : List ℤ) → Vector P.q L totals → length out ≡ L
        → (accepted ≡ totals_code P m L totals out) × (totals_after P m L totals out ≡ map (shown_of P.q) totals)
    symbols-shown totals out vec room =
        let told : accepted ≡ totals_code P m L totals out = simp (
          s.bounds,
          s.prime,
          s.cap,
          s.fits,
          eq-eqb (length totals) L vec.size,
          eq-eqb (length out) L room,
          vector-below P.q L totals vec,
        ) in
        (told, accepted-takes (totals_code P m L totals out) (map (shown_of P.q) totals) out told)

  -- whatever is handed over, the answer is not 15
  pub never-outside : (upload key : List ℕ) (out : List ℤ) → (signed_unmask_code P m L upload key out).number ≢ 15
  never-outside upload key out = never-given 15 (signed_unmask_checks P m L upload key out) tt

-- where signed readings are uploaded, taking the key off what is sent is not refused, and writes the readings
pub signed-gives-back : (P : Plan) (m m' L : ℕ) (R : List ℤ) (key out : List ℕ) (back : List ℤ) → accepted ≡ signed_upload_code P m L R key out
    → cap_fits P m' ≡ true → length back ≡ L
    → (accepted ≡ signed_unmask_code P m' L (signed_upload_of P L R key) key back) × (signed_unmask_after P m' L (signed_upload_of P L R key) key back ≡ R)
signed-gives-back P m m' L R key out back e cap' room =
    let q : ℕ = P.q in
    let f = uploadable P m L R key out e in
    let vec : Vector q L (signed_upload_of P L R key) = upload-vector q L (map (symbol_of q) R) key (positive f.shaped) in
    let own : Vector q L key = record { size = f.key-size; small = λ i l. below_at q key (positive f.shaped) f.key_below i } in
    let s' : Shape P m' L = record { bounds = f.shaped.bounds; prime = f.shaped.prime; cap = cap'; fits = f.shaped.fits } in
    let (told, written) = symbols-unmasked P m' L s' (signed_upload_of P L R key) key back vec own room in (
      told,
      written
          ∙ ap (map (shown_of q)) (unmask-upload q L (map (symbol_of q) R) key (symbols-vector q L R (positive f.shaped) f.size))
          ∙ shown-symbols q m R f.inside (reading-room f.shaped),
    )
