-- The two kinds of record: the statements of specs/WideRecords.
use Prim.Native.Nat.{ℕ, ◌+◌, ◌-◌, ◌*◌, ◌^◌, ◌<◌}
use mathlib.Core.Path.{◌≡◌, refl, sym, ap, ap₂, ◌∙◌, subst}
use mathlib.Core.Bool.{Bool, true, false, cond, not, ◌&&◌, and-false}
use mathlib.Core.Logic.{◌≢◌}
use mathlib.Core.List.{List, [], ◌∷◌}
use native.Mathlib.Decide.{ℕ_discrete, dec_lt}
use native.Mathlib.Omega.{arith}
use lib.Dec.{eqb}
use lib.ListN.{length}
use borrow.Author.Tests.{eq-eqb, ne_eqb}
use Rattle.refusals.specs.declared.Code.{Code}
use Rattle.refusals.specs.Codes.{code, accepted, first_of}
use Rattle.residues.specs.Primes.{is_prime, all_below}
use Rattle.residues.proofs.PrimeLaws.{prime-pos, true-prime, below_at}
use Rattle.lists.specs.Lists.{at}
use Rattle.lists.proofs.Searches.{true→T}
use Rattle.plans.specs.declared.Plan.{Plan}
use Rattle.plans.specs.Plans.{users_of, in_bounds}
use Rattle.records.specs.Records.{width_of, mark_of, size_with, width_in, record_with, record_of, distance, start, bad_trailer, plan_read, table_read, read_code}
use Rattle.records.proofs.RecordChecks.{readable, writable}
use Rattle.records.proofs.RecordLaws.{length-record, record-bytes, read-write}
use Rattle.numerals.proofs.Bytes.{number_small}
use Rattle.records.proofs.Trailers.{Trailer, trailer-of}
use Rattle.records.proofs.Widths.{width-old, width-wide, width_few, width-holds, old-small, wide-large, told-old, told-wide}
use Rattle.demands.specs.WideRecords.{WideRecord, OldRecord, DistanceIsLength, RecordIsBytes, ReadIsRecord, NearTrailer, SmallInWide}
use Rattle.demands.specs.WideRecords.{OnlySmallInWide, KindByPrime}

module _ (P : Plan) (K : List ℕ) where
  pub wide-record : WideRecord P K
  unfolding record_with
  wide-record large = ap (λ (w : ℕ). record_with w P K) (width-wide P.q large)

  pub old-record : OldRecord P K
  unfolding record_with
  old-record small = ap (λ (w : ℕ). record_with w P K) (width-old P.q small)

  -- of either width
  length-with : (w : ℕ) → width_of P.q ≡ w → length K ≡ users_of P * P.rate → length (record_of P K) ≡ size_with w P
  length-with w e sized =
      ap (λ (v : ℕ). length (record_with v P K)) e ∙ length-record w P K ∙ ap (λ (n : ℕ). 8 + w + w * n) sized

  pub distance-is-length : DistanceIsLength P K
  distance-is-length sized = (
    λ large. length-with 4 (width-wide P.q large) sized,
    λ small. length-with 2 (width-old P.q small) sized,
  )

  pub record-is-bytes : RecordIsBytes P K
  record-is-bytes out e q =
      let w = writable P K out e in
      let pos : 0 < P.q = prime-pos (true-prime P.q w.prime) in
      record-bytes (width_of P.q) P K (width_few P.q) w.bounds (width-holds P.q q)
      (λ i. omega (arith, below_at P.q K pos (true→T (all_below P.q K) w.below) i, width-holds P.q q))

module _ (B lent : List ℕ) where
  abbrev mark : ℕ
  mark = at B (length B - 1)

  -- the mark of a wide record is not that of an old one
  not-old : mark ≡ 0x51 → mark ≢ 0x50
  not-old e o = omega arith

  -- what no good trailer has is refused first
  refused : (Trailer B → ⊥) → read_code B lent ≡ code 5
  refused none = go (bad_trailer B) refl
    where
      go : (t : Bool) → bad_trailer B ≡ t → read_code B lent ≡ code 5
      go true e = rw e
      go false e = absurd (none (trailer-of B e))

  pub near-trailer : NearTrailer B lent
  near-trailer = (
    λ wide near. refused (λ t. omega (arith, t.least, told-wide B (not-old wide), near)),
    λ old near. refused (λ t. omega (arith, t.least, told-old B old, near)),
    λ old wide. refused (λ t. wide (t.last-mark ∙ ap mark_of (told-wide B old))),
  )

  pub small-in-wide : SmallInWide B lent
  small-in-wide good wide small bounds far whole =
      let four : width_in B ≡ 4 = told-wide B (not-old wide) in
      let other : width_in B ≢ width_of (plan_read B).q = λ e. omega (arith, e, four, width-old (plan_read B).q small) in
      simp (
        good,
        bounds,
        eq-eqb _ _ (far ∙ ap (λ (w : ℕ). size_with w (plan_read B)) (sym four)),
        eq-eqb _ _ whole,
        ne_eqb _ _ other,
        and-false,
      )

  pub kind-by-prime : KindByPrime B lent
  kind-by-prime e =
      let kind = (readable B lent e).kind in (
        λ wide. wide-large (plan_read B).q (sym kind ∙ told-wide B (not-old wide)),
        λ old. old-small (plan_read B).q (sym kind ∙ told-old B old),
      )

  pub read-is-record : ReadIsRecord B lent
  read-is-record bytes e = sym (read-write B lent bytes e)

  -- where q is a prime and has the record's width, 2 is not the answer
  abbrev answered : Bool → Code
  answered t =
      first_of ((bad_trailer B, code 5)
      ∷ (not (in_bounds (plan_read B)), code 1)
      ∷ (not (eqb (distance B) (size_with (width_in B) (plan_read B)) && eqb (length lent) 256), code 4)
      ∷ (not t, code 2)
      ∷ (not (all_below (plan_read B).q (table_read B)), code 3)
      ∷ [])

  other-number : (n : ℕ) → n ≢ 2 → code n ≡ code 2 → ⊥
  other-number n h e = h (ap (λ (c : Code). c.number) e)

  never-two : (a b c d : Bool) → cond a (code 5) (cond b (code 1) (cond c (code 4) (cond d (code 3) accepted))) ≡ code 2 → ⊥
  never-two true b c d e = other-number 5 (λ z. omega arith) e
  never-two false true c d e = other-number 1 (λ z. omega arith) e
  never-two false false true d e = other-number 4 (λ z. omega arith) e
  never-two false false false true e = other-number 3 (λ z. omega arith) e
  never-two false false false false e = other-number 0 (λ z. omega arith) e

  pub only-small-in-wide : OnlySmallInWide B lent
  only-small-in-wide bytes two prime = by-mark (ℕ_discrete mark 0x50)
    where
      other : width_in B ≢ width_of (plan_read B).q
      other e =
          let same : (is_prime (plan_read B).q && eqb (width_in B) (width_of (plan_read B).q)) ≡ true
          = ap₂ (λ (x y : Bool). x && y) prime (eq-eqb (width_in B) (width_of (plan_read B).q) e) in
          never-two (bad_trailer B) (not (in_bounds (plan_read B)))
          (not (eqb (distance B) (size_with (width_in B) (plan_read B)) && eqb (length lent) 256))
          (not (all_below (plan_read B).q (table_read B)))
          (sym (ap answered same) ∙ two)

      good : (t : Bool) → bad_trailer B ≡ t → bad_trailer B ≡ false
      good true e =
          let five : read_code B lent ≡ code 5 = rw e in
          absurd (other-number 5 (λ z. omega arith) (sym five ∙ two))
      good false e = e

      small : width_in B ≡ 4 → Dec ((plan_read B).q < 65536) → (plan_read B).q < 65536
      small four (yes l) = l
      small four (no n) = absurd (other (four ∙ sym (width-wide (plan_read B).q (omega (arith, n)))))

      by-mark : Dec (mark ≡ 0x50) → (mark ≡ 0x51) × ((plan_read B).q < 65536)
      by-mark (yes old) =
          let narrow : width_in B ≡ 2 = told-old B old in
          let fits : (plan_read B).q < 256 ^ 2 = subst (λ (w : ℕ). (plan_read B).q < 256 ^ w) narrow (number_small (width_in B) B (start B + 4) bytes) in
          absurd (other (narrow ∙ sym (width-old (plan_read B).q (omega arith))))
      by-mark (no n) =
          let four : width_in B ≡ 4 = told-wide B n in
          ((trailer-of B (good (bad_trailer B) refl)).last-mark ∙ ap mark_of four, small four (dec_lt (plan_read B).q 65536))
