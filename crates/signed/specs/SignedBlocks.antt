-- Signed uploads, taking a key off into signed readings, and totals shown: block by block, L numbers each. The plan and its cap m are handed over beside them.
-- "16 when m is 0 or 2 × U × V × m is not below q, after 2, with 1 before 2 in every signed call."
use Rattle.std.specs.Prelude.{ℕ, Bool, not, ◌&&◌, List, [], ◌∷◌, ◌++◌, map, eqb, length, ℤ}
use Rattle.refusals.specs.declared.Code.{Code}
use Rattle.refusals.specs.Codes.{code, first_of, if_accepted}
use Rattle.residues.specs.Primes.{all_below}
use Rattle.plans.specs.declared.Plan.{Plan}
use Rattle.plans.specs.Plans.{plan_checks, length_fits}
use Rattle.masking.specs.Blocks.{upload_of, unmasked_of}
use Rattle.signed.specs.Numbers.{travelling, shown_of}
use Rattle.signed.specs.Caps.{cap_fits, all_in_cap}

-- what is written, whatever the cap is: of an upload the readings as they travel, with the key added; of taking a key off the readings, shown
module _ (P : Plan) (L : ℕ) where
  abbrev pub signed_upload_of : List ℤ → List ℕ → List ℕ
  signed_upload_of readings key = upload_of P.q L (travelling P.q readings) key

  abbrev pub signed_unmasked_of : List ℕ → List ℕ → List ℤ
  signed_unmasked_of upload key = map (shown_of P.q) (unmasked_of P.q L upload key)

module _ (P : Plan) (m L : ℕ) where
  -- 1, 2, 16, 9
  abbrev pub cap_checks : List (Bool × Code)
  cap_checks = plan_checks P ++ (not (cap_fits P m), code 16) ∷ (not (length_fits L), code 9) ∷ []

  -- an upload: "15 when a reading is outside the cap, after 4 and before 3"
  abbrev pub signed_upload_checks : List ℤ → List ℕ → List ℕ → List (Bool × Code)
  signed_upload_checks readings key out =
      cap_checks
      ++ (not (eqb (length readings) L && eqb (length key) L && eqb (length out) L), code 4)
      ∷ (not (all_in_cap m readings), code 15)
      ∷ (not (all_below P.q key), code 3)
      ∷ []

  abbrev pub signed_upload_code : List ℤ → List ℕ → List ℕ → Code
  signed_upload_code readings key out = first_of (signed_upload_checks readings key out)

  abbrev pub signed_upload_after : List ℤ → List ℕ → List ℕ → List ℕ
  signed_upload_after readings key out = if_accepted (signed_upload_code readings key out) (signed_upload_of P L readings key) out

  -- taking a key off: "never gives 15"
  abbrev pub signed_unmask_checks : List ℕ → List ℕ → List ℤ → List (Bool × Code)
  signed_unmask_checks upload key out =
      cap_checks
      ++ (not (eqb (length upload) L && eqb (length key) L && eqb (length out) L), code 4)
      ∷ (not (all_below P.q upload && all_below P.q key), code 3)
      ∷ []

  abbrev pub signed_unmask_code : List ℕ → List ℕ → List ℤ → Code
  signed_unmask_code upload key out = first_of (signed_unmask_checks upload key out)

  abbrev pub signed_unmask_after : List ℕ → List ℕ → List ℤ → List ℤ
  signed_unmask_after upload key out = if_accepted (signed_unmask_code upload key out) (signed_unmasked_of P L upload key) out

  -- totals, shown
  abbrev pub totals_checks : List ℕ → List ℤ → List (Bool × Code)
  totals_checks totals out =
      cap_checks ++ (not (eqb (length totals) L && eqb (length out) L), code 4) ∷ (not (all_below P.q totals), code 3) ∷ []

  abbrev pub totals_code : List ℕ → List ℤ → Code
  totals_code totals out = first_of (totals_checks totals out)

  abbrev pub totals_after : List ℕ → List ℤ → List ℤ
  totals_after totals out = if_accepted (totals_code totals out) (map (shown_of P.q) totals) out
