-- Uploads, and taking a key off: block by block, L symbols each. Document 01, "Order": "Upload, and taking a key off: 2, 9, 4, 3."
use Rattle.std.specs.Prelude.{ℕ, Bool, not, ◌&&◌, List, [], ◌∷◌, eqb, length}
use Rattle.refusals.specs.declared.Code.{Code}
use Rattle.refusals.specs.Codes.{code, first_of, if_accepted}
use Rattle.residues.specs.Primes.{is_prime, all_below}
use Rattle.residues.specs.Field.{sum_of, difference_of}
use Rattle.lists.specs.Lists.{at, tab}
use Rattle.plans.specs.Plans.{length_fits}

-- upload = reading + key
abbrev pub upload_of : ℕ → ℕ → List ℕ → List ℕ → List ℕ
upload_of q L readings key = tab L (λ p. sum_of q (at readings p) (at key p))

-- reading = upload - key
abbrev pub unmasked_of : ℕ → ℕ → List ℕ → List ℕ → List ℕ
unmasked_of q L upload key = tab L (λ p. difference_of q (at upload p) (at key p))

-- of two blocks and a lent one
abbrev pub block_checks : ℕ → ℕ → List ℕ → List ℕ → List ℕ → List (Bool × Code)
block_checks q L a b out =
    (not (is_prime q), code 2)
    ∷ (not (length_fits L), code 9)
    ∷ (not (eqb (length a) L && eqb (length b) L && eqb (length out) L), code 4)
    ∷ (not (all_below q a && all_below q b), code 3)
    ∷ []

abbrev pub block_code : ℕ → ℕ → List ℕ → List ℕ → List ℕ → Code
block_code q L a b out = first_of (block_checks q L a b out)

-- what the lent block holds after an upload, and after a key was taken off
abbrev pub upload_after : ℕ → ℕ → List ℕ → List ℕ → List ℕ → List ℕ
upload_after q L readings key out = if_accepted (block_code q L readings key out) (upload_of q L readings key) out

abbrev pub unmask_after : ℕ → ℕ → List ℕ → List ℕ → List ℕ → List ℕ
unmask_after q L upload key out = if_accepted (block_code q L upload key out) (unmasked_of q L upload key) out
