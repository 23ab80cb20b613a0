-- Individual keys (document 01: dealt keys). "Dealing: the vet's, then 9, 4 for any block, 3."
use Rattle.std.specs.Prelude.{ℕ, ◌*◌, Bool, not, ◌&&◌, List, [], ◌∷◌, ◌++◌, length, ◌==◌}
use Rattle.refusals.specs.declared.Code.{Code}
use Rattle.refusals.specs.Codes.{code, first_of, if_accepted}
use Rattle.residues.specs.Primes.{all_below}
use Rattle.lists.specs.Lists.{tab, join_to}
use Rattle.secrecy.specs.Model.{key_so_far}
use Rattle.plans.specs.declared.Plan.{Plan}
use Rattle.plans.specs.Plans.{users_of, length_fits, table_checks}
use Rattle.vetting.specs.Pools.{pool_of}
use Rattle.vetting.specs.Vet.{vet_checks}

-- user by user, L symbols each: equation (22)'s sum of each position after all R products
unfoldable pub keys_of : Plan → List ℕ → ℕ → List ℕ → List ℕ
keys_of P K L N = join_to (users_of P) (λ i. tab L (λ p. key_so_far (pool_of P K) N i p P.rate))

-- the source key has L × R symbols, and the lent keys are U × V × L symbols
abbrev pub block_checks : Plan → ℕ → List ℕ → List ℕ → List (Bool × Code)
block_checks P L N out =
    (not (length_fits L), code 9)
    ∷ (not (length N == L * P.rate && length out == users_of P * L), code 4)
    ∷ (not (all_below P.q N), code 3)
    ∷ []

abbrev pub key_checks : Plan → List ℕ → ℕ → List ℕ → List ℕ → List (Bool × Code)
key_checks P K L N out = vet_checks P K ++ block_checks P L N out

abbrev pub key_code : Plan → List ℕ → ℕ → List ℕ → List ℕ → Code
key_code P K L N out = first_of (key_checks P K L N out)

-- what the lent keys hold after the call
abbrev pub keys_after : Plan → List ℕ → ℕ → List ℕ → List ℕ → List ℕ
keys_after P K L N out = if_accepted (key_code P K L N out) (keys_of P K L N) out

-- ---- the same keys of a plan that is not vetted here, since it was before, or since its keys are for trials alone: dealing's checks without 6 and 7

abbrev pub unvetted_checks : Plan → List ℕ → ℕ → List ℕ → List ℕ → List (Bool × Code)
unvetted_checks P K L N out = table_checks P K ++ block_checks P L N out

abbrev pub unvetted_code : Plan → List ℕ → ℕ → List ℕ → List ℕ → Code
unvetted_code P K L N out = first_of (unvetted_checks P K L N out)

abbrev pub unvetted_after : Plan → List ℕ → ℕ → List ℕ → List ℕ → List ℕ
unvetted_after P K L N out = if_accepted (unvetted_code P K L N out) (keys_of P K L N) out
