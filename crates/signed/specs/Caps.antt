-- The cap m of a plan: which caps fit, and which readings are inside one.
use Rattle.std.specs.Prelude.{ℕ, ◌*◌, Bool, true, not, ◌&&◌, List, [], ◌∷◌, leb, ltb, eqb, ℤ, nat_abs}
use Rattle.plans.specs.declared.Plan.{Plan}
use Rattle.plans.specs.Plans.{users_of}

-- "16 when m is 0 or 2 × U × V × m is not below q"
abbrev pub cap_fits : Plan → ℕ → Bool
cap_fits P m = not (eqb m 0) && ltb (2 * users_of P * m) P.q

-- "a reading is a signed number from −m to m": its distance from 0 is at most m
abbrev pub is_in_cap : ℕ → ℤ → Bool
is_in_cap m w = leb (nat_abs w) m

unfoldable pub all_in_cap : ℕ → List ℤ → Bool
all_in_cap m [] = true
all_in_cap m (w ∷ s) = is_in_cap m w && all_in_cap m s
