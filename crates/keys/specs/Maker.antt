-- The table maker (document 01, "Rules from source document 000"). "Maker: 1, 2, 3, 10, 4, 7 (the maker vets its own table)."
use Rattle.std.specs.Prelude.{ℕ, ◌+◌, ◌-◌, ◌*◌, ◌/◌, ◌%◌, min, max, Bool, cond, not, List, [], ◌∷◌, map, length, ◌==◌, nat_le, nat_lt}
use Rattle.refusals.specs.declared.Code.{Code}
use Rattle.refusals.specs.Codes.{code, first_of, if_accepted}
use Rattle.residues.specs.Primes.{is_prime}
use Rattle.residues.specs.Field.{power_of, opposite_of}
use Rattle.lists.specs.Lists.{tab}
use Rattle.lists.specs.Sums.{sum_to}
use Rattle.plans.specs.declared.Plan.{Plan}
use Rattle.plans.specs.Plans.{counts_fit, no_plan}
use Rattle.vetting.specs.Walk.{pairs}
use Rattle.vetting.specs.Vet.{leak_check}

-- R = max(V + T, min(U + T − 1, U × V − 1))
abbrev pub rate_of : ℕ → ℕ → ℕ → ℕ
rate_of u v t = max (v + t) (min (u + t - 1) (u * v - 1))

abbrev pub plan_of : ℕ → ℕ → ℕ → ℕ → Plan
plan_of u v t q = record { clusters = u; size = v; limit = t; rate = rate_of u v t; q = q }

-- symbol k of row i, from 0, of all rows but the last: 1 followed by zeros, then the powers of γ to the power i
unfoldable pub entry : ℕ → ℕ → ℕ → ℕ → ℕ
entry q γ i k = cond (i == 0) (cond (k == 0) 1 0) (power_of q (power_of q γ i) k)

-- the last row is minus the sum of the others
unfoldable pub last_entry : ℕ → ℕ → ℕ → ℕ → ℕ
last_entry q γ n k = opposite_of q (sum_to (n - 1) (λ i. entry q γ i k) % q)

-- row after row
unfoldable pub made_table : ℕ → ℕ → ℕ → ℕ → ℕ → List ℕ
made_table u v t q γ =
    let n : ℕ = u * v in
    let R : ℕ = rate_of u v t in
    tab (n * R) (λ x. cond (nat_lt (x / R) (n - 1)) (entry q γ (x / R) (x % R)) (last_entry q γ n (x % R)))

abbrev pub maker_checks : ℕ → ℕ → ℕ → ℕ → ℕ → List ℕ → List (Bool × Code)
maker_checks u v t q γ out =
    (not (counts_fit u v t), code 1)
    ∷ (not (is_prime q), code 2)
    ∷ (not (nat_lt γ q), code 3)
    ∷ (nat_le ((u - 1) * v) t, code 10)
    ∷ (not (length out == u * v * rate_of u v t), code 4)
    ∷ map (leak_check (plan_of u v t q) (made_table u v t q γ)) (pairs u v t)

abbrev pub maker_code : ℕ → ℕ → ℕ → ℕ → ℕ → List ℕ → Code
maker_code u v t q γ out = first_of (maker_checks u v t q γ out)

-- the plan that is answered, and what the lent table holds after the call
abbrev pub maker_plan : ℕ → ℕ → ℕ → ℕ → ℕ → List ℕ → Plan
maker_plan u v t q γ out = if_accepted (maker_code u v t q γ out) (plan_of u v t q) no_plan

abbrev pub maker_table : ℕ → ℕ → ℕ → ℕ → ℕ → List ℕ → List ℕ
maker_table u v t q γ out = if_accepted (maker_code u v t q γ out) (made_table u v t q γ) out

-- ---- the rate that the maker will need, from U, V and T alone: refused where they are, whatever q, γ and the lent table

abbrev pub rate_checks : ℕ → ℕ → ℕ → List (Bool × Code)
rate_checks u v t = (not (counts_fit u v t), code 1) ∷ (nat_le ((u - 1) * v) t, code 10) ∷ []
