-- Two relays under one lock (document 02, Q-9): the vet with an optional pair of relays, whose joint observer is judged after the whole walk. A relay's number
-- counts from 1, its cluster's from 0.
use Rattle.std.specs.Prelude.{ℕ, ◌-◌, ◌^◌, Bool, cond, not, ◌&&◌, List, [], ◌∷◌, ◌++◌, map, leb, ltb, eqb, Option, Some, None}
use Rattle.refusals.specs.declared.Code.{Code}
use Rattle.refusals.specs.Codes.{code, first_of, if_accepted}
use Rattle.lists.specs.Lists.{picked}
use Rattle.lists.specs.Sums.{how_many}
use Rattle.secrecy.specs.Model.{in_coalition}
use Rattle.secrecy.specs.Leaks.{leaks, joint_leaks}
use Rattle.plans.specs.declared.Plan.{Plan}
use Rattle.plans.specs.Plans.{users_of, table_checks}
use Rattle.vetting.specs.declared.RelayPair.{RelayPair}
use Rattle.vetting.specs.Pools.{pool_of}
use Rattle.vetting.specs.Walk.{pairs}
use Rattle.vetting.specs.Vet.{column_checks, leak_check}
use Rattle.vetting.specs.Length.{place_in}

-- every coalition of at most `limit` out of n users, in rising number
unfoldable pub coalitions : ℕ → ℕ → List ℕ
coalitions n limit = picked (2 ^ n) (λ g. leb (how_many n (in_coalition g)) limit) (λ g. g ∷ [])

abbrev pub relay_pair : ℕ → ℕ → Option RelayPair
relay_pair a b = Some (record { first = a; second = b })

-- a pair of relay numbers, "the lower first"; "A pair that is equal, reversed or outside the plan is 8, before 6."
abbrev pub relays_fit : Plan → ℕ → ℕ → Bool
relays_fit P a b = leb 1 a && ltb a b && leb b P.clusters

abbrev pub relay_checks : Plan → Option RelayPair → List (Bool × Code)
relay_checks P None = []
relay_checks P (Some r) = (not (relays_fit P r.first r.second), code 8) ∷ []

-- "19 when the pair leaks, after 7, naming the gang of least number, with 0 as second detail."
abbrev pub joint_check : Plan → List ℕ → ℕ → ℕ → ℕ → Bool × Code
joint_check P K a b g = (joint_leaks (pool_of P K) (a - 1) (b - 1) g, record { number = 19; first = g; second = 0 })

abbrev pub joint_checks : Plan → List ℕ → Option RelayPair → List (Bool × Code)
joint_checks P K None = []
joint_checks P K (Some r) = map (joint_check P K r.first r.second) (coalitions (users_of P) P.limit)

-- 1, 4, 2, 3, 8, 6; and then 7 and 19
abbrev pub checks_before : Plan → List ℕ → Option RelayPair → List (Bool × Code)
checks_before P K J = table_checks P K ++ (relay_checks P J ++ column_checks P K)

abbrev pub joint_vet_checks : Plan → List ℕ → Option RelayPair → List (Bool × Code)
joint_vet_checks P K J = checks_before P K J ++ (map (leak_check P K) (pairs P.clusters P.size P.limit) ++ joint_checks P K J)

abbrev pub joint_code : Plan → List ℕ → Option RelayPair → Code
joint_code P K J = first_of (joint_vet_checks P K J)

-- how many pairs were looked at: the joint observer is none of them, "so 19 reports 0"
abbrev pub joint_looked : Plan → List ℕ → Option RelayPair → ℕ
joint_looked P K J =
    cond (eqb (joint_code P K J).number 19) 0
    (if_accepted (first_of (checks_before P K J))
    (place_in (λ p. leaks (pool_of P K) p.coalition p.observer) (pairs P.clusters P.size P.limit)) 0)
