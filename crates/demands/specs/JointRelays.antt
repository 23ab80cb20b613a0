-- Relays that share a cabinet (document 02, Q-9). The promise of `vet_joint` (vetting) is `joint_code` and `joint_looked`. Clusters count from 0 and relays from
-- 1, so that relays a and b are those of clusters a - 1 and b - 1; the papers' gang and watcher are coalition and observer.
use Rattle.std.specs.Prelude.{ℕ, ◌-◌, ◌^◌, ◌≤◌, ◌<◌, ◌≡◌, ◌↔◌, true, false, List, Option, None}
use Rattle.refusals.specs.Codes.{code, accepted, is_accepted, first_of}
use Rattle.lists.specs.Sums.{how_many}
use Rattle.secrecy.specs.Model.{in_coalition, in_either, set_view}
use Rattle.secrecy.specs.Leaks.{longest, keys_showing, Symbols, Agree, JointLeak}
use Rattle.plans.specs.declared.Plan.{Plan}
use Rattle.plans.specs.Plans.{users_of, table_checks}
use Rattle.vetting.specs.declared.RelayPair.{RelayPair}
use Rattle.vetting.specs.Pools.{pool_of}
use Rattle.vetting.specs.Vet.{other_checks, vet_code}
use Rattle.vetting.specs.Length.{pair_count, looked_at}
use Rattle.vetting.specs.Joint.{relay_pair, relays_fit, joint_code, joint_looked}

module _ (P : Plan) (K : List ℕ) where
  -- g is a coalition of at most T of the users
  pub record Few (g : ℕ) : Type 0 where
    pub users : g < 2 ^ users_of P
    pub few : how_many (users_of P) (in_coalition g) ≤ P.limit

  -- "The vet takes an optional pair of gateway numbers": without one it answers as before
  abbrev pub WithoutPair : Type 0
  WithoutPair = (joint_code P K None ≡ vet_code P K) × (joint_looked P K None ≡ looked_at P K)

  -- "It is judged after the whole walk and left out of Q-5's number": an accepted plan is one that the vet accepts alone, so that demand 3 is what it was; and
  -- its report is Q-5's number
  abbrev pub AcceptedAlone : Type 0
  AcceptedAlone =
      (J : Option RelayPair) → accepted ≡ joint_code P K J
      → (accepted ≡ vet_code P K) × (joint_looked P K J ≡ pair_count P.clusters P.size P.limit)

  -- 1, 4, 2 and 3 come before 8: a table that is refused by itself is answered so whatever pair is named, and nothing was looked at
  abbrev pub TableFirst : Type 0
  TableFirst =
      (J : Option RelayPair) → is_accepted (first_of (table_checks P K)) ≡ false → (joint_code P K J ≡ first_of (table_checks P K)) × (joint_looked P K J ≡ 0)

  module _ (a b : ℕ) where
    -- "A pair that is equal, reversed or outside the plan is 8, before 6.": whatever the columns' sums are; nothing was looked at then
    abbrev pub WrongPair : Type 0
    WrongPair =
        accepted ≡ first_of (table_checks P K) → relays_fit P a b ≡ false
        → (joint_code P K (relay_pair a b) ≡ code 8) × (joint_looked P K (relay_pair a b) ≡ 0)

    -- and 8 is given to no other
    abbrev pub OnlyWrongPair : Type 0
    OnlyWrongPair =
        ◌≡◌ {A = ℕ} (joint_code P K (relay_pair a b)).number 8 → (accepted ≡ first_of (table_checks P K)) × (relays_fit P a b ≡ false)

    -- a plan that the vet refuses is answered as without a pair that fits, and so is how many were looked at
    abbrev pub RefusedAlone : Type 0
    RefusedAlone =
        relays_fit P a b ≡ true → is_accepted (vet_code P K) ≡ false
        → (joint_code P K (relay_pair a b) ≡ vet_code P K) × (joint_looked P K (relay_pair a b) ≡ looked_at P K)

    -- "Demand 3, with 19 for 7, then covers that joint watcher too; its sets of readings agree on the gang's members alone.": where nothing is refused, equal
    -- numbers, for every coalition up to T, every block length and every view; the "joint sight is the uploads of both clusters with the gang's readings and
    -- keys"
    abbrev pub JointHides : Type 0
    JointHides =
        accepted ≡ joint_code P K (relay_pair a b) → (g : ℕ) → Few g → (L : ℕ) → 1 ≤ L → L ≤ longest
        → (W W' : List ℕ) → Symbols P.q (users_of P) L W → Symbols P.q (users_of P) L W' → Agree (pool_of P K) g L W W' → (s : List ℕ)
        → keys_showing P.q P.rate (set_view (pool_of P K) (in_either (pool_of P K) (a - 1) (b - 1)) g) L W s
        ≡ keys_showing P.q P.rate (set_view (pool_of P K) (in_either (pool_of P K) (a - 1) (b - 1)) g) L W' s

    -- accepted is exactly a plan that the vet accepts alone, with a pair that fits and leaks with no coalition
    abbrev pub AcceptedIff : Type 0
    AcceptedIff =
        (accepted ≡ joint_code P K (relay_pair a b))
        ↔ ((accepted ≡ vet_code P K) × (relays_fit P a b ≡ true) × ((g : ℕ) → Few g → ¬ (JointLeak (pool_of P K) (a - 1) (b - 1) g)))

    -- and refused with 19 exactly where, the other checks and 7 passed, some coalition leaks to it
    abbrev pub RefusedIffJointLeaks : Type 0
    RefusedIffJointLeaks =
        accepted ≡ vet_code P K → relays_fit P a b ≡ true
        → ◌≡◌ {A = ℕ} (joint_code P K (relay_pair a b)).number 19 ↔ ((g : ℕ) × Few g × JointLeak (pool_of P K) (a - 1) (b - 1) g)

    -- "19 when the pair leaks, after 7, naming the gang of least number, with 0 as second detail."; "so 19 reports 0"
    abbrev pub NamesLeast : Type 0
    NamesLeast =
        ◌≡◌ {A = ℕ} (joint_code P K (relay_pair a b)).number 19
        → (accepted ≡ vet_code P K)
        × (relays_fit P a b ≡ true)
        × (joint_looked P K (relay_pair a b) ≡ 0)
        × ((g : ℕ)
        × (joint_code P K (relay_pair a b) ≡ record { number = 19; first = g; second = 0 })
        × Few g
        × JointLeak (pool_of P K) (a - 1) (b - 1) g
        × ((h : ℕ) → h < g → Few h → ¬ (JointLeak (pool_of P K) (a - 1) (b - 1) h)))

  -- "With U 2 every pair leaks.": with no coalition at all, whatever 7 says; so every plan that the vet accepts is, with the pair 1 and 2, refused with 19 and
  -- coalition 0
  abbrev pub TwoRelaysSeeAll : Type 0
  TwoRelaysSeeAll = P.clusters ≡ 2 → accepted ≡ first_of (other_checks P K) → JointLeak (pool_of P K) 0 1 0

  abbrev pub TwoRelaysLeak : Type 0
  TwoRelaysLeak = P.clusters ≡ 2 → accepted ≡ vet_code P K → joint_code P K (relay_pair 1 2) ≡ record { number = 19; first = 0; second = 0 }
