-- What the private functions of a trial compute. Nothing here has to be believed: proofs tie it to Trials.
use Rattle.std.specs.Prelude.{ℕ, zero, suc, ◌+◌, ◌/◌, ◌%◌, ◌≤◌, ◌<◌, ◌≡◌, Bool, true, false, cond, ◌||◌, List, [], ◌∷◌, T, eqb, length, take, drop}
use Rattle.refusals.specs.Codes.{accepted, first_of}
use Rattle.lists.specs.Lists.{at, All, tab}
use Rattle.lists.specs.Sums.{sum_to}
use Rattle.residues.specs.Primes.{is_prime, all_below}
use Rattle.plans.specs.declared.Plan.{Plan}
use Rattle.plans.specs.Plans.{users_of, in_bounds, table_checks}
use Rattle.signed.specs.Caps.{cap_fits}
use Rattle.rounds.specs.declared.RelayRound.{RelayRound}
use Rattle.rounds.specs.Ledger.{Frame, frame}
use Rattle.rounds.specs.Relays.{relay_next}
use Rattle.secrecy.specs.Model.{relay_sum}
use Rattle.vetting.specs.Pools.{pool_of}
use Rattle.signed.specs.Numbers.{shown_of}
use Rattle.trials.specs.declared.Settled.{Settled}
use Rattle.trials.specs.Generator.{stepped, value_of, value_at}
use Rattle.trials.specs.Trials.{without}

-- so many senders of those who are owing, from a state on
unfoldable pub senders_from : ℕ → ℕ → List ℕ → List ℕ
senders_from s zero owing = []
senders_from s (suc n) owing =
    at owing (value_of (stepped s) % length owing) ∷ senders_from (stepped s) n (without (value_of (stepped s) % length owing) owing)

-- so many values modulo a number, from a state on
abbrev pub drawn_of : ℕ → ℕ → ℕ → List ℕ
drawn_of modulus s n = tab n (λ k. value_at s k % modulus)

-- is i one of the list?
unfoldable pub among : ℕ → List ℕ → Bool
among i [] = false
among i (x ∷ l) = eqb x i || among i l

-- ---- a relay's round: the cluster's number from 1, the round's number and everyone's upload

module _ (P : Plan) (cluster number : ℕ) (uploads : List ℕ) where
  abbrev pub frame_of : ℕ → Frame
  frame_of i = frame (i % P.size + 1) number (take 1 (drop i uploads))

  -- after the upload of user i, which only its own relay hears, and after those of many
  abbrev pub heard_from : RelayRound → ℕ → RelayRound
  heard_from R i = cond (eqb (i / P.size + 1) cluster) (relay_next R (frame_of i)) R

  unfoldable pub run_from : RelayRound → List ℕ → RelayRound
  run_from R [] = R
  run_from R (i ∷ l) = run_from (heard_from R i) l

-- the relays' frames, from relay 1 on
abbrev pub relay_frames : ℕ → List ℕ → List Frame
relay_frames number sums = tab (length sums) (λ u. frame (suc u) number (take 1 (drop u sums)))

-- a good plan; everyone's upload, and an order in which everyone is
pub record Sent (P : Plan) (uploads order : List ℕ) : Type 0 where
  pub bounds : in_bounds P ≡ true
  pub prime : is_prime P.q ≡ true
  pub size : length uploads ≡ users_of P
  pub below : all_below P.q uploads ≡ true
  pub few : length order ≤ 16
  pub users : All (λ i. i < length uploads) order
  pub everyone : (i : ℕ) → i < users_of P → T (among i order)

-- a good plan, and every relay's sum
pub record Relayed (P : Plan) (sums : List ℕ) : Type 0 where
  pub bounds : in_bounds P ≡ true
  pub prime : is_prime P.q ≡ true
  pub size : length sums ≡ P.clusters
  pub below : all_below P.q sums ≡ true

-- a good plan with a cap that fits
pub record Fit (P : Plan) (m : ℕ) : Type 0 where
  pub bounds : in_bounds P ≡ true
  pub prime : is_prime P.q ≡ true
  pub cap : cap_fits P m ≡ true

-- these with a table, a source key and readings
pub record Maskable (P : Plan) (K : List ℕ) (m : ℕ) (N W : List ℕ) : Type 0 where
  pub fit : Fit P m
  pub table : accepted ≡ first_of (table_checks P K)
  pub source : length N ≡ P.rate
  pub symbols : all_below P.q N ≡ true
  pub readings : length W ≡ users_of P
  pub inside : (i : ℕ) → at W i ≤ m

-- these with an order in which everyone is
pub record Drawn (P : Plan) (K : List ℕ) (m : ℕ) (N W order : List ℕ) : Type 0 where
  pub maskable : Maskable P K m N W
  pub few : length order ≤ 16
  pub users : All (λ i. i < users_of P) order
  pub everyone : (i : ℕ) → i < users_of P → T (among i order)

-- relay 1's sum and the shown total, by document 000's equations
abbrev pub settled_of : Plan → List ℕ → List ℕ → List ℕ → Settled
settled_of P K N W =
    record {
      first = relay_sum (pool_of P K) 1 W N 0 0;
      shown = shown_of P.q (sum_to P.clusters (λ u. relay_sum (pool_of P K) 1 W N u 0) % P.q);
    }
