-- One round on paper: a plan P with key table K, a cap m, and the generator's state s. Blocks have one symbol. "In each round it draws the R key symbols, then
-- the readings in index order, then the senders"
use Rattle.std.specs.Prelude.{ℕ, zero, suc, ◌+◌, ◌-◌, ◌%◌, Bool, not, List, [], ◌∷◌, ◌++◌, ℤ, length, take, drop}
use Rattle.refusals.specs.declared.Code.{Code}
use Rattle.refusals.specs.Codes.{code}
use Rattle.lists.specs.Lists.{at, tab}
use Rattle.lists.specs.Sums.{sum_to}
use Rattle.secrecy.specs.Model.{relay_sum}
use Rattle.plans.specs.declared.Plan.{Plan}
use Rattle.plans.specs.Plans.{users_of, table_checks}
use Rattle.vetting.specs.Pools.{pool_of}
use Rattle.signed.specs.Numbers.{shown_of}
use Rattle.signed.specs.Caps.{cap_fits}
use Rattle.trials.specs.Generator.{stepped_by, value_at}

-- one entry left out
abbrev pub without : ℕ → List ℕ → List ℕ
without k l = take k l ++ drop (suc k) l

module _ (P : Plan) (K : List ℕ) (m s : ℕ) where
  -- "A key symbol is a value modulo q"
  abbrev pub source_key : List ℕ
  source_key = tab P.rate (λ j. value_at s j % P.q)

  -- "a reading a value modulo m + 1"
  abbrev pub readings : List ℕ
  readings = tab (users_of P) (λ i. value_at s (P.rate + i) % (m + 1))

  -- "the next sender a value modulo the number still owing, counted from 0 in index order"; "a sender is drawn even when one meter is left": the senders of so
  -- many who are owing, by the values from number k on
  unfoldable pub senders_of : ℕ → ℕ → List ℕ → List ℕ
  senders_of zero k owing = []
  senders_of (suc n) k owing =
      at owing (value_at s k % length owing) ∷ senders_of n (suc k) (without (value_at s k % length owing) owing)

  abbrev pub senders : List ℕ
  senders = senders_of (users_of P) (P.rate + users_of P) (tab (users_of P) (λ i. i))

  -- "last sender's index, gateway 1's sum, true sum (of the readings alone), shown total": relay 1's sum is document 000's (26), and the total is the sum of
  -- the relay sums
  abbrev pub last_sender : ℕ
  last_sender = at senders (users_of P - 1)

  abbrev pub first_sum : ℕ
  first_sum = relay_sum (pool_of P K) 1 readings source_key 0 0

  abbrev pub true_sum : ℕ
  true_sum = sum_to (users_of P) (at readings)

  abbrev pub shown_total : ℤ
  shown_total = shown_of P.q (sum_to P.clusters (λ u. relay_sum (pool_of P K) 1 readings source_key u 0) % P.q)

  -- the state after all that was drawn
  abbrev pub state_after : ℕ
  state_after = stepped_by (P.rate + users_of P + users_of P) s

-- what a round on paper asks of its plan and cap: a table of symbols, zero-sum or not, and room for the totals
abbrev pub trial_checks : Plan → List ℕ → ℕ → List (Bool × Code)
trial_checks P K m = table_checks P K ++ (not (cap_fits P m), code 16) ∷ []
