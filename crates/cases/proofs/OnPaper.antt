-- Request Q-8: a pool on paper.
use Prim.Native.Nat.{ℕ}
use mathlib.Core.Path.{◌≡◌, refl}
use mathlib.Core.List.{List, [], ◌∷◌}
use Rattle.lists.specs.Lists.{tab}
use Rattle.lists.specs.Sums.{sum_to}
use Rattle.secrecy.specs.Model.{reading, key, upload, relay_sum}
use Rattle.plans.specs.declared.Plan.{Plan}
use Rattle.plans.specs.Plans.{plan}
use Rattle.texts.specs.Texts.{digits_of}
use Rattle.trials.specs.Generator.{stepped_by, value_at}
use Rattle.trials.specs.Trials.{source_key, readings, senders, senders_of, state_after}
use Rattle.simulation.specs.Runs.{trial_line}
use Rattle.demands.proofs.OnPaper as on-paper

-- "It starts from s = 1 (first value 16,838)"
pub first-value : ◌≡◌ {A = ℕ} (value_at 1 0) 16838
first-value = on-paper.first-value

-- the small pool with a prime that leaves room for a cap, as the maker makes it with γ 3
abbrev pool : Plan
pool = plan 2 2 1 3 31

abbrev rows : List ℕ
rows = 1 ∷ 0 ∷ 0 ∷ 1 ∷ 3 ∷ 9 ∷ 1 ∷ 9 ∷ 19 ∷ 28 ∷ 19 ∷ 3 ∷ []

-- with the cap 3, what its first round draws
pub first_key : source_key pool rows 3 1 ≡ 5 ∷ 23 ∷ 7 ∷ []
unfolding tab stepped_by
first_key = refl

pub first-readings : readings pool rows 3 1 ≡ 3 ∷ 3 ∷ 3 ∷ 2 ∷ []
unfolding tab stepped_by
first-readings = refl

pub first-senders : senders pool rows 3 1 ≡ 3 ∷ 0 ∷ 1 ∷ 2 ∷ []
unfolding tab stepped_by senders_of
first-senders = refl

-- and the first two lines: 1 2 24 11 11, and 2 3 6 8 8
pub first-line : trial_line pool rows 3 1 1 ≡ 49 ∷ 32 ∷ 50 ∷ 32 ∷ 50 ∷ 52 ∷ 32 ∷ 49 ∷ 49 ∷ 32 ∷ 49 ∷ 49 ∷ 10 ∷ []
unfolding tab stepped_by senders_of digits_of sum_to reading key upload relay_sum
first-line = refl

pub second-line : trial_line pool rows 3 2 (state_after pool rows 3 1) ≡ 50 ∷ 32 ∷ 51 ∷ 32 ∷ 54 ∷ 32 ∷ 56 ∷ 32 ∷ 56 ∷ 10 ∷ []
unfolding tab stepped_by senders_of digits_of sum_to reading key upload relay_sum
second-line = refl
