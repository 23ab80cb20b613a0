-- Two relays under one lock (document 02, Q-9), of four clusters of one user each: what a pair of relays and one user more see still hides the rest.
use Prim.Native.Nat.{ℕ}
use mathlib.Core.Path.{◌≡◌, refl, sym, ◌∙◌}
use mathlib.Core.List.{List, [], ◌∷◌}
use Rattle.secrecy.specs.Model.{column_sum}
use Rattle.refusals.specs.Codes.{accepted, code}
use Rattle.lists.specs.Search.{all_to}
use Rattle.residues.specs.Primes.{is_prime, all_below}
use Rattle.matrices.specs.Tables.{pivot_of, crossed, cleared, each_row, eliminated_from, pivots_from}
use Rattle.lists.specs.Bits.{has_bit}
use Rattle.lists.specs.Lists.{tab, join_to, picked}
use Rattle.lists.specs.Sums.{sum_to, how_many}
use Rattle.plans.specs.Plans.{plan}
use Rattle.vetting.specs.Walk.{pairs_with, observers}
use Rattle.vetting.specs.Vet.{vet_code}
use Rattle.vetting.specs.Joint.{relay_pair, joint_code}
use Rattle.vetting.specs.Walking.{cluster_sum, base_table, members_from, reduced_by, dependent, outsider_mask, tested_mask, joint_mask, first_hit}
use Rattle.vetting.proofs.VetLaws.{walk_code, joint-found}
use Rattle.vetting.proofs.JointLaws.{joint-decides}
use Rattle.vetting.proofs.JointTheorems.{two-relays}
use Rattle.cases.proofs.SmallPool.{rows, accepts}

abbrev four : List ℕ
four = 1 ∷ 0 ∷ 0 ∷ 0 ∷ 1 ∷ 0 ∷ 0 ∷ 0 ∷ 1 ∷ 4 ∷ 4 ∷ 4 ∷ []

-- with T 1 the plan is accepted alone, and with relays 1 and 2, or 2 and 4, under one lock
four-accepts : vet_code (plan 4 1 1 3 5) four ≡ accepted
unfolding is_prime all_to all_below column_sum sum_to tab pairs_with observers picked join_to how_many has_bit first_hit dependent base_table cluster_sum members_from
    reduced_by outsider_mask tested_mask pivot_of crossed cleared each_row eliminated_from pivots_from
four-accepts = sym (walk_code (plan 4 1 1 3 5) four refl)

pub first_two : joint_code (plan 4 1 1 3 5) four (relay_pair 1 2) ≡ accepted
unfolding is_prime all_to all_below column_sum sum_to tab pairs_with observers picked join_to how_many has_bit first_hit dependent base_table cluster_sum members_from
    reduced_by outsider_mask tested_mask joint_mask pivot_of crossed cleared each_row eliminated_from pivots_from
first_two =
    sym (joint-found (plan 4 1 1 3 5) four refl 1 2 ∙ joint-decides (plan 4 1 1 3 5) four 1 2 (sym four-accepts) refl)

pub second-and-last : joint_code (plan 4 1 1 3 5) four (relay_pair 2 4) ≡ accepted
unfolding is_prime all_to all_below column_sum sum_to tab pairs_with observers picked join_to how_many has_bit first_hit dependent base_table cluster_sum members_from
    reduced_by outsider_mask tested_mask joint_mask pivot_of crossed cleared each_row eliminated_from pivots_from
second-and-last =
    sym (joint-found (plan 4 1 1 3 5) four refl 2 4 ∙ joint-decides (plan 4 1 1 3 5) four 2 4 (sym four-accepts) refl)

-- "A pair that is equal, reversed or outside the plan is 8, before 6."
pub reversed : joint_code (plan 4 1 1 3 5) four (relay_pair 2 1) ≡ code 8
unfolding is_prime all_to all_below
reversed = refl

-- "With U 2 every pair leaks.": the small pool
pub small-pool-leaks : joint_code (plan 2 2 1 3 5) rows (relay_pair 1 2) ≡ record { number = 19; first = 0; second = 0 }
small-pool-leaks = two-relays (plan 2 2 1 3 5) rows refl (sym accepts)
