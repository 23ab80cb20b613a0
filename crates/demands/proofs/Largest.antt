-- Which coalitions decide: the statement of specs/Largest.
use Prim.Native.Nat.{ℕ}
use mathlib.Core.List.{List}
use Rattle.plans.specs.declared.Plan.{Plan}
use Rattle.vetting.proofs.ByLargest.{accepted-by-largest}
use Rattle.demands.specs.Largest.{LargestDecide}

pub largest-decide : (P : Plan) (K : List ℕ) → LargestDecide P K
largest-decide = accepted-by-largest
