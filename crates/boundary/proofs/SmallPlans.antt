-- The numbers of a plan within its bounds are small, so that they fit where symbols stand.
use Prim.Native.Nat.{◌<◌}
use native.Mathlib.Omega.{arith}
use Rattle.plans.specs.declared.Plan.{Plan}
use Rattle.plans.proofs.PlanBounds.{Bounds}

abbrev pub Small : Plan → Type 0
Small P = (P.clusters < 65536) × (P.size < 65536) × (P.limit < 65536) × (P.rate < 65536)

pub small : (P : Plan) → Bounds P → Small P
small P b = (
  omega (arith, b.counts.few-clusters),
  omega (arith, b.counts.few-size),
  omega (arith, b.counts.within, b.counts.few-users),
  omega (arith, b.few-symbols),
)
