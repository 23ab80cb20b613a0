-- The invariant: the columns passed sum to zero.
use mathlib.Core.Path.{◌≡◌}
use Prim.Native.Nat.{ℕ, ◌<◌}
use Rattle.vetting.specs.Pools.{pool_of}
use Rattle.secrecy.specs.Model.{column_sum}
use Rattle.vetting.proofs.checks.check_columns.Given as goal

abbrev pub invariant-loop-k : goal.invariant-loop-k
invariant-loop-k l = (j : ℕ) → j < l.k → column_sum (pool_of l.plan l.table) j ≡ 0
