-- How large a plan within its bounds can be.
use Prim.Native.Nat.{◌*◌, ◌≤◌}
use mathlib.Core.Path.{◌≡◌}
use mathlib.Core.Bool.{true}
use native.Mathlib.Omega.{arith}
use Rattle.plans.specs.declared.Plan.{Plan}
use Rattle.plans.specs.Plans.{users_of, in_bounds}
use Rattle.plans.proofs.PlanBounds.{bounds-known, few-numbers}

pub record Bounded (P : Plan) : Type 0 where
  pub clusters : P.clusters ≤ 8
  pub size : P.size ≤ 8
  pub users : users_of P ≤ 16
  pub limit : P.limit ≤ 16
  pub rate : P.rate ≤ 16
  pub symbols : users_of P * P.rate ≤ 256

pub bounded : (P : Plan) → in_bounds P ≡ true → Bounded P
bounded P e =
    let b = bounds-known P e in
    record {
      clusters = b.counts.few-clusters;
      size = b.counts.few-size;
      users = b.counts.few-users;
      limit = omega (arith, b.counts.within, b.counts.few-users);
      rate = b.few-symbols;
      symbols = few-numbers b;
    }
