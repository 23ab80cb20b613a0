-- The largest coalitions of a plan.
use Rattle.std.specs.Prelude.{ℕ, ◌^◌, ◌<◌, ◌≡◌}
use Rattle.lists.specs.Sums.{how_many}
use Rattle.secrecy.specs.Model.{in_coalition}
use Rattle.plans.specs.declared.Plan.{Plan}
use Rattle.plans.specs.Plans.{users_of}

-- g is a coalition of exactly T of the users
pub record Largest (P : Plan) (g : ℕ) : Type 0 where
  pub users : g < 2 ^ users_of P
  pub full : how_many (users_of P) (in_coalition g) ≡ P.limit
