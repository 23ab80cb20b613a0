-- What the equations of source document 000 speak of, of a plan and its key table.
use Rattle.std.specs.Prelude.{ℕ, List}
use Rattle.secrecy.specs.Model.{Pool}
use Rattle.plans.specs.declared.Plan.{Plan}

-- the plan's clusters, sizes, rate, prime and key table
abbrev pub pool_of : Plan → List ℕ → Pool
pool_of P K = record { clusters = P.clusters; size = P.size; rate = P.rate; q = P.q; table = K }
