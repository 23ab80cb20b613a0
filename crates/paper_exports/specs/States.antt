-- A run on paper from the numbers that a caller lends: the plan's five, its key table with 0 past it, and four of the run itself.
use Rattle.std.specs.Prelude.{ℕ, List, [], ◌∷◌}
use Rattle.lists.specs.Lists.{at}
use Rattle.boundary.specs.Counts.{plan_of}
use Rattle.simulation.specs.declared.Run.{Run}
use Rattle.simulation.specs.Steps.{run}

-- the cap, how many rounds there are, the next one's number, and the generator's state before it
abbrev pub run_of : List ℕ → List ℕ → List ℕ → Run
run_of plan table numbers = run (plan_of plan) table (at numbers 0) (at numbers 1) (at numbers 2) (at numbers 3)

-- the four of a run
abbrev pub numbers_of : Run → List ℕ
numbers_of R = R.cap ∷ R.rounds ∷ R.number ∷ R.state ∷ []
