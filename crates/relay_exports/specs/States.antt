-- A relay's round from the numbers that a caller lends or hands over.
use Rattle.std.specs.Prelude.{ℕ, List, [], ◌∷◌}
use Rattle.refusals.specs.declared.Code.{Code}
use Rattle.lists.specs.Lists.{at}
use Rattle.rounds.specs.declared.RelayRound.{RelayRound}
use Rattle.rounds.specs.Rounds.{open_code, one_of}
use Rattle.rounds.specs.Relays.{relay_round, held}

-- U, V, q, L and the cluster stand in one run; the round's number, both rolls and both rows of sums beside them
abbrev pub relay_of : List ℕ → ℕ → ℕ → List ℕ → ℕ → List ℕ → RelayRound
relay_of counts number reported sums ahead_reported ahead_sums =
    relay_round (at counts 4)
    (record {
      clusters = at counts 0;
      size = at counts 1;
      q = at counts 2;
      length = at counts 3;
      number = number;
      reported = reported;
      sums = sums;
    })
    (held ahead_reported ahead_sums)

-- the run of a round
abbrev pub counts_of : RelayRound → List ℕ
counts_of R = R.round.clusters ∷ R.round.size ∷ R.round.q ∷ R.round.length ∷ R.cluster ∷ []

abbrev pub relay_open_code : List ℕ → Code
relay_open_code counts = open_code (at counts 0) (at counts 1) (at counts 2) (at counts 3) (one_of (at counts 0) (at counts 4))
