-- The server's round and a window from the numbers that a caller lends or hands over.
use Rattle.std.specs.Prelude.{ℕ, true, List, ℤ}
use Rattle.refusals.specs.declared.Code.{Code}
use Rattle.lists.specs.Lists.{at}
use Rattle.rounds.specs.declared.ServerRound.{ServerRound}
use Rattle.rounds.specs.Rounds.{server_round, open_code}
use Rattle.windows.specs.declared.Window.{Window}

-- U, V, q and L stand in one run; the round number, who has reported and the sums beside them
abbrev pub server_of : List ℕ → ℕ → ℕ → List ℕ → ServerRound
server_of counts number reported sums =
    server_round
    (record {
      clusters = at counts 0;
      size = at counts 1;
      q = at counts 2;
      length = at counts 3;
      number = number;
      reported = reported;
      sums = sums;
    })

abbrev pub server_open_code : List ℕ → Code
server_open_code counts = open_code (at counts 0) (at counts 1) (at counts 2) (at counts 3) true

-- a window's span, how many totals it holds, their sum, and its 96 places
abbrev pub window_from : ℕ → ℕ → ℤ → List ℤ → Window
window_from span held sum totals = record { span = span; held = held; totals = totals; sum = sum }
