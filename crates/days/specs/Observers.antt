-- The rounds of a relay and of the server as machines, by the definitions that the promises of `open`, `count`, `advance` and `give` name (rounds). The plan's
-- counts are handed to every opening.
use Rattle.std.specs.Prelude.{ℕ, zero, suc, true, List, []}
use Rattle.refusals.specs.declared.Code.{Code}
use Rattle.secrecy.specs.Model.{Pool}
use Rattle.rounds.specs.declared.RelayRound.{RelayRound}
use Rattle.rounds.specs.declared.ServerRound.{ServerRound}
use Rattle.rounds.specs.Ledger.{Frame, frame}
use Rattle.rounds.specs.Rounds.{one_of, open_code, open_round, no_round, server_round, server_code, server_next, server_give_code, server_sums}
use Rattle.rounds.specs.Relays.{Event, heard, moves, asks, told, next_of, relay_round, nothing, relay_opened}
use Rattle.days.specs.Machines.{Machine}

-- a relay is opened, in a round of this number and block length, or one of the events of its round comes: a frame, a moving on, the sums asked for
pub data RelayCall : Type 0 where
  opens : (number L : ℕ) → RelayCall
  event : Event → RelayCall

-- the server is opened, counts a frame, or gives its sums into a lent buffer; it doesn't move on
pub data ServerCall : Type 0 where
  begins : (number L : ℕ) → ServerCall
  counts : Frame → ServerCall
  gives : List ℕ → ServerCall

-- a frame without its symbols
abbrev pub unread : Frame → Frame
unread f = frame f.sender f.number []

abbrev pub relay_header : RelayCall → RelayCall
relay_header (opens number L) = opens number L
relay_header (event (heard f)) = event (heard (unread f))
relay_header (event moves) = event moves
relay_header (event (asks out)) = event (asks out)

abbrev pub server_header : ServerCall → ServerCall
server_header (begins number L) = begins number L
server_header (counts f) = counts (unread f)
server_header (gives out) = gives out

module _ (P : Pool) where
  -- relay u, from 1
  abbrev pub relay_reply : ℕ → RelayRound → RelayCall → Code × List ℕ
  relay_reply u R (opens number L) = (open_code P.clusters P.size P.q L (one_of P.clusters u), [])
  relay_reply u R (event e) = told R e

  abbrev pub relay_after : ℕ → RelayRound → RelayCall → RelayRound
  relay_after u R (opens number L) = relay_opened P.clusters P.size P.q L u number
  relay_after u R (event e) = next_of R e

  -- before the first opening it holds what stands for the round of a refused one
  abbrev pub relay_machine : ℕ → Machine
  relay_machine u =
      record {
        State = RelayRound;
        start = relay_round 0 no_round nothing;
        Call = RelayCall;
        hears = λ f. event (heard f);
        reply = relay_reply u;
        next = relay_after u;
        header = relay_header;
      }

  -- the server
  abbrev pub server_reply : ServerRound → ServerCall → Code × List ℕ
  server_reply R (begins number L) = (open_code P.clusters P.size P.q L true, [])
  server_reply R (counts f) = (server_code R f, [])
  server_reply R (gives out) = (server_give_code R out, server_sums R out)

  abbrev pub server_after : ServerRound → ServerCall → ServerRound
  server_after R (begins number L) = server_round (open_round P.clusters P.size P.q L true number)
  server_after R (counts f) = server_next R f
  server_after R (gives out) = R

  abbrev pub server_machine : Machine
  server_machine =
      record {
        State = ServerRound;
        start = server_round no_round;
        Call = ServerCall;
        hears = counts;
        reply = server_reply;
        next = server_after;
        header = server_header;
      }

  -- the machine of observer w
  abbrev pub machine_of : ℕ → Machine
  machine_of zero = server_machine
  machine_of (suc u) = relay_machine (suc u)
