-- Rounds: what a step answers and what it hands back, for every state that can be handed in, good or bad. A round is what it was when it was handed
-- in, and the ledger of the frames counted since; an opened round had nobody on its roll and sums of 0, so that it is its ledger alone.
-- A relay (document 01: gateway) hears the users of its cluster, the server (desk) the relays. This page has what the two share, and the server; Relays
-- has what a relay holds for the next round.
use Rattle.std.specs.Prelude.{ℕ, suc, ◌+◌, ◌-◌, ◌%◌, ◌^◌, Bool, true, cond, not, ◌&&◌, ◌||◌, List, [], ◌∷◌, ◌++◌, ltb, eqb, length, take, drop}
use Rattle.refusals.specs.declared.Code.{Code}
use Rattle.refusals.specs.Codes.{code, first_of, if_accepted}
use Rattle.lists.specs.Search.{all_to}
pub use Rattle.lists.specs.Search.{one_of}
use Rattle.lists.specs.Bits.{has_bit}
use Rattle.residues.specs.Primes.{is_prime, all_below}
use Rattle.lists.specs.Lists.{at, zeros, tab}
use Rattle.plans.specs.Plans.{counts_fit, length_fits, max_length}
use Rattle.rounds.specs.declared.Round.{Round}
use Rattle.rounds.specs.declared.ServerRound.{ServerRound}
use Rattle.rounds.specs.Ledger.{Frame, named, bits_of, counted_at}

-- ---- opening: "1, 2, 9, 8"; `known`: its cluster is one of the plan's, of a relay; a server has none

abbrev pub open_checks : ℕ → ℕ → ℕ → ℕ → Bool → List (Bool × Code)
open_checks clusters size q L known =
    (not (counts_fit clusters size 0), code 1)
    ∷ (not (is_prime q), code 2)
    ∷ (not (length_fits L), code 9)
    ∷ (not known, code 8)
    ∷ []

abbrev pub opened : ℕ → ℕ → ℕ → ℕ → ℕ → Round
opened clusters size q L number =
    record { clusters = clusters; size = size; q = q; length = L; number = number; reported = 0; sums = zeros max_length }

-- what stands for the round of a refused opening
abbrev pub no_round : Round
no_round = opened 0 0 0 0 0

abbrev pub open_code : ℕ → ℕ → ℕ → ℕ → Bool → Code
open_code clusters size q L known = first_of (open_checks clusters size q L known)

-- the round that is opened
abbrev pub open_round : ℕ → ℕ → ℕ → ℕ → Bool → ℕ → Round
open_round clusters size q L known number = if_accepted (open_code clusters size q L known) (opened clusters size q L number) no_round

-- ---- a round R and its ledger

-- has this sender reported?
abbrev pub has_reported : Round → List Frame → ℕ → Bool
has_reported R ledger sender = has_bit R.reported (sender - 1) || named ledger sender

-- what the round has become
abbrev pub after : Round → List Frame → Round
after R ledger =
    record {
      clusters = R.clusters;
      size = R.size;
      q = R.q;
      length = R.length;
      number = R.number;
      reported = R.reported + bits_of ledger;
      sums = tab max_length (λ p. cond (ltb p R.length) ((at R.sums p + counted_at ledger p) % R.q) 0);
    }

-- ---- a state that is handed in: "in the order 1, 2, 9, 8, 3; a roll bit that is no sender's is 8, a sum past position L other than 0 is 3"

abbrev pub sums_fit : ℕ → ℕ → List ℕ → Bool
sums_fit q L sums = all_below q (take L sums) && all_below 1 (drop L sums)

module _ (senders : ℕ) where
  -- who has reported, and the sums
  abbrev pub content_checks : Round → List (Bool × Code)
  content_checks R = (not (ltb R.reported (2 ^ senders)), code 8) ∷ (not (sums_fit R.q R.length R.sums), code 3) ∷ []

  -- what a frame is asked once the state is good; document 02, Q-3: "The order for a frame into a round becomes 8, 14, 4, 3, 11."
  abbrev pub own_checks : Round → List Frame → Frame → List (Bool × Code)
  own_checks R ledger f =
      (not (one_of senders f.sender), code 8)
      ∷ (not (eqb f.number R.number), code 14)
      ∷ (not (eqb (length f.block) R.length), code 4)
      ∷ (not (all_below R.q f.block), code 3)
      ∷ (has_reported R ledger f.sender, code 11)
      ∷ []

  -- has everyone reported?
  abbrev pub is_full : Round → List Frame → Bool
  is_full R ledger = all_to senders (λ i. has_reported R ledger (suc i))

  -- "Giving sums: 12, 4", for a lent buffer of so many symbols
  abbrev pub lent_checks : Round → List Frame → ℕ → List (Bool × Code)
  lent_checks R ledger room = (not (is_full R ledger), code 12) ∷ (not (eqb room R.length), code 4) ∷ []

module _ (senders : ℕ) (known : Bool) where
  abbrev pub state_checks : Round → List (Bool × Code)
  state_checks R = open_checks R.clusters R.size R.q R.length known ++ content_checks senders R

  abbrev pub frame_checks : Round → List Frame → Frame → List (Bool × Code)
  frame_checks R ledger f = state_checks R ++ own_checks senders R ledger f

  abbrev pub give_checks : Round → List Frame → List ℕ → List (Bool × Code)
  give_checks R ledger out = state_checks R ++ lent_checks senders R ledger (length out)

  -- ---- one step from a state that is handed in

  abbrev pub step_code : Round → Frame → Code
  step_code R f = first_of (frame_checks R [] f)

  abbrev pub stepped : Round → Frame → Round
  stepped R f = if_accepted (step_code R f) (after R (f ∷ [])) R

  abbrev pub give_code : Round → List ℕ → Code
  give_code R out = first_of (give_checks R [] out)

  -- what the lent buffer holds after the sums were asked for
  abbrev pub sums_after : Round → List ℕ → List ℕ
  sums_after R out = if_accepted (give_code R out) (take R.length R.sums) out

  -- the answers to a list of frames, and the round after them, step by step
  unfoldable pub answers_of : Round → List Frame → List Code
  answers_of R [] = []
  answers_of R (f ∷ frames) = step_code R f ∷ answers_of (stepped R f) frames

  unfoldable pub run_of : Round → List Frame → Round
  run_of R [] = R
  run_of R (f ∷ frames) = run_of (stepped R f) frames

  -- ---- the same by the ledger

  abbrev pub noted : Round → List Frame → Frame → List Frame
  noted R ledger f = if_accepted (first_of (frame_checks R ledger f)) (ledger ++ (f ∷ [])) ledger

  unfoldable pub ledger_answers : Round → List Frame → List Frame → List Code
  ledger_answers R ledger [] = []
  ledger_answers R ledger (f ∷ frames) = first_of (frame_checks R ledger f) ∷ ledger_answers R (noted R ledger f) frames

  unfoldable pub ledger_of : Round → List Frame → List Frame → List Frame
  ledger_of R ledger [] = ledger
  ledger_of R ledger (f ∷ frames) = ledger_of R (noted R ledger f) frames

  -- what is answered when the sums are wanted, and what the lent buffer holds then
  abbrev pub ledger_give_code : Round → List Frame → List ℕ → Code
  ledger_give_code R ledger out = first_of (give_checks R ledger out)

  abbrev pub ledger_sums : Round → List Frame → List ℕ → List ℕ
  ledger_sums R ledger out = if_accepted (ledger_give_code R ledger out) (take R.length (after R ledger).sums) out

-- ---- the server's round: it hears the U relays, and has no cluster

abbrev pub server_round : Round → ServerRound
server_round R = record { round = R }

abbrev pub server_code : ServerRound → Frame → Code
server_code R f = step_code R.round.clusters true R.round f

abbrev pub server_next : ServerRound → Frame → ServerRound
server_next R f = server_round (stepped R.round.clusters true R.round f)

unfoldable pub server_run : ServerRound → List Frame → ServerRound
server_run R [] = R
server_run R (f ∷ frames) = server_run (server_next R f) frames

unfoldable pub server_answers : ServerRound → List Frame → List Code
server_answers R [] = []
server_answers R (f ∷ frames) = server_code R f ∷ server_answers (server_next R f) frames

abbrev pub server_give_code : ServerRound → List ℕ → Code
server_give_code R out = give_code R.round.clusters true R.round out

abbrev pub server_sums : ServerRound → List ℕ → List ℕ
server_sums R out = sums_after R.round.clusters true R.round out
