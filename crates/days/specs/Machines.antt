-- An observer's round as a machine that is called, and what is seen of a day of calls.
use Rattle.std.specs.Prelude.{ℕ, List, [], ◌∷◌, map}
use Rattle.refusals.specs.declared.Code.{Code}
use Rattle.rounds.specs.Ledger.{Frame, frame}

pub record Machine : Type 1 where
  pub State : Type 0
  -- before the first call
  pub start : State
  -- what it is called with; a frame is one such call
  pub Call : Type 0
  pub hears : Frame → Call
  -- the answer, and what the lent buffer holds after it, where one is lent; and the state after the call
  pub reply : State → Call → Code × List ℕ
  pub next : State → Call → State
  -- the call without a frame's symbols: who sends, and for which round, is left
  pub header : Call → Call

-- "one list of openings, frames, resent frames, moves on and sums asked for, fixed without the readings" is a list of such entries, the schedule. A frame is
-- named by its round k and its sender s: it carries what s sends in round k, so that the same entry once more is the frame "resent unchanged". Every other call
-- stands in the schedule as it is; it may also be a frame that is nobody's, with whatever symbols.
pub data Entry (Call : Type 0) : Type 0 where
  sends : (k s : ℕ) → Entry Call
  calls : Call → Entry Call

module _ (M : Machine) where
  -- the replies to calls, one after the other, and the state after them
  unfoldable pub replies : M.State → List M.Call → List (Code × List ℕ)
  replies S [] = []
  replies S (c ∷ made) = M.reply S c ∷ replies (M.next S c) made

  unfoldable pub state_after : M.State → List M.Call → M.State
  state_after S [] = S
  state_after S (c ∷ made) = state_after (M.next S c) made

  -- "the order of frames, sender and round numbers, resent frames and every refusal": the calls that were made, in their order, and what each was replied
  pub record Transcript : Type 0 where
    pub made : List M.Call
    pub told : List (Code × List ℕ)

  -- the same without the symbols
  pub record Outline : Type 0 where
    pub made : List M.Call
    pub answers : List Code

  abbrev pub outline_of : Transcript → Outline
  outline_of t = record { made = map M.header t.made; answers = map (λ x. x.0) t.told }

  -- the numbers of the rounds, and what sender s sends in round k
  module _ (number : ℕ → ℕ) (block : ℕ → ℕ → List ℕ) where
    abbrev pub call_of : Entry M.Call → M.Call
    call_of (sends k s) = M.hears (frame s (number k) (block k s))
    call_of (calls c) = c

    abbrev pub transcript : List (Entry M.Call) → Transcript
    transcript schedule = record { made = map call_of schedule; told = replies M.start (map call_of schedule) }
