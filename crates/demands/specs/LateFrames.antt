-- A frame of another round is called late, whatever its block (document 02, Q-3); to a relay, since Q-6, a frame of every round but r and r + 1, to which
-- `AsBefore` of NextRound carries this page over. The order itself is `own_checks` of rounds; here stands what the request changed and what it did not.
use Rattle.std.specs.Prelude.{ℕ, ◌≡◌, Bool, cond, not, ◌&&◌, ◌||◌, List, [], ◌∷◌, ◌++◌, eqb, length}
use Rattle.refusals.specs.declared.Code.{Code}
use Rattle.refusals.specs.Codes.{code, is_accepted, first_of}
use Rattle.residues.specs.Primes.{all_below}
use Rattle.rounds.specs.declared.Round.{Round}
use Rattle.rounds.specs.Ledger.{Frame}
use Rattle.rounds.specs.Rounds.{one_of, has_reported, state_checks, step_code}

-- a round of so many senders, whatever its state, and a frame
module _ (senders : ℕ) (known : Bool) (R : Round) (f : Frame) where
  -- the former order: "A frame into a round: 8, 4, 3, 14, 11."
  abbrev pub former_checks : List (Bool × Code)
  former_checks =
      (not (one_of senders f.sender), code 8)
      ∷ (not (eqb (length f.block) R.length), code 4)
      ∷ (not (all_below R.q f.block), code 3)
      ∷ (not (eqb f.number R.number), code 14)
      ∷ (has_reported R [] f.sender, code 11)
      ∷ []

  abbrev pub former_code : Code
  former_code = first_of (state_checks senders known R ++ former_checks)

  -- the state is good, so that the answer is the frame's; the frame names another round, and was answered 4 or 3
  abbrev pub called_late : Bool
  called_late =
      is_accepted (first_of (state_checks senders known R))
      && (not (eqb f.number R.number) && (eqb former_code.number 4 || eqb former_code.number 3))

  -- "Another round with a wrong length, formerly 4, or with a symbol too large, formerly 3, is now 14; no other answer changes."
  abbrev pub LateAnswers : Type 0
  LateAnswers = step_code senders known R f ≡ cond called_late (code 14) former_code
