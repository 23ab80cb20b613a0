-- A buffer with its used bytes, and calls of `save` one after the other into it.
use Rattle.std.specs.Prelude.{ℕ, ◌≡◌, List, [], ◌∷◌, length, take}
use Rattle.refusals.specs.Codes.{accepted}
use Rattle.plans.specs.Plans.{max_length}
use Rattle.rounds.specs.declared.RelayRound.{RelayRound}
use Rattle.checkpoints.specs.Checkpoints.{save_code, bytes_after, used_after}

pub record Store : Type 0 where
  pub bytes : List ℕ
  pub used : ℕ

-- what a reader is given
abbrev pub used_bytes : Store → List ℕ
used_bytes S = take S.used S.bytes

abbrev pub store_after : RelayRound → Store → Store
store_after R S = record { bytes = bytes_after R S.bytes S.used; used = used_after R S.bytes S.used }

-- after the saves of these rounds, the last one first
unfoldable pub stored : Store → List RelayRound → Store
stored S [] = S
stored S (R ∷ earlier) = store_after R (stored S earlier)

-- none of them was refused
abbrev pub NoneRefused : Store → List RelayRound → Type 0
NoneRefused S [] = Unit {0}
NoneRefused S (R ∷ earlier) = (accepted ≡ save_code R (stored S earlier).bytes (stored S earlier).used) × NoneRefused S earlier

-- a round's two rows of sums have 64 places
abbrev pub RowsOf64 : RelayRound → Type 0
RowsOf64 R = (length R.round.sums ≡ max_length) × (length R.ahead.sums ≡ max_length)
