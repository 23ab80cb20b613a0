-- Request Q-11 at the small pool: relay 1 of round 8, which one user has reported to and which holds a frame of round 9, saved after two bytes and restored.
use Prim.Native.Nat.{ℕ}
use mathlib.Core.Path.{◌≡◌, refl}
use mathlib.Core.List.{List, [], ◌∷◌}
use Rattle.refusals.specs.Codes.{code}
use Rattle.lists.specs.Search.{all_to}
use Rattle.lists.specs.Lists.{zeros}
use Rattle.residues.specs.Primes.{is_prime, all_below}
use Rattle.numerals.specs.Bytes.{bytes_of, bytes_of_all, number_at, numbers_at}
use Rattle.rounds.specs.declared.RelayRound.{RelayRound}
use Rattle.rounds.specs.Relays.{relay_round, held}
use Rattle.checkpoints.specs.Checkpoints.{save_of, end_back, bad_way, restore_code, restored}

-- user 2 has reported 1, and user 1, a round ahead, 4
abbrev relay : RelayRound
relay =
    relay_round 1 (record { clusters = 2; size = 2; q = 5; length = 1; number = 8; reported = 2; sums = 1 ∷ zeros 63 }) (held 1 (4 ∷ zeros 63))

abbrev save : List ℕ
save =
    2 ∷ 2 ∷ 1 ∷ 1
    ∷ 5 ∷ 0 ∷ 0 ∷ 0
    ∷ 8 ∷ 0 ∷ 0 ∷ 0
    ∷ 2 ∷ 0
    ∷ 1 ∷ 0
    ∷ 1 ∷ 0 ∷ 0 ∷ 0
    ∷ 4 ∷ 0 ∷ 0 ∷ 0
    ∷ 28 ∷ 0
    ∷ 0x4b ∷ 0x52
    ∷ []

pub saved : save_of relay ≡ save
unfolding save_of bytes_of bytes_of_all
saved = refl

-- what is found at the last step back, and one step further, with other bytes before the save
pub back : restored (7 ∷ 7 ∷ save) 0 ≡ relay
unfolding is_prime all_to all_below number_at numbers_at end_back bad_way
back = refl

pub beyond : restore_code (7 ∷ 7 ∷ save) 1 ≡ code 5
unfolding is_prime all_to all_below number_at numbers_at end_back bad_way
beyond = refl
