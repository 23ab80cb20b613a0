-- Q-11: each statement.
use Prim.Native.Nat.{ℕ, ◌+◌}
use mathlib.Core.Path.{◌≡◌, refl, sym, ap, ◌∙◌}
use mathlib.Core.Bool.{Bool, true}
use mathlib.Core.List.{List, [], ◌∷◌, ◌++◌}
use lib.ListN.{length, take, drop}
use Rattle.refusals.specs.declared.Code.{Code}
use Rattle.refusals.specs.Codes.{code}
use Rattle.rounds.specs.declared.RelayRound.{RelayRound}
use Rattle.rounds.specs.Relays.{Event, relay_run}
use Rattle.checkpoints.specs.Checkpoints.{save_of, save_size, save_checks, bad_trailer_at, end_back, restore_code, restored}
use Rattle.checkpoints.specs.Stores.{Store, used_bytes, stored}
use Rattle.checkpoints.specs.Replays.{changes_of}
use Rattle.checkpoints.proofs.Chains.{save-found, untouched, chain-restored, chain-refused}
use Rattle.checkpoints.proofs.OneSaves.{read_again, same-saves}
use Rattle.checkpoints.proofs.SaveLaws.{save-length}
use Rattle.checkpoints.proofs.SaveRows.{fitting, save-bytes}
use Rattle.checkpoints.proofs.StateLaws.{passed}
use Rattle.checkpoints.proofs.Replays.{changes-lead, same-changes, run_on}
use Rattle.checkpoints.proofs.Refused.{no_room, first-wrong, last-wrong, too-near, too_far, bad-somewhere, somewhere-bad, way-five, five-way, other-distance}
use Rattle.demands.proofs.Refusals.{refused-leaves}
use Rattle.demands.specs.SavedRounds.{SaveSize, SavedIsRestored, RefusedSave, RestUntouched, StepsBack, OneSave, SaveIsBytes, ComesBack}
use Rattle.demands.specs.SavedRounds.{BadOnTheWay, OnlyBadOnTheWay, OtherDistance}

pub save-size : SaveSize
save-size R rows ok = save-length [] R [] rows.0 rows.1 (passed R ok)

pub saved-is-restored : SavedIsRestored
saved-is-restored R rows ok S room = save-found R rows ok S room

pub refused-save : RefusedSave
refused-save R S n =
    let B : List ℕ = S.bytes in
    let u : ℕ = S.used in
    let D : ℕ = save_size R.round.length in
    let checks : List (Bool × Code) = save_checks R B u in
    λ i. record { bytes = refused-leaves checks tt n (take u B ++ save_of R ++ drop (u + D) B) B i; used = refused-leaves checks tt n (u + D) u i }

pub rest-untouched : RestUntouched
rest-untouched R rows S = untouched R rows S

pub steps_back : StepsBack
steps_back S Rs rows ok =
    (λ later R earlier e. chain-restored S Rs rows ok later R earlier e, λ none steps h. chain-refused S Rs rows ok none steps h)

pub one-save : OneSave
one-save B b steps r = (read_again B b steps r, λ C c others q same. same-saves B C b c steps others r q same)

pub save-is-bytes : SaveIsBytes
save-is-bytes R ok q n a b = save-bytes R (fitting R (passed R ok) q n a b)

pub comes_back : (O : RelayRound) (before since : List Event) (S : Store) (later earlier : List RelayRound) → ComesBack O before since S later earlier
comes_back O before since S later earlier rows ok =
    let kept : RelayRound = relay_run O before in
    let same = (chain-restored S (later ++ (kept ∷ earlier)) rows ok later kept earlier refl).1 in
    let ends : (repeated : List Event) → relay_run kept repeated ≡ relay_run kept since
    → relay_run (restored (used_bytes (stored S (later ++ (kept ∷ earlier)))) (length later)) repeated ≡ relay_run O (before ++ since) = λ repeated r.
    ap (λ (X : RelayRound). relay_run X repeated) same ∙ r ∙ sym (run_on O before since) in
    (ends (changes_of kept since) (changes-lead kept since), ends since refl, λ repeated e. ends repeated (same-changes kept repeated since e))

module _ (B : List ℕ) (steps : ℕ) where
  pub bad-on-the-way : BadOnTheWay B steps
  bad-on-the-way n few =
      let five : bad_trailer_at B (end_back B n (length B)) ≡ true → restore_code B steps ≡ code 5 = λ bad.
      way-five B steps (bad-somewhere B steps n (length B) few bad) in
      (λ h. five (no_room B _ h), λ h. five (first-wrong B _ h), λ h. five (last-wrong B _ h), λ h. five (too-near B _ h), λ h. five (too_far B _ h))

  pub only-bad-on-the-way : OnlyBadOnTheWay B steps
  only-bad-on-the-way e = somewhere-bad B steps (length B) (five-way B steps e)

  pub distance-told : OtherDistance B steps
  distance-told w f l n = other-distance B steps w f l n
