-- A round has one save.
use Prim.Native.Nat.{ℕ}
use mathlib.Core.Path.{◌≡◌, refl, sym, ap, ◌∙◌}
use mathlib.Core.List.{List}
use lib.ListN.{take, drop}
use Rattle.refusals.specs.Codes.{accepted}
use Rattle.refusals.proofs.CodeLaws.{accepted-takes}
use Rattle.numerals.proofs.Bytes.{AreBytes}
use Rattle.checkpoints.specs.Checkpoints.{save_of, distance_at, start_at, last_byte, round_read, restore_code, restored}
use Rattle.checkpoints.proofs.RestoreChecks.{readable, found}
use Rattle.checkpoints.proofs.SaveLaws.{read-save}

-- what is restored, saved again, is the bytes that it was restored from
pub read_again : (B : List ℕ) → AreBytes B → (steps : ℕ) → accepted ≡ restore_code B steps
    → save_of (restored B steps) ≡ take (distance_at B (last_byte B steps)) (drop (start_at B (last_byte B steps)) B)
read_again B b steps e =
    let r = readable B steps e in
    let f = found B steps (last_byte B steps) r.way refl in
    ap save_of (accepted-takes (restore_code B steps) (round_read B steps) _ e) ∙ read-save B b (last_byte B steps) f.trailer f.within r.size

pub same-saves : (B C : List ℕ) → AreBytes B → AreBytes C → (steps others : ℕ) → accepted ≡ restore_code B steps → accepted ≡ restore_code C others
    → restored B steps ≡ restored C others
    → take (distance_at B (last_byte B steps)) (drop (start_at B (last_byte B steps)) B) ≡ take (distance_at C (last_byte C others)) (drop (start_at C (last_byte C others)) C)
same-saves B C b c steps others r q same = sym (read_again B b steps r) ∙ ap save_of same ∙ read_again C c others q
