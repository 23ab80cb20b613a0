use mathlib.Core.Path.{refl, ap, ◌∙◌}
use mathlib.Core.List.{List, [], ◌∷◌}
use Prim.Native.Nat.{ℕ}
use native.Mathlib.Omega.{arith}
use Rattle.std.specs.Prelude.{Ok}
use lib.IntN.{ℤ, pos}
use mir.Syntax.{w32}
use mir.Val.{SFits}
use mir.Facts.{to_z-of_z}
use Rattle.lists.specs.Lists.{at}
use Rattle.signed.specs.SignedBlocks.{signed_upload_code, signed_upload_after}
use Rattle.trials.proofs.MaskLaws.{cap-room, one-upload}
use Rattle.trials.proofs.RelayLaws.{never-refused}
use Rattle.trials.proofs.uploads.upload.Goals as goal

pub overflow_cast-readings : goal.overflow_cast-readings
overflow_cast-readings c =
    let fits : SFits w32 (pos c.args.reading) = record { sfits = omega (arith, c.requires.1, cap-room c.args.plan c.args.cap c.requires.0) } in
    fits

pub returns : goal.returns
returns c =
    let fits : SFits w32 (pos c.args.reading) = record { sfits = omega (arith, c.requires.1, cap-room c.args.plan c.args.cap c.requires.0) } in
    let a = c.args in
    ap Ok
    (ap (λ (l : List ℕ). at l 0) c.signed_upload.ensures.out
    ∙ ap (λ (z : ℤ). at (signed_upload_after a.plan a.cap 1 (z ∷ []) a.key.now (0 ∷ [])) 0) (to_z-of_z fits)
    ∙ (one-upload a.plan a.cap c.requires.0 a.reading a.key.now (0 ∷ []) c.requires.1 c.requires.2 c.requires.3 refl).0)

pub returns-in_err-signed_upload : goal.returns-in_err-signed_upload
returns-in_err-signed_upload c =
    let fits : SFits w32 (pos c.args.reading) = record { sfits = omega (arith, c.requires.1, cap-room c.args.plan c.args.cap c.requires.0) } in
    let a = c.args in
    absurd
    (never-refused c.in_err-signed_upload.field-0.0 _
    (c.in_err-signed_upload.ensures.code ∙ ap (λ (z : ℤ). signed_upload_code a.plan a.cap 1 (z ∷ []) a.key.now (0 ∷ [])) (to_z-of_z fits))
    (one-upload a.plan a.cap c.requires.0 a.reading a.key.now (0 ∷ []) c.requires.1 c.requires.2 c.requires.3 refl).1)
