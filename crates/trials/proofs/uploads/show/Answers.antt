use mathlib.Core.Path.{refl, ap, ◌∙◌}
use mathlib.Core.List.{List, [], ◌∷◌}
use native.Mathlib.Omega.{arith}
use Rattle.std.specs.Prelude.{Ok}
use lib.IntN.{ℤ, pos}
use lib.ListN.{get_or}
use mir.Syntax.{w32}
use mir.Val.{to_z, of_z}
use mir.Facts.{to_z-of_z}
use Rattle.trials.proofs.MaskLaws.{one-shown, shown-fits}
use Rattle.trials.proofs.RelayLaws.{never-refused}
use Rattle.trials.proofs.uploads.show.Goals as goal

pub returns : goal.returns
returns c =
    let a = c.args in
    ap Ok
    (ap (λ (z : ℤ). to_z w32 (of_z w32 z))
    (ap (λ (l : List ℤ). get_or l 0 (pos 0)) c.show_totals.ensures.out
    ∙ (one-shown a.plan a.cap c.requires.0 a.total (pos 0 ∷ []) c.requires.1 refl).0)
    ∙ to_z-of_z (shown-fits a.plan.q a.total (omega arith) c.requires.1))

pub returns-in_err-show_totals : goal.returns-in_err-show_totals
returns-in_err-show_totals c =
    let a = c.args in
    absurd
    (never-refused c.in_err-show_totals.field-0.0 _ c.in_err-show_totals.ensures.code
    (one-shown a.plan a.cap c.requires.0 a.total (pos 0 ∷ []) c.requires.1 refl).1)
