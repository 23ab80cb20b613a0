use borrow.Author.Rules.{rules}
use mathlib.Core.Path.{ap, ◌∙◌}
use lib.IntN.{ℤ}
use mir.Syntax.{w32}
use mir.Val.{SFits}
use mir.Facts.{to_z-of_z}
use Rattle.texts.specs.Texts.{signed_decimal, typed}
use Rattle.simulation.proofs.TextLaws.{text-typed}
use Rattle.simulation.proofs.lines.write_line.Goals as goal

pub returns : goal.returns
returns c =
    let narrow : SFits w32 c.args.trial.shown = search rules in
    let t = c.args.trial in
    text-typed c.args.number t.last t.first t.sum t.shown _ _ _ _ _ _ _ c.new.ensures c.put_field.ensures
    c.put_field-2.ensures c.put_field-3.ensures c.put_field-4.ensures
    (c.put_signed.ensures ∙ ap (λ (z : ℤ). typed c.put_field-4.result (signed_decimal z)) (to_z-of_z narrow)) c.put.ensures
