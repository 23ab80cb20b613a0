use mathlib.Core.Path.{sym, ap, ◌∙◌}
use mathlib.Core.List.{[], ◌∷◌}
use Rattle.texts.specs.declared.Line.{Line}
use Rattle.texts.specs.Texts.{decimal, typed}
use Rattle.texts.proofs.LineLaws.{typed-append}
use Rattle.texts.proofs.Line.put_field.Goals as goal

pub returns : goal.returns
returns c =
    let a = c.args in
    c.put.ensures
    ∙ ap (λ (l : Line). typed l (a.end ∷ [])) c.put_decimal.ensures
    ∙ sym (typed-append a.self (decimal a.n) (a.end ∷ []))
