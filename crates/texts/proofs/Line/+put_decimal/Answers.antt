-- The measure is the number; its tenth is typed first.
use Prim.Native.Nat.{ℕ, ◌+◌, ◌/◌, ◌%◌}
use mathlib.Core.Path.{sym, ap, ◌∙◌}
use mathlib.Core.List.{List, [], ◌∷◌}
use native.Mathlib.Omega.{arith}
use Rattle.texts.specs.declared.Line.{Line}
use Rattle.texts.specs.Texts.{decimal, typed}
use Rattle.texts.proofs.LineLaws.{typed-append, one-digit, last-digit}
use Rattle.texts.proofs.Line.+put_decimal.Goals as goal

pub returns-then-n-lt10 : goal.returns-then-n-lt10
returns-then-n-lt10 t c =
    let a = c.args in
    c.put.ensures ∙ ap (typed a.self) (sym (one-digit a.n (omega (arith, c.if-n-lt10.true))))

pub returns-else-n-lt10 : goal.returns-else-n-lt10
returns-else-n-lt10 t c =
    let a = c.args in
    let last : List ℕ = (0x30 + a.n % 10) ∷ [] in
    c.put-else-n-lt10.ensures
    ∙ ap (λ (l : Line). typed l last) c.put_decimal.ensures
    ∙ sym (typed-append a.self (decimal (a.n / 10)) last)
    ∙ ap (typed a.self) (sym (last-digit a.n (omega arith) (omega (arith, c.if-n-lt10.false))))
