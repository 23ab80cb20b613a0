use mathlib.Core.Path.{ap, ◌∙◌}
use mathlib.Core.List.{[]}
use Prim.Native.Nat.{ℕ}
use native.Mathlib.Omega.{arith}
use Rattle.texts.specs.Texts.{field}
use Rattle.texts.proofs.LineLaws.{field-length, typed-on}
use Rattle.simulation.specs.Steps.{refused_line}
use Rattle.simulation.proofs.lines.refused_line.Goals as goal

pub returns : goal.returns
returns c =
    let n : ℕ = c.code_of_result-code.result.number in
    typed-on [] (field n 0x0a) _ _ (omega (arith, field-length n 0x0a)) c.new.ensures c.put_field.ensures
    ∙ ap refused_line c.code_of_result-code.ensures
