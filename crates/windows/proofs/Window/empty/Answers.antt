use mathlib.Core.Path.{ap, ◌∙◌}
use mathlib.Core.List.{List}
use lib.IntN.{ℤ, pos}
use Rattle.windows.proofs.WindowLaws.{window-none}
use Rattle.windows.proofs.Window.empty.Goals as goal

pub returns : goal.returns
returns c =
    let n = c.args.span in
    ap (λ (l : List ℤ). record { span = n; held = 0; totals = l; sum = pos 0 }) c.no_totals.ensures ∙ window-none n
