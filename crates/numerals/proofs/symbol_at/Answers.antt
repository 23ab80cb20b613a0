use mathlib.Core.Path.{sym, ◌∙◌}
use Rattle.numerals.proofs.Bytes.{numbers-at, no_number}
use Rattle.numerals.proofs.Rows.{number_is}
use Rattle.numerals.proofs.symbol_at.Goals as goal

pub returns-then-k-count : goal.returns-then-k-count
returns-then-k-count c =
    number_is _ _ _ _ c.requires.0 c.number_at.ensures ∙ sym (numbers-at _ _ _ _ _ c.if-k-count.true)

pub returns-else-k-count : goal.returns-else-k-count
returns-else-k-count c = sym (no_number _ _ _ _ _ c.if-k-count.false)
