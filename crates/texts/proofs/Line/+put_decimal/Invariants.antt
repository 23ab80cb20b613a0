-- The measure is the number; its tenth is typed first.
use Rattle.texts.proofs.Line.+put_decimal.Given as goal

abbrev pub decreases-put_decimal : goal.decreases-put_decimal
decreases-put_decimal l = l.n
