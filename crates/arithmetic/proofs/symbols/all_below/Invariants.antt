use mathlib.Core.Bool.{◌&&◌}
use Rattle.std.proofs.Common.{◌≡◌, drop}
use Rattle.residues.specs.Primes.{all_below}
use Rattle.arithmetic.proofs.symbols.all_below.Given as goal

-- what was seen and the rest of the list decide what the whole list decides
abbrev pub invariant-loop-symbol : goal.invariant-loop-symbol
invariant-loop-symbol l = (l.below && all_below l.q (drop l.symbol-index l.symbols)) ≡ all_below l.q l.symbols
