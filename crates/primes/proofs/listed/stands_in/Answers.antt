use mathlib.Core.Path.{◌∙◌}
use Rattle.std.proofs.lemmas.List.Sorted.{searched}
use Rattle.primes.proofs.Lookup.{ascending-at, found-member}
use Rattle.primes.proofs.listed.stands_in.Goals as goal

pub returns : goal.returns
returns c =
    let s = c.args.table.now in
    let q = c.args.q in
    c.is_ok.ensures.value ∙ found-member q s _ (searched s q _ c.binary_search.ensures.position (ascending-at s c.requires))
