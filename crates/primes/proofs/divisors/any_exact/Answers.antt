use mathlib.Core.Path.{sym, ap, ◌∙◌}
use mathlib.Core.Bool.{Bool, ◌||◌, or_assoc, or-false}
use Rattle.std.proofs.Common.{◌+◌, ◌*◌, ◌%◌, drop, get_or}
use lib.Dec.{leb}
use Rattle.primes.specs.Trying.{some_exact}
use Rattle.primes.proofs.Exact.{exact-step, exact-end}
use Rattle.primes.proofs.divisors.any_exact.Goals as goal

pub loop-i-preserved : goal.loop-i-preserved
loop-i-preserved c =
    let s = c.loop-i in
    let q = c.args.q in
    let vs = c.args.inverses.now in
    let ls = c.args.limits.now in
    or_assoc s.found (leb (q * get_or vs s.i 0 % 4294967296) (get_or ls s.i 0)) (some_exact q (drop (s.i + 1) vs) (drop (s.i + 1) ls))
    ∙ ap (λ (b : Bool). s.found || b) (sym (exact-step q vs ls s.i c.loop-i-test.true c.requires))
    ∙ s.invariant

pub returns : goal.returns
returns c =
    let s = c.loop-i in
    sym (or-false s.found)
    ∙ ap (λ (b : Bool). s.found || b) (sym (exact-end c.args.q c.args.inverses.now c.args.limits.now s.i c.loop-i-test.false))
    ∙ s.invariant
