use mathlib.Core.Path.{◌≡◌, ◌∙◌}
use Prim.Native.Nat.{◌-◌, ◌/◌, ◌%◌, ◌^◌}
use native.Mathlib.Nat.{mod-lt}
use native.Mathlib.Omega.{arith}
use Rattle.primes.proofs.Powers.{power-next}
use Rattle.primes.proofs.power_of_two.Goals as goal

pub loop-s-preserved : goal.loop-s-preserved
loop-s-preserved c =
    let s = c.loop-s in
    let q = c.args.q in
    let e : c.squared-x.result ≡ 2 ^ ((q - 1) / 2 ^ (s.s - 1)) % q =
    c.squared-x.ensures ∙ power-next q (q - 1) s.s s.x (omega (arith, c.loop-s-test.true)) s.invariant.1 in
    (omega (arith, e, mod-lt (2 ^ ((q - 1) / 2 ^ (s.s - 1))) {m = q} (omega (arith, c.requires))), e)
