use Prim.Native.Nat.{ℕ, suc, ◌+◌, ◌-◌}
use mathlib.Core.Path.{◌≡◌, ap, ◌∙◌}
use native.Mathlib.Omega.{arith}
use Rattle.refusals.specs.Codes.{first_of}
use Rattle.networks.specs.Rings.{network_of, leak_checks}
use Rattle.networks.proofs.CheckLaws.{walk-next, not-leaking}
use Rattle.networks.proofs.verdict.find_leak.Goals as goal

pub loop-j-preserved : goal.loop-j-preserved
loop-j-preserved c =
    let a = c.args in
    let l = c.loop-j in
    let z : suc (a.ring.size - (l.j + 1)) ≡ a.ring.size - l.j = omega (arith, c.loop-j-test.true) in
    walk-next (network_of a.ring a.table.now a.weights.now) (a.ring.size - (l.j + 1)) l.j _
    (not-leaking (network_of a.ring a.table.now a.weights.now) (l.j + 1) c.in_ok-check_observer.ensures)
    (ap (λ (k : ℕ). first_of (leak_checks (network_of a.ring a.table.now a.weights.now) k l.j)) z ∙ l.invariant)
