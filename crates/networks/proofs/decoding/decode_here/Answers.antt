use Prim.Native.Nat.{◌+◌, ◌*◌, ◌≤◌}
use mathlib.Core.Path.{sym}
use native.Mathlib.Omega.{arith}
use Rattle.networks.proofs.Fronts.{front-size}
use Rattle.networks.proofs.RingLaws.{few-columns}
use native.Mathlib.Nat.{mul-le-mul}
use Rattle.networks.proofs.decoding.decode_here.Goals as goal
use Rattle.networks.proofs.decoding.decode_here.Goals.{Start}

few : (s : Start) → (s.args.ring.parts + s.args.ring.size) * (s.args.ring.size * s.args.ring.parts + s.args.ring.rate) ≤ 576
few s =
    let r = s.args.ring in
    mul-le-mul {n₁ = r.parts + r.size} {m₁ = r.size * r.parts + r.rate} {n₂ = 12} {m₂ = 48}
    (omega (arith, s.requires.0.counted.parts-high, s.requires.0.counted.size-high)) (few-columns r s.requires.0.counted)

few-here : (s : Start) → s.args.ring.parts + s.args.ring.size ≤ 12
few-here s = omega (arith, s.requires.0.counted.parts-high, s.requires.0.counted.size-high)

pub decode_in-requires : goal.decode_in-requires
decode_in-requires c =
    let s = (goal.at.decode_in-requires c).Start in
    (s.requires.0, s.requires.1, s.requires.2, sym (front-size _ _ (few s)), sym (front-size _ _ (few-here s)), sym (front-size _ _ (few-here s)), s.requires.3)
