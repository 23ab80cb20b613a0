use mathlib.Core.Path.{refl}
use Prim.Native.Nat.{◌*◌, ◌/◌, ◌^◌}
use native.Mathlib.Nat.{one-mul}
use native.Mathlib.Omega.{arith}
use lib.Bits.{and_mask}
use Rattle.lists.proofs.BitLaws.{one_shl}
use Rattle.vetting.proofs.walk.has_outsider.Goals as goal

pub returns : goal.returns
returns c = rw (one_shl 32 c.args.size (omega arith), one-mul (2 ^ c.args.size), and_mask (c.args.g / 2 ^ (c.args.u * c.args.size)) c.args.size)
    refl
