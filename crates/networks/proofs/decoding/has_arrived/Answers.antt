use Prim.Native.Nat.{◌/◌}
use Prim.Native.Nat.{◌^◌}
use lib.Bits.{and_mask}
use Rattle.lists.specs.Bits.{has_bit}
use Rattle.networks.proofs.decoding.has_arrived.Goals as goal

pub returns : goal.returns
unfolding has_bit
returns c = rw (and_mask (c.args.reported / 2 ^ c.args.j) 1)
