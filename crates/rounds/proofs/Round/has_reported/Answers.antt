use Prim.Native.Nat.{◌-◌, ◌/◌, ◌^◌}
use lib.Bits.{and_mask}
use Rattle.lists.specs.Bits.{has_bit}
use Rattle.rounds.proofs.Round.has_reported.Goals as goal

pub returns : goal.returns
unfolding has_bit
returns c = rw (and_mask (c.args.self.reported / 2 ^ (c.args.sender - 1)) 1)
