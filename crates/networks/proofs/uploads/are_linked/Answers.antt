use Rattle.std.proofs.Common.{rules}
use Rattle.cyclic.specs.Network.{link_of, linked}
use Rattle.networks.proofs.uploads.are_linked.Goals as goal

pub returns-then-relay-ring : goal.returns-then-relay-ring
unfolding linked link_of
returns-then-relay-ring c = search rules
