use Rattle.testing.specs.Numbers.{draw_of}
use Rattle.testing.proofs.numbers.draw.Goals as goal

pub returns : goal.returns
unfolding draw_of
returns c = c.residue.ensures
