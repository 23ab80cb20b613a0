use Prim.Native.Nat.{ℕ, ◌-◌}
use mathlib.Core.Path.{ap, ◌∙◌}
use native.Mathlib.Omega.{arith}
use lib.ListN.{length}
use Rattle.rounds.specs.Machine.{with_sums, with_reported, added_to}
use Rattle.rounds.proofs.ReportedLaws.{set-bit}
use Rattle.rounds.proofs.Round.counted.Goals as goal

pub returns : goal.returns
returns c =
    let R = c.args.self in
    c.add_block.ensures
    ∙ ap (λ (n : ℕ). with_sums (with_reported R n) (added_to R.q (length c.args.block.now) R.sums c.args.block.now))
    (set-bit R.reported (c.args.sender - 1) (omega (arith, c.requires.some, c.requires.fits)) c.requires.new)
