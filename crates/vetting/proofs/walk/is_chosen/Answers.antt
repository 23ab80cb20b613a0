use borrow.Author.Tests.{ne_eqb}
use mathlib.Core.Path.{refl, sym, ◌∙◌}
use Prim.Native.Nat.{◌/◌, ◌%◌, ◌^◌}
use lib.Bits.{and_mask}
use Rattle.lists.specs.Bits.{has_bit}
use Rattle.vetting.proofs.walk.is_chosen.Goals as goal

pub returns-then-watch-i-eq1 : goal.returns-then-watch-i-eq1
unfolding has_bit
returns-then-watch-i-eq1 c =
    let a = c.args in
    rw (and_mask (a.skip / 2 ^ a.i) 1) (rw (sym (and_mask (a.watch / 2 ^ a.i) 1) ∙ c.if-watch-i-eq1.true) refl)

pub returns-else-watch-i-eq1 : goal.returns-else-watch-i-eq1
unfolding has_bit
returns-else-watch-i-eq1 c =
    let a = c.args in
    rw (and_mask (a.watch / 2 ^ a.i) 1) (rw (ne_eqb (a.watch / 2 ^ a.i % 2) 1 (λ e. c.if-watch-i-eq1.false (and_mask (a.watch / 2 ^ a.i) 1 ∙ e))) refl)
