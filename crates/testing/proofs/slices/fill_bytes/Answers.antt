use mathlib.Core.Path.{◌≡◌, refl, sym, ap₂, ◌∙◌}
use mathlib.Core.List.{List}
use Prim.Native.Nat.{ℕ, ◌%◌}
use native.Mathlib.Omega.{arith}
use lib.ListN.{length}
use Rattle.testing.specs.Numbers.{drawn_of}
use Rattle.testing.specs.Slices.{replaced, overwritten, filled_bytes}
use Rattle.testing.proofs.Loops.{written_next}
use Rattle.testing.proofs.slices.fill_bytes.Goals as goal

-- The invariant: the first i bytes are written.

pub loop-i-init : goal.loop-i-init
unfolding overwritten
loop-i-init c = (refl, refl)

pub loop-i-preserved : goal.loop-i-preserved
loop-i-preserved c =
    let s = c.loop-i in
    let a = c.args in
    let f : ℕ → ℕ = λ k. drawn_of a.x k % 256 in
    let number : c.drawn.result ≡ drawn_of a.x s.i = c.drawn.ensures in
    let list : s.b ≡ overwritten s.i f a.b.now = s.invariant.1 in (
      refl,
      c.put_byte.ensures ∙ ap₂ (λ (l : List ℕ) (v : ℕ). replaced l s.i (v % 256)) list number ∙ sym
          (written_next f a.b.now s.i),
    )

pub returns : goal.returns
unfolding filled_bytes
returns c =
    let e : c.loop-i.i ≡ length c.args.b.now = omega arith in
    rw e at c.loop-i.invariant.1
