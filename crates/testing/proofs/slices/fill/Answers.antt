use mathlib.Core.Path.{◌≡◌, refl, sym, ap, ap₂, ◌∙◌}
use mathlib.Core.List.{List}
use Prim.Native.Nat.{ℕ}
use native.Mathlib.Omega.{arith}
use lib.ListN.{length}
use Rattle.testing.specs.Numbers.{residue_of, symbol_of, state_of}
use Rattle.testing.specs.Slices.{replaced, overwritten, filled}
use Rattle.testing.proofs.Loops.{written_next}
use Rattle.testing.proofs.slices.fill.Goals as goal

-- The invariant: the first i numbers are written.

pub loop-i-init : goal.loop-i-init
unfolding overwritten
loop-i-init c = (refl, refl)

pub loop-i-preserved : goal.loop-i-preserved
loop-i-preserved c =
    let s = c.loop-i in
    let a = c.args in
    let f : ℕ → ℕ = λ k. symbol_of (residue_of a.q (state_of a.x k)) in
    let number : c.state.result ≡ state_of a.x s.i = c.state.ensures in
    let value : c.residue.result ≡ residue_of a.q (state_of a.x s.i) = c.residue.ensures ∙ ap
    (residue_of a.q) number in
    let list : s.t ≡ overwritten s.i f a.t.now = s.invariant.1 in (
      refl,
      c.put.ensures ∙ ap₂ (λ (l : List ℕ) (v : ℕ). replaced l s.i (symbol_of v)) list value ∙ sym
          (written_next f a.t.now s.i),
    )

pub returns : goal.returns
unfolding filled
returns c =
    let e : c.loop-i.i ≡ length c.args.t.now = omega arith in
    rw e at c.loop-i.invariant.1
