use mathlib.Core.Path.{subst}
use Prim.Native.Nat.{ℕ}
use native.Mathlib.Nat.{pos_of_ne-zero}
use Rattle.residues.proofs.InverseLaws.{Euclid, euclid-step, euclid-one, euclid-none, inverse-below-two}
use Rattle.arithmetic.proofs.modular.inverse_mod.Goals as goal

pub returns-then-q-lt2 : goal.returns-then-q-lt2
returns-then-q-lt2 c = inverse-below-two _ _ c.if-q-lt2.true

pub loop-r1-preserved : goal.loop-r1-preserved
loop-r1-preserved c = euclid-step _ _ _ _ _ _ (pos_of_ne-zero c.loop-r1-test.true) c.loop-r1.invariant

pub returns-then-r0-eq1 : goal.returns-then-r0-eq1
returns-then-r0-eq1 c =
    let s = c.loop-r1 in
    let a = c.args in
    euclid-one _ _ _ s.t1 c.if-q-lt2.false
    (subst (λ (z : ℕ). Euclid a.q a.a z 0 s.t0 s.t1) c.if-r0-eq1.true
    (subst (λ (z : ℕ). Euclid a.q a.a s.r0 z s.t0 s.t1) c.loop-r1-test.false s.invariant))

pub returns-else-r0-eq1 : goal.returns-else-r0-eq1
returns-else-r0-eq1 c =
    let s = c.loop-r1 in
    let a = c.args in
    euclid-none _ _ s.r0 s.t0 s.t1 c.if-r0-eq1.false
    (subst (λ (z : ℕ). Euclid a.q a.a s.r0 z s.t0 s.t1) c.loop-r1-test.false s.invariant)
