use mathlib.Core.Path.{◌≡◌, sym, ap, ◌∙◌}
use Prim.Native.Nat.{ℕ, ◌-◌, ◌%◌, ◌<◌}
use native.Mathlib.Nat.{mod_self, mod-eq_of_lt}
use native.Mathlib.Decide.{ℕ_discrete}
use native.Mathlib.Omega.{arith}
use borrow.Author.Tests.{eq-eqb}
use Rattle.residues.specs.Field.{residue, opposite_of}
use Rattle.residues.proofs.Congruence.{residue-mod}
use Rattle.arithmetic.proofs.modular.opposite_mod.Goals as goal

-- a multiple of q lacks nothing, or q itself
nothing-lacks : (q b : ℕ) → residue q b ≡ 0 → opposite_of q b ≡ 0
nothing-lacks q b e = go (ℕ_discrete q 0)
  where
    go : Dec (q ≡ 0) → opposite_of q b ≡ 0
    go (yes z) = rw (eq-eqb q 0 z)
    go (no n) =
        let h : 0 < q = omega arith in
        let l : q - b % q ≡ q = omega (arith, sym (residue-mod q b h) ∙ e) in
        residue-mod q (q - b % q) h ∙ ap (λ (z : ℕ). z % q) l ∙ mod_self q

-- another number leaves a remainder, and lacks the rest of q
lacks : (q b r : ℕ) → r ≡ residue q b → (r ≡ 0 → ⊥) → q - r ≡ opposite_of q b
lacks q b r e n = go (ℕ_discrete q 0)
  where
    go : Dec (q ≡ 0) → q - r ≡ opposite_of q b
    go (yes z) = absurd (n (e ∙ rw (eq-eqb q 0 z)))
    go (no m) =
        let h : 0 < q = omega arith in
        let f : r ≡ b % q = e ∙ residue-mod q b h in
        let l : q - b % q ≡ q - r = ap (λ (z : ℕ). q - z) (sym f) in
        let s : q - r < q = omega arith in
        sym (residue-mod q (q - b % q) h ∙ ap (λ (z : ℕ). z % q) l ∙ mod-eq_of_lt s)

pub returns-then-r-eq0 : goal.returns-then-r-eq0
returns-then-r-eq0 c = sym (nothing-lacks c.args.q c.args.b (sym c.reduce-r.ensures ∙ c.if-r-eq0.true))

pub returns-else-r-eq0 : goal.returns-else-r-eq0
returns-else-r-eq0 c = lacks _ _ _ c.reduce-r.ensures c.if-r-eq0.false
