-- Laws of y a less x b: the three ways in which it is computed, with q q made up where it would go below 0; what it is congruent to; and that it is 0 where
-- the two products are the same, which is how an elimination clears a column.
use mathlib.Core.Path.{◌≡◌, sym, ap, ◌∙◌}
use Prim.Native.Nat.{ℕ, ◌+◌, ◌-◌, ◌*◌, ◌/◌, ◌%◌, ◌≤◌, ◌<◌}
use native.Mathlib.Nat.{div-add-mod, mod-lt, zero-mod}
use native.Mathlib.Decide.{ℕ_discrete}
use native.Mathlib.Omega.{arith}
use borrow.Author.Tests.{eq-eqb}
use Rattle.residues.specs.Field.{residue, cross_of}
use Rattle.residues.proofs.Congruence.{Cong, of-rem, c-refl, c_sym, c-trans, c-add, residue-mod, of-residue, to-residue, back-number}

-- ---- the three cases, of c = y a and d = x b

module _ (q c d : ℕ) (pos : 0 < q) where
  below : d % q < q
  below = mod-lt d pos

  -- no more is taken off than there is
  pub cross-less : d ≤ c → residue q (c - d) ≡ residue q (c + (q - d % q))
  cross-less h =
      let e : Cong q (c - d) (c + (q - d % q)) = record { up = d / q + 1; dn = 0; eq = omega (arith, div-add-mod d q, below) } in
      to-residue e

  -- made up by q q
  pub cross-more : c < d → d ≤ q * q → residue q (c + (q * q - d)) ≡ residue q (c + (q - d % q))
  cross-more h l =
      let e : Cong q (c + (q * q - d)) (c + (q - d % q)) = record { up = d / q + 1; dn = q; eq = omega (arith, div-add-mod d q, below) } in
      to-residue e

  -- reduced first
  pub cross-rest : residue q (c % q + (q - d % q)) ≡ residue q (c + (q - d % q))
  cross-rest = to-residue (c-add (of-rem q c) (c-refl {a = q - d % q}))

  -- modulo q it is c + (q - 1) d
  cross-lacks : Cong q (c + (q - d % q)) (c + (q - 1) * d)
  cross-lacks =
      c-add (c-refl {a = c})
      (back-number q (q - 1) (q - d % q) d (omega arith)
      (c-trans (c-add (c-refl {a = q - d % q}) (c_sym (of-rem q d))) (record { up = 0; dn = 1; eq = omega (arith, below) })))

-- ---- what it is

-- y a + (q - 1) x b
pub cross-number : (q y a x b : ℕ) → 0 < q → Cong q (cross_of q y a x b) (y * a + (q - 1) * (x * b))
cross-number q y a x b pos = c-trans (of-residue q (y * a + (q - x * b % q)) pos) (cross-lacks q (y * a) (x * b) pos)

-- a symbol
pub cross-small : (q y a x b : ℕ) → 0 < q → cross_of q y a x b < q
cross-small q y a x b pos = rw (residue-mod q (y * a + (q - x * b % q)) pos) (mod-lt (y * a + (q - x * b % q)) pos)

-- 0 where the two products are the same
pub cross-same : (q y a x b : ℕ) → y * a ≡ x * b → cross_of q y a x b ≡ 0
cross-same q y a x b e = go (ℕ_discrete q 0)
  where
    go : Dec (q ≡ 0) → cross_of q y a x b ≡ 0
    go (yes z) = rw (eq-eqb q 0 z)
    go (no n) =
        sym (cross-less q (y * a) (x * b) (omega arith) (omega arith))
        ∙ ap (residue q) {x = y * a - x * b} {y = 0} (omega arith)
        ∙ residue-mod q 0 (omega arith)
        ∙ zero-mod q

-- the column of the pivot becomes 0
pub cross-clears : (q y x : ℕ) → cross_of q y x x y ≡ 0
cross-clears q y x = cross-same q y x x y (omega arith)
