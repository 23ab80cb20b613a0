-- Which readings are enough to show any leak: all symbols are, and so are 0, 1 and q - 1 in one position.
use Prim.Native.Nat.{ℕ, ◌-◌, ◌*◌, ◌≤◌, ◌<◌}
use mathlib.Core.Path.{◌≡◌, refl, subst}
use mathlib.Core.Logic.{◌≢◌, ◌⊎◌, inl, inr, ⊎_elim}
use mathlib.Core.List.{List}
use native.Mathlib.Omega.{arith}
use Rattle.lists.specs.Lists.{at, zeros}
use Rattle.matrices.specs.Linear.{Vector}
use Rattle.lists.proofs.ListLaws.{el-zeros}
use Rattle.matrices.proofs.Vectors.{vector-zeros}
use Rattle.secrecy.specs.Leaks.{Symbols}
use Rattle.secrecy.proofs.Units.{unit, minus, unit-vector, unit-cases, units-vector, units-cases}

-- readings below q, among them, in one position: nothing, a 1 of any user, and a 1 and a minus 1 of any two
pub record Enough (q m : ℕ) (readings : ℕ → List ℕ → Type 0) : Type 0 where
  pub symbols : (L : ℕ) (W : List ℕ) → readings L W → Symbols q m L W
  pub none : readings 1 (zeros m)
  pub one : (i : ℕ) → i < m → readings 1 (unit m i)
  pub two : (i j : ℕ) → i < m → j < m → i ≢ j → readings 1 (minus q (unit m i) (unit m j))

-- one position, and no other readings than 0, 1 and q - 1
pub record Small (q m L : ℕ) (W : List ℕ) : Type 0 where
  pub once : L ≡ 1
  pub symbols : Symbols q m L W
  pub entries : (k : ℕ) → k < m * L → (at W k ≡ 0) ⊎ ((at W k ≡ 1) ⊎ (at W k ≡ q - 1))

module _ (q m : ℕ) (two : 2 ≤ q) where
  one-position : (d : List ℕ) → Vector q m d → Symbols q m 1 d
  one-position d v = subst (λ (k : ℕ). Vector q k d) (omega arith) v

  -- all symbols are enough
  pub symbols-enough : Enough q m (Symbols q m)
  symbols-enough =
      record {
        symbols = λ L W v. v;
        none = one-position (zeros m) (vector-zeros q m (omega arith));
        one = λ i l. one-position (unit m i) (unit-vector q m i two l);
        two = λ i j h l ne. one-position (minus q (unit m i) (unit m j)) (units-vector q m i j two);
      }

  -- and so are these
  pub small-enough : Enough q m (Small q m)
  small-enough =
      record {
        symbols = λ L W v. v.symbols;
        none = record { once = refl; symbols = symbols-enough.none; entries = λ k l. inl (el-zeros m k) };
        one = λ i h.
            record {
              once = refl;
              symbols = symbols-enough.one i h;
              entries = λ k l. ⊎_elim inl (λ e. inr (inl e)) (unit-cases m i k h);
            };
        two = λ i j hi hj ne.
            record { once = refl; symbols = symbols-enough.two i j hi hj ne; entries = λ k l. units-cases q m i j two k hi hj ne };
      }
