-- Primes as the bits of a word.
use mathlib.Core.Path.{◌≡◌, refl, ap, ◌∙◌}
use mathlib.Core.Bool.{Bool, true, false, cond}
use Prim.Native.Nat.{ℕ, ◌+◌, ◌*◌, ◌/◌, ◌%◌, ◌^◌}
use native.Mathlib.Nat.{mod-lt}
use native.Mathlib.Omega.{arith}
use lib.Dec.{T, eqb, eqb→eq}
use Rattle.lists.specs.Search.{all_to}
use Rattle.lists.proofs.Searches.{all-at}
use Rattle.residues.specs.Primes.{is_prime}

-- does bit i of w tell of 64 k + i whether it is a prime?
abbrev pub tells : ℕ → ℕ → ℕ → Bool
tells w k i = eqb (w / 2 ^ i % 2) (cond (is_prime (64 * k + i)) 1 0)

-- q is in the kth word, which is w, and the word read is w
pub told : (q k w : ℕ) {v : ℕ} → T (all_to 64 (tells w k)) → q / 64 ≡ k → v ≡ w → eqb (v / 2 ^ (q % 64) % 2) 1 ≡ is_prime q
told q k w {v} t e read =
    ap (λ (u : ℕ). eqb (u / 2 ^ (q % 64) % 2) 1) read
    ∙ ap (λ (b : ℕ). eqb b 1) (eqb→eq (w / 2 ^ (q % 64) % 2) (cond (is_prime (64 * k + q % 64)) 1 0) bit)
    ∙ one (is_prime (64 * k + q % 64))
    ∙ ap is_prime {x = 64 * k + q % 64} {y = q} (omega (arith, e))
  where
    bit : T (tells w k (q % 64))
    bit = all-at 64 (tells w k) t (q % 64) (mod-lt q (omega arith))

    one : (b : Bool) → eqb (cond b 1 0) 1 ≡ b
    one true = refl
    one false = refl
