-- The members of a coalition: the lowest comes first, and the others are those of what is left without it.
use mathlib.Core.Path.{◌≡◌, refl, sym, ap, ap₂, ◌∙◌}
use mathlib.Core.Bool.{cond}
use mathlib.Core.Logic.{⊎_elim}
use mathlib.Core.List.{List, [], ◌∷◌}
use Prim.Native.Nat.{ℕ, zero, suc, ◌+◌, ◌-◌, ◌*◌, ◌/◌, ◌%◌, ◌^◌, ◌≤◌, ◌<◌}
use native.Mathlib.Nat.{pow-suc, zero-add, zero-div, div-one}
use native.Mathlib.Omega.{arith}
use lib.Dec.{eqb}
use lib.Pow.{shr-shr}
use lib.Count.{count_trailing_zeros}
use Rattle.lists.specs.Bits.{has_bit}
use Rattle.secrecy.specs.Model.{in_coalition}
use Rattle.lists.proofs.BitLaws.{digit, half-bound}
use Rattle.vetting.specs.Walking.{members_from}

-- the members, by halving
unfoldable halved : ℕ → ℕ → ℕ → List ℕ
halved zero i n = []
halved (suc k) i n = cond (eqb (n % 2) 1) (i ∷ halved k (i + 1) (n / 2)) (halved k (i + 1) (n / 2))

halves : (k i g : ℕ) → halved k i (g / 2 ^ i) ≡ members_from k i g
unfolding halved members_from has_bit
halves zero i g = refl
halves (suc k) i g = ap (λ (l : List ℕ). cond (in_coalition g i) (i ∷ l) l) (ap (halved k (i + 1)) (shr-shr g i 1) ∙ halves k (i + 1) g)

abbrev Next : ℕ → ℕ → ℕ → Type 0
Next k i n = (2 ^ count_trailing_zeros k n ≤ n) × (count_trailing_zeros k n < k) × (halved k i n ≡ (i + count_trailing_zeros k n) ∷ halved k i (n - 2 ^ count_trailing_zeros k n))

next-even : (k i n : ℕ) → n % 2 ≡ 0 → Next k (i + 1) (n / 2) → Next (suc k) i n
unfolding halved count_trailing_zeros
next-even k i n e ih =
    let t : ℕ = count_trailing_zeros k (n / 2) in
    let w : 2 ^ suc t ≡ 2 ^ t * 2 = pow-suc 2 t in
    let b : 2 ^ t ≤ n / 2 = ih.0 in
    let m : (n - 2 ^ suc t) % 2 ≡ 0 = omega arith in
    let d : (n - 2 ^ suc t) / 2 ≡ n / 2 - 2 ^ t = omega arith in
    let s : i + suc t ≡ i + 1 + t = omega arith in
    rw e (omega arith, omega (arith, ih.1), rw (m, d, s) ih.2)

next-odd : (k i n : ℕ) → n % 2 ≡ 1 → Next (suc k) i n
unfolding halved count_trailing_zeros
next-odd k i n e =
    let m : (n - 1) % 2 ≡ 0 = omega arith in
    let d : (n - 1) / 2 ≡ n / 2 = omega arith in
    let s : i + 0 ≡ i = omega arith in
    rw e (omega arith, omega arith, rw (m, d, s) refl)

next-halved : (k i n : ℕ) → 0 < n → n < 2 ^ k → Next k i n
next-halved zero i n p h = absurd (omega arith)
next-halved (suc k) i n p h =
    ⊎_elim (λ e. next-even k i n e (next-halved k (i + 1) (n / 2) (omega arith) (half-bound k n h))) (next-odd k i n) (digit n)

-- the lowest member comes first, the others are those of what is left without it
pub members-next : (k n : ℕ) → 0 < n → n < 2 ^ k
    → (2 ^ count_trailing_zeros k n ≤ n) × (count_trailing_zeros k n < k) × (members_from k 0 n ≡ count_trailing_zeros k n ∷ members_from k 0 (n - 2 ^ count_trailing_zeros k n))
members-next k n p h =
    let m = next-halved k 0 n p h in
    let z : (x : ℕ) → halved k 0 x ≡ members_from k 0 x = λ x. ap (halved k 0) (sym (div-one x)) ∙ halves k 0 x in
    (m.0, m.1, sym (z n) ∙ m.2 ∙ ap₂ (λ (a : ℕ) (l : List ℕ). a ∷ l) (zero-add (count_trailing_zeros k n)) (z (n - 2 ^ count_trailing_zeros k n)))

-- nobody is left
pub members-none : (k i : ℕ) → members_from k i 0 ≡ []
unfolding members_from has_bit
members-none zero i = refl
members-none (suc k) i = rw (zero-div (2 ^ i)) (members-none k (i + 1))
