-- Powers of 2 modulo n, bit by bit.
use mathlib.Core.Path.{◌≡◌, sym, ap, ◌∙◌}
use Prim.Native.Nat.{ℕ, suc, ◌+◌, ◌-◌, ◌*◌, ◌/◌, ◌%◌, ◌^◌, ◌≤◌, ◌<◌}
use native.Mathlib.Nat.{mod-lt, pow-suc, div-div-eq-div-mul, div-one}
use native.Mathlib.Omega.{arith}
use lib.Pow.{pow-add}
use Rattle.lists.proofs.BitLaws.{one_shl}
use Rattle.residues.specs.Field.{symbol_sum}
use Rattle.residues.proofs.Congruence.{Cong, of_eq, of-rem, c-trans, c-mul, c-mul-right, c-add, to-mod, residue-mod}
use Rattle.residues.proofs.SymbolLaws.{symbol-sum}

-- ---- one square

pub square-kept : (n x b : ℕ) → b ≡ 0 → x * x % n ≡ x * x * 2 ^ b % n
square-kept n x b e = ap (λ (w : ℕ). w % n) (omega (arith, ap (λ (w : ℕ). x * x * 2 ^ w) e))

-- twice a remainder, as a sum of two symbols
pub square-doubled : (n x b : ℕ) → 0 < n → b ≡ 1 → symbol_sum n (x * x % n) (x * x % n) ≡ x * x * 2 ^ b % n
square-doubled n x b pos e =
    symbol-sum n (x * x % n) (x * x % n) (mod-lt (x * x) pos) (mod-lt (x * x) pos)
    ∙ residue-mod n (x * x % n + x * x % n) pos
    ∙ to-mod (c-trans (c-add (of-rem n (x * x)) (of-rem n (x * x))) (of_eq (omega (arith, ap (λ (w : ℕ). x * x * 2 ^ w) e))))

-- ---- the bits of an exponent e, from the highest down: those from s on are e / 2 ^ s

pub power-start : (q e : ℕ) → e < 2 ^ 32 → 1 * 2 ^ (e / 2 ^ 27) % 2 ^ 64 % q ≡ 2 ^ (e / 2 ^ 27) % q
power-start q e h = ap (λ (w : ℕ). w % q) (one_shl 64 (e / 2 ^ 27) (omega arith) ∙ omega arith)

-- one bit more
power-bit : (n e s x : ℕ) → x ≡ 2 ^ (e / 2 ^ suc s) % n → x * x * 2 ^ (e / 2 ^ s % 2) % n ≡ 2 ^ (e / 2 ^ s) % n
power-bit n e s x h =
    let a : ℕ = e / 2 ^ suc s in
    let half : e / 2 ^ suc s ≡ e / 2 ^ s / 2 = ap (λ (w : ℕ). e / w) (pow-suc 2 s) ∙ sym (div-div-eq-div-mul e (2 ^ s) 2) in
    let split : e / 2 ^ s ≡ (a + a) + e / 2 ^ s % 2 = omega (arith, half) in
    let c : Cong n x (2 ^ a) = c-trans (of_eq h) (of-rem n (2 ^ a)) in
    to-mod
    (c-trans (c-mul-right (2 ^ (e / 2 ^ s % 2)) (c-mul c c))
    (of_eq
    (ap (λ (w : ℕ). w * 2 ^ (e / 2 ^ s % 2)) (sym (pow-add 2 a a)) ∙ sym (pow-add 2 (a + a) (e / 2 ^ s % 2)) ∙ ap (λ (w : ℕ). 2 ^ w) (sym split))))

pub power-next : (n e s x : ℕ) → 0 < s → x ≡ 2 ^ (e / 2 ^ s) % n → x * x * 2 ^ (e / 2 ^ (s - 1) % 2) % n ≡ 2 ^ (e / 2 ^ (s - 1)) % n
power-next n e s x pos h = power-bit n e (s - 1) x (h ∙ ap (λ (w : ℕ). 2 ^ (e / 2 ^ w) % n) {x = s} {y = suc (s - 1)} (omega arith))

pub power-end : (q e s : ℕ) → s ≤ 0 → 2 ^ (e / 2 ^ s) % q ≡ 2 ^ e % q
power-end q e s h = ap (λ (w : ℕ). 2 ^ (e / 2 ^ w) % q) {x = s} {y = 0} (omega arith) ∙ ap (λ (w : ℕ). 2 ^ w % q) (div-one e)
