use mathlib.Core.Path.{◌≡◌, ap, ◌∙◌}
use Prim.Native.Nat.{ℕ, ◌+◌, ◌*◌, ◌/◌, ◌%◌, ◌^◌, ◌≤◌, ◌<◌}
use native.Mathlib.Omega.{arith}
use Rattle.testing.specs.Numbers.{residue_of, symbol_of, product_mod_of}
use Rattle.testing.proofs.Symbols.{symbol-product, residue-le, by-halves}
use Rattle.testing.proofs.numbers.product_mod.Goals as goal

-- The upper half's product is at most that of the largest numbers, and so is its residue.

pub overflow_mul-m : goal.overflow_mul-m
overflow_mul-m c =
    omega (arith, symbol-product (c.args.a % 4294967296) (c.args.b % 4294967296 / 65536) 65535 (omega arith) (omega arith))

-- what the upper half leaves, and the lower half's product beside it
both-fit : (q a b r : ℕ) → r ≡ residue_of q (a % 4294967296 * (b % 4294967296 / 65536)) → r * 65536 + a % 4294967296 * (b % 4294967296 % 65536) < 2 ^ 64
both-fit q a b r e =
    let m : ℕ = a % 4294967296 in
    let n : ℕ = b % 4294967296 in
    let upper : r ≤ m * (n / 65536) = rw e (residue-le q (m * (n / 65536))) in
    omega (arith, symbol-product m (n / 65536) 65535 (omega arith) (omega arith), symbol-product m (n % 65536) 65535 (omega arith) (omega arith))

pub overflow_mul-upper : goal.overflow_mul-upper
overflow_mul-upper c = omega (arith, both-fit _ c.args.a c.args.b _ c.residue-upper.ensures)

pub overflow_mul-m-2 : goal.overflow_mul-m-2
overflow_mul-m-2 c = omega (arith, both-fit _ c.args.a c.args.b _ c.residue-upper.ensures)

pub overflow_add-upper : goal.overflow_add-upper
overflow_add-upper c = omega (arith, both-fit _ c.args.a c.args.b _ c.residue-upper.ensures)

pub returns : goal.returns
unfolding product_mod_of symbol_of
returns c =
    let a = c.args in
    let m : ℕ = a.a % 4294967296 in
    let n : ℕ = a.b % 4294967296 in
    let e : c.residue.result ≡ residue_of a.q (m * n) = c.residue.ensures ∙ ap (λ (x : ℕ). residue_of a.q (x * 65536 + m * (n % 65536)))
    c.residue-upper.ensures ∙ by-halves a.q m n in record {
      exact = e;
      fits = omega (arith, e, residue-le a.q (m * n), symbol-product m n 4294967295 (omega arith) (omega arith));
    }
