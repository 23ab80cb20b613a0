use mathlib.Core.Path.{refl}
use Prim.Native.Nat.{◌%◌}
use native.Mathlib.Nat.{mul-le-mul}
use native.Mathlib.Omega.{arith}
use Rattle.testing.specs.Numbers.{low, low_product}
use Rattle.testing.proofs.numbers.product.Goals as goal

-- The product of two numbers below 65,536 fits.

pub overflow_mul-result : goal.overflow_mul-result
overflow_mul-result c = omega (arith, mul-le-mul {n₁ = c.args.a % 65536} {m₁ = c.args.b % 65536} {n₂ = 65535} {m₂ = 65535} (omega arith) (omega arith))

pub returns : goal.returns
unfolding low_product low
returns c = record {
  exact = refl;
  fits = mul-le-mul {n₁ = c.args.a % 65536} {m₁ = c.args.b % 65536} {n₂ = 65535} {m₂ = 65535} (omega arith) (omega arith);
}
