use mathlib.Core.Path.{◌≡◌, refl, sym, ap, ap₂, ◌∙◌}
use Prim.Native.Nat.{ℕ, ◌+◌, ◌-◌, ◌*◌, ◌/◌, ◌^◌, ◌≤◌}
use native.Mathlib.Nat.{mul-le-mul}
use native.Mathlib.Omega.{arith}
use lib.Pow.{pow_mono}
use Rattle.lists.specs.Sums.{sum_to, binomial}
use Rattle.lists.proofs.Binomials.{binomial-next, binomial-few, sets-few}
use Rattle.lists.proofs.Sums.{sum-next}
use Rattle.vetting.proofs.length.sets_up_to.Goals as goal
use Rattle.vetting.proofs.length.sets_up_to.Goals.{In-loop-k}

pub loop-k-init : goal.loop-k-init
unfolding sum_to binomial
loop-k-init c = (refl, refl)

-- the users' sets are at most 65,536
few : (c : In-loop-k) → 2 ^ c.args.n ≤ 2 ^ 16
few c = pow_mono c.requires.0

pub overflow_mul-sets : goal.overflow_mul-sets
overflow_mul-sets c =
    let s = c.loop-k in
    let n : ℕ = c.args.n in
    let l : s.sets ≤ 2 ^ 16 = omega (arith, s.invariant.0, binomial-few n s.k, few c) in
    omega (arith, mul-le-mul {n₁ = s.sets} {m₁ = n - s.k} {n₂ = 2 ^ 16} {m₂ = 16} l (omega (arith, c.requires.0)))

-- the sets of k + 1
next : (c : In-loop-k)
    → (let s = c.loop-k in let n : ℕ = c.args.n in s.sets * (n - s.k) / (s.k + 1) ≡ binomial n (s.k + 1))
next c =
    let s = c.loop-k in
    let n : ℕ = c.args.n in
    ap (λ (x : ℕ). x * (n - s.k) / (s.k + 1)) s.invariant.0 ∙ binomial-next n s.k (omega (arith, c.loop-k-test.true, c.requires.1))

sum_is : (c : In-loop-k)
    → (let s = c.loop-k in let n : ℕ = c.args.n in
    s.sum + s.sets * (n - s.k) / (s.k + 1) ≡ sum_to (s.k + 1 + 1) (binomial n))
sum_is c = let s = c.loop-k in ap₂ ◌+◌ s.invariant.1 (next c) ∙ sym (sum-next (s.k + 1) (binomial c.args.n))

pub overflow_add-sum : goal.overflow_add-sum
overflow_add-sum c = let s = c.loop-k in omega (arith, sum_is c, sets-few c.args.n (s.k + 1), few c)

pub loop-k-preserved : goal.loop-k-preserved
loop-k-preserved c = (next c, sum_is c)
