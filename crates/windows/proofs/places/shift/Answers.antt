use mathlib.Core.Path.{◌≡◌, ap, ap₂, ◌∙◌}
use mathlib.Core.List.{List, [], ◌∷◌, ◌++◌}
use Prim.Native.Nat.{ℕ, ◌+◌, ◌-◌}
use native.Mathlib.Omega.{arith}
use lib.IntN.{ℤ, pos}
use lib.ListN.{take, drop, set, get_or}
use mir.Syntax.{w32}
use mir.Val.{of_z, to_z}
use mir.Facts.{to_z-of_z}
use Rattle.integers.proofs.Bits.{back}
use Rattle.windows.proofs.RunLaws.{moved_to, moved-reads, moved-set, moved-next, rest_of}
use Rattle.windows.proofs.places.shift.Goals as goal

pub loop-k-preserved : goal.loop-k-preserved
loop-k-preserved c =
    let s = c.loop-k in
    let l = c.args.totals.now in
    let t = get_or s.totals s.k (pos 0) in
    let next : s.k - 1 + 1 ≡ s.k = omega arith in
    let one : s.k ≡ s.k + 1 - 1 = omega arith in
    let is : to_z w32 (of_z w32 t) ≡ get_or l s.k (pos 0)
    = back w32 t (omega arith) ∙ ap (λ (r : List ℤ). get_or r s.k (pos 0)) s.invariant ∙ moved-reads l (s.k - 1) s.k next (omega arith) in
    ap₂ (λ (r : List ℤ) (t : ℤ). set r (s.k - 1) t) s.invariant is
    ∙ moved-next l (s.k - 1) s.k next (omega arith) (omega arith)
    ∙ ap (λ (n : ℕ). moved_to n l) one

-- the newest in the last place
pub returns : goal.returns
returns c =
    let s = c.loop-k in
    let l = c.args.totals.now in
    let t = c.args.newest in
    let last = c.args.held - 1 in
    let held : last + 1 ≡ c.args.held = omega arith in
    let at-end : s.k - 1 ≡ last = omega arith in
    ap₂ (λ (r : List ℤ) (z : ℤ). set r last z) (s.invariant ∙ ap (λ (k : ℕ). moved_to k l) at-end) (to_z-of_z c.ranges.newest)
    ∙ moved-set l last c.args.held held (omega arith) t
    ∙ ap (λ (r : List ℤ). (r ++ (t ∷ [])) ++ drop c.args.held l) (rest_of l last ∙ ap (λ (n : ℕ). drop 1 (take n l)) held)
