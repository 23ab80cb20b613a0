use Rattle.std.proofs.Common.{ℕ, ◌+◌, ◌≤◌, ◌<◌, List, ◌++◌, length, take, drop, sym, ap, ◌∙◌, arith}
use Rattle.std.proofs.Math.ListN.{set, length-set}
use Rattle.matrices.specs.Tables.{crossed}
use Rattle.matrices.proofs.Steps.{place_of, full, cross-next, cross-end}
use Rattle.matrices.proofs.cross.Goals as goal

pub loop-k-preserved : goal.loop-k-preserved
loop-k-preserved c =
    let s = c.loop-k in
    let a = c.args in
    let h : s.k < length s.row = omega (arith, c.loop-k-test.true, s.invariant.0) in
    let l : s.k < length a.s.now = place_of h (s.invariant.0 ∙ c.requires) in
    let n : ℕ = c.cross_mod.result in (
      length-set s.row s.k n ∙ s.invariant.0,
      ap (λ (z : ℕ). take (s.k + 1) (set s.row s.k z)
          ++ crossed a.q a.y a.x (drop (s.k + 1) (set s.row s.k z)) (drop (s.k + 1) a.s.now)) c.cross_mod.ensures
          ∙ cross-next a.q a.y a.x s.row a.s.now (crossed a.q a.y a.x a.row.now a.s.now) s.k h l s.invariant.1,
    )

pub returns : goal.returns
returns c =
    let s = c.loop-k in
    let a = c.args in
    let h : length s.row ≤ s.k = omega (arith, c.loop-k-test.false, s.invariant.0) in
    full s.row (crossed a.q a.y a.x a.row.now a.s.now) s.k h
    (ap (λ (z : List ℕ). take s.k s.row ++ z) (sym (cross-end a.q a.y a.x s.row (drop s.k a.s.now) s.k h))
    ∙ s.invariant.1)
