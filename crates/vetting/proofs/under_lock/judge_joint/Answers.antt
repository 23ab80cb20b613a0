use mathlib.Core.Path.{ap, ◌∙◌}
use mathlib.Core.List.{[], ◌∷◌}
use Prim.Native.Nat.{ℕ, ◌+◌}
use native.Mathlib.Omega.{arith}
use Rattle.residues.proofs.PrimeLaws.{prime-pos}
use Rattle.vetting.specs.declared.Walked.{Walked}
use Rattle.vetting.specs.Walking.{base_table, walked, joint_found}
use Rattle.vetting.proofs.VetLaws.{passed, joint-found}
use Rattle.vetting.proofs.under_lock.judge_joint.Goals as goal
use Rattle.vetting.proofs.under_lock.judge_joint.Goals.{Start}

pub find_leak-requires : goal.find_leak-requires
find_leak-requires c =
    let p = passed c.args.plan c.args.table.now c.requires.0 in
    (p.bounds, p.size, prime-pos p.prime, omega arith)

pub returns : goal.returns
returns c =
    let a = c.args in
    let masked = c.joint_mask-both in
    c.joint_told.ensures
    ∙ ap (λ (w : Walked). joint_found w.found)
    (c.find_leak.ensures ∙ ap (λ (m : ℕ). walked a.plan m ((a.plan.clusters + 1) ∷ []) (base_table a.plan a.table.now)) masked.ensures)
    ∙ joint-found a.plan a.table.now c.requires.0 a.pair.first a.pair.second
