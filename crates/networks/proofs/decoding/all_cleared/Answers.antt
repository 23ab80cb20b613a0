use Prim.Native.Nat.{ℕ, ◌+◌, ◌*◌, ◌≤◌}
use mathlib.Core.Path.{◌≡◌, refl, sym, ap, ◌∙◌}
use mathlib.Core.Bool.{true, false}
use native.Mathlib.Omega.{arith}
use lib.ListN.{length}
use Rattle.matrices.specs.Tables.{row_of}
use Rattle.residues.specs.Primes.{all_below}
use Rattle.lists.proofs.Searches.{all-next, all-fails}
use Rattle.lists.proofs.Fronts.{length_part}
use Rattle.networks.proofs.ValueLaws.{row_ends, part-row, cleared-is}
use Rattle.lists.specs.Search.{all_to}
use Rattle.networks.proofs.decoding.all_cleared.Goals as goal
use Rattle.networks.proofs.decoding.all_cleared.Invariants.{test}
use Rattle.networks.proofs.decoding.all_cleared.Goals.{In-loop-s}

ends : (c : In-loop-s)
    → c.loop-s.s * c.args.cols + c.args.cols ≤ length c.args.table.now
ends c = row_ends c.args.n c.args.cols c.loop-s.s _ c.loop-s-test.true c.requires.2

pub loop-s-init : goal.loop-s-init
unfolding all_to
loop-s-init c = refl

pub returns-then-not-all_below : goal.returns-then-not-all_below
unfolding test
returns-then-not-all_below c =
    let a = c.args in
    let l = c.loop-s in
    sym (all-fails (test a.cols a.table.now) l.s a.n c.loop-s-test.true
    (cleared-is a.cols (row_of a.cols a.table.now l.s)
    (length_part a.cols (l.s * a.cols) a.table.now (ends (goal.at.returns-then-not-all_below c).In-loop-s)) false
    (sym (c.if-not-all_below.true) ∙ c.all_below.ensures ∙ ap (all_below 1) (part-row a.cols l.s a.table.now))))

pub loop-s-preserved : goal.loop-s-preserved
unfolding test
loop-s-preserved c =
    let a = c.args in
    let l = c.loop-s in
    all-next (test a.cols a.table.now) l.s l.invariant
    (cleared-is a.cols (row_of a.cols a.table.now l.s)
    (length_part a.cols (l.s * a.cols) a.table.now (ends (goal.at.loop-s-preserved c).In-loop-s)) true
    (sym (c.if-not-all_below.false) ∙ c.all_below.ensures ∙ ap (all_below 1) (part-row a.cols l.s a.table.now)))

pub returns : goal.returns
unfolding test
returns c =
    let a = c.args in
    let e : c.loop-s.s ≡ a.n = omega (arith, c.loop-s-test.false, c.loop-s.auto.s-end) in
    sym (ap (λ (k : ℕ). all_to k (test a.cols a.table.now)) (sym e) ∙ c.loop-s.invariant)
