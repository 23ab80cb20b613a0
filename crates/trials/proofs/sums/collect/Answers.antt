-- The invariant: the frames counted and those still to come, from the round as it is now, are all of them from the opening.
use mathlib.Core.Path.{◌≡◌, sym, ap, ◌∙◌}
use mathlib.Core.List.{List, ◌∷◌}
use Prim.Native.Nat.{ℕ, suc, ◌+◌}
use native.Mathlib.Nat.{add-sub_cancel_left}
use native.Mathlib.Numerals.{add-one}
use native.Mathlib.Omega.{arith}
use lib.ListN.{length, take, drop}
use lib.Seq.{drop-cons}
use Rattle.lists.proofs.ListLaws.{get-tab, length-tab}
use Rattle.rounds.specs.declared.ServerRound.{ServerRound}
use Rattle.rounds.specs.Ledger.{Frame, frame}
use Rattle.rounds.specs.Rounds.{server_run, server_next}
use Rattle.trials.specs.Drawing.{relay_frames}
use Rattle.trials.proofs.RelayLaws.{no_frames}
use Rattle.trials.proofs.sums.collect.Goals as goal

pub loop-u-preserved : goal.loop-u-preserved
unfolding server_run
loop-u-preserved c =
    let s = c.loop-u in
    let a = c.args in
    let L : List ℕ = a.sums.now in
    let F : List Frame = relay_frames a.number L in
    let own : ℕ → Frame = λ u. frame (suc u) a.number (take 1 (drop u L)) in
    let h = c.loop-u-test.true in
    let head : drop s.u F ≡ own s.u ∷ drop (suc s.u) F =
    drop-cons F s.u (own 0) (omega (arith, h, length-tab (length L) own))
    ∙ ap (λ (f : Frame). f ∷ drop (suc s.u) F) (get-tab (length L) own (own 0) s.u h) in
    ap (λ (R : ServerRound). server_run R (drop (s.u + 1) F))
    (c.count.ensures.round
    ∙ ap (λ (k : ℕ). server_next s.round (frame (s.u + 1) a.number (take k (drop s.u L)))) (add-sub_cancel_left s.u 1)
    ∙ ap (λ (k : ℕ). server_next s.round (frame k a.number (take 1 (drop s.u L)))) (add-one s.u))
    ∙ ap (λ (k : ℕ). server_run (server_next s.round (own s.u)) (drop k F)) (add-one s.u)
    ∙ sym (ap (server_run s.round) head)
    ∙ s.invariant

pub returns : goal.returns
unfolding server_run
returns c =
    let s = c.loop-u in
    let a = c.args in
    let F : List Frame = relay_frames a.number a.sums.now in
    sym (ap (server_run s.round) (no_frames s.u F (omega (
      arith,
      c.loop-u-test.false,
      length-tab (length a.sums.now)
          (λ u. frame (suc u) a.number (take 1 (drop u a.sums.now))),
    ))))
    ∙ s.invariant
