use mathlib.Core.Path.{sym, ap, ◌∙◌}
use mathlib.Core.Bool.{Bool, cond}
use Prim.Native.Nat.{ℕ, ◌+◌, ◌%◌}
use native.Mathlib.Nat.{add-sub_cancel_left}
use lib.ListN.{take, drop}
use borrow.Author.Tests.{eq-eqb}
use Rattle.rounds.specs.Ledger.{frame}
use Rattle.rounds.specs.Relays.{relay_next}
use Rattle.trials.specs.Drawing.{frame_of}
use Rattle.trials.proofs.sums.hear.Goals as goal

pub returns : goal.returns
returns c =
    let a = c.args in
    c.count.ensures.round
    ∙ ap (λ (k : ℕ). relay_next a.round (frame (a.user % a.plan.size + 1) a.number (take k (drop a.user a.uploads.now))))
    (add-sub_cancel_left a.user 1)
    ∙ sym (ap (λ (b : Bool). cond b (relay_next a.round (frame_of a.plan a.cluster a.number a.uploads.now a.user)) a.round)
    (eq-eqb _ _ c.if-user-plan.false))
