use Rattle.std.proofs.Common.{◌≡◌, ℕ, ◌+◌, ◌*◌, ◌<◌, List, length, sym, ap, ◌∙◌, subst, arith}
use lib.ListN.{replicate}
use Rattle.lists.specs.Lists.{at}
use Rattle.lists.proofs.ListLaws.{length-tab}
use Rattle.keys.proofs.SumLaws.{sums, sums_none}
use Rattle.keys.proofs.derive.user_keys.Goals as goal
use Rattle.keys.proofs.derive.user_keys.Goals.{At-loop-k, Start}

-- the sums of the call after k products, for L positions
abbrev sums_after : Start → ℕ → ℕ → List ℕ
sums_after s L k = sums s.args.q s.args.row.now s.args.turned.now L k

-- there are as many positions in the loop as once the keys are cleared
kept : (l : At-loop-k) → length l.loop-k.keys ≡ length l.fill.new.self
kept l = ap length l.loop-k.invariant ∙ length-tab _ _

pub loop-k-init : goal.loop-k-init
loop-k-init c =
    let a = c.args in
    c.fill.ensures.after (λ y e. e)
    ∙ ap (λ (n : ℕ). replicate {A = ℕ} n 0) (sym c.fill.ensures.len)
    ∙ sums_none a.q a.row.now a.turned.now (length c.fill.new.self)

pub add_product-requires : goal.add_product-requires
add_product-requires c =
    let l = (goal.at.add_product-requires c).At-loop-k in
    let s = (goal.at.At-loop-k l).Start in
    let a = s.args in
    let k = l.loop-k.k in
    let taken = c.loop-k-test.true in
    let full : length l.loop-k.keys ≡ length a.keys.now = kept l ∙ l.fill.ensures.len in (
      omega (arith, taken),
      s.requires.3 _ (omega (arith, taken)),
      s.requires.1,
      s.requires.2,
      s.requires.4 ∙ ap (λ (n : ℕ). length a.row.now * n) (sym full),
      λ j p h m. subst (λ (n : ℕ). at a.turned.now (j * n + p) < a.q) (sym full) (s.requires.5 j p h (omega (arith, full))),
      l.loop-k.invariant ∙ ap (λ (n : ℕ). sums_after s n k) (sym (kept l)),
    )

pub loop-k-preserved : goal.loop-k-preserved
loop-k-preserved c =
    let l = (goal.at.loop-k-preserved c).At-loop-k in
    let s = (goal.at.At-loop-k l).Start in
    c.add_product.ensures ∙ ap (λ (n : ℕ). sums_after s n (l.loop-k.k + 1)) (kept l)
