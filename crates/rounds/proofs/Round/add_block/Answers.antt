use Prim.Native.Nat.{ℕ, ◌≤◌, ◌<◌}
use mathlib.Core.Path.{◌≡◌, sym, ap, ap₂, ◌∙◌, subst}
use mathlib.Core.List.{List}
use native.Mathlib.Omega.{arith}
use lib.ListN.{take, length, set}
use lib.Seq.{get_or-take}
use borrow.Author.Rules.{rules}
use Rattle.lists.proofs.Searches.{true→T}
use Rattle.residues.proofs.PrimeLaws.{below_at}
use Rattle.residues.proofs.SymbolLaws.{symbol-sum}
use Rattle.residues.specs.Field.{sum_of, symbol_sum}
use Rattle.lists.specs.Lists.{at}
use Rattle.rounds.specs.declared.Round.{Round}
use Rattle.rounds.specs.Machine.{with_sums, added_to}
use Rattle.rounds.proofs.StepLaws.{added_none, added-at, added_next}
use Rattle.plans.specs.Plans.{max_length}
use Rattle.rounds.proofs.Round.add_block.Goals as goal

pub loop-p-init : goal.loop-p-init
loop-p-init c =
    let r : Round = c.args.self in
    let l : length r.sums ≡ max_length = search rules in
    (l, ap (with_sums r) (added_none r.q r.sums c.args.block.now l))

-- what stands in a position that is still to come is as it was, so that both numbers are symbols
pub loop-p-preserved : goal.loop-p-preserved
loop-p-preserved c =
    let s = c.loop-p in
    let r : Round = c.args.self in
    let bl : List ℕ = c.args.block.now in
    let S : List ℕ = added_to r.q s.p r.sums bl in
    let h : s.p < length bl = omega (arith, c.loop-p-test.true) in
    let few : length bl ≤ max_length = c.requires.few in
    let e : s.self ≡ with_sums r S = s.invariant.1 in
    let m : at S s.p ≡ at (take (length bl) r.sums) s.p =
    added-at r.q r.sums bl s.p (omega arith) ∙ sym (get_or-take (length bl) r.sums s.p 0 h) in
    let low : at S s.p < r.q =
    subst (λ (n : ℕ). n < r.q) (sym m) (below_at r.q (take (length bl) r.sums) c.requires.positive (true→T _ c.requires.low) s.p) in
    let x : c.add_symbols.result ≡ sum_of r.q (at S s.p) (at bl s.p) =
    c.add_symbols.ensures
    ∙ ap (λ (w : Round). symbol_sum w.q (at w.sums s.p) (at bl s.p)) e
    ∙ symbol-sum r.q (at S s.p) (at bl s.p) low (below_at r.q bl c.requires.positive (true→T _ c.requires.below) s.p) in (
      s.invariant.0,
      ap₂ (λ (w : Round) (y : ℕ). with_sums w (set w.sums s.p y)) e x ∙ ap (with_sums r)
          (added_next r.q r.sums bl s.p (omega arith) c.requires.positive),
    )
