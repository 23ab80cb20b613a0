-- Sums modulo q up to position L, and 0 from there on, pass their check.
use Prim.Native.Nat.{ℕ, ◌+◌, ◌%◌, ◌<◌}
use mathlib.Core.Path.{◌≡◌, sym, ap, ap₂, ◌∙◌, subst}
use mathlib.Core.Bool.{Bool, true, false, cond, ◌&&◌}
use mathlib.Core.List.{List}
use native.Mathlib.Nat.{mod-lt}
use native.Mathlib.Omega.{arith}
use lib.Dec.{ltb}
use lib.ListN.{take, drop, length-take, length-drop}
use lib.Seq.{get_or-take, get_or-drop}
use borrow.Author.Tests.{le-ltb}
use Rattle.residues.specs.Primes.{all_below}
use Rattle.residues.proofs.PrimeLaws.{at-below}
use Rattle.lists.specs.Lists.{tab}
use Rattle.lists.proofs.Searches.{T→true}
use Rattle.lists.proofs.ListLaws.{at-tab, length-tab}
use Rattle.rounds.specs.Rounds.{sums_fit}

pub sums-fit : (q L m : ℕ) (x : ℕ → ℕ) → 0 < q → sums_fit q L (tab m (λ p. cond (ltb p L) (x p % q) 0)) ≡ true
sums-fit q L m x pos =
    ap₂ ◌&&◌
    (T→true (all_below q (take L S))
    (at-below q (take L S)
    (λ i l.
    subst (λ (z : ℕ). z < q)
    (sym (get_or-take L S i 0 (omega (arith, length-take L S)) ∙ at-tab m entry i (omega (arith, length-take L S, length-tab m entry))))
    (below i (ltb i L)))))
    (T→true (all_below 1 (drop L S))
    (at-below 1 (drop L S)
    (λ i l.
    subst (λ (z : ℕ). z < 1)
    (sym (get_or-drop L S i 0
    ∙ at-tab m entry (L + i) (omega (arith, length-drop L S, length-tab m entry))
    ∙ ap (λ (t : Bool). cond t (x (L + i) % q) 0) (le-ltb (L + i) L (omega arith))))
    (omega arith))))
  where
    entry : ℕ → ℕ
    entry p = cond (ltb p L) (x p % q) 0

    S : List ℕ
    S = tab m entry

    below : (p : ℕ) (t : Bool) → cond t (x p % q) 0 < q
    below p true = mod-lt (x p) pos
    below p false = pos
