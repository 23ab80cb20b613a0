-- A list whose entries are changed in place from the front, each by what stood there: what every loop that does so keeps.
use Prim.Native.Nat.{ℕ, ◌+◌, ◌≤◌, ◌<◌}
use mathlib.Core.Path.{◌≡◌, refl, sym, ap, ◌∙◌}
use mathlib.Core.List.{List}
use native.Mathlib.Decide.{ℕ_discrete}
use native.Mathlib.Omega.{arith}
use lib.ListN.{length, set, length-set}
use lib.Seq.{get_or-set_same, get_or-set_other}
use Rattle.lists.specs.Lists.{at, tab}
use Rattle.lists.proofs.ListLaws.{tab-at}

-- T, which was T₀, has f 0, .., f (k - 1) and then what T₀ has
pub record InPlace (f : ℕ → ℕ) (T₀ T : List ℕ) (k : ℕ) : Type 0 where
  pub within : k ≤ length T
  pub whole : length T ≡ length T₀
  pub done : (x : ℕ) → x < k → at T x ≡ f x
  pub rest : (x : ℕ) → k ≤ x → at T x ≡ at T₀ x

pub in-place-none : (f : ℕ → ℕ) (T : List ℕ) → InPlace f T T 0
in-place-none f T = record { within = omega arith; whole = refl; done = λ x h. absurd (omega arith); rest = λ x h. refl }

module _ (f : ℕ → ℕ) (T₀ T : List ℕ) (k : ℕ) where
  pub in-place-next : (v : ℕ) → InPlace f T₀ T k → k < length T → v ≡ f k → InPlace f T₀ (set T k v) (k + 1)
  in-place-next v s h e =
      record {
        within = omega (arith, length-set T k v);
        whole = length-set T k v ∙ s.whole;
        done = λ x l. go x l (ℕ_discrete x k);
        rest = λ x l. get_or-set_other T k x v 0 (λ n. omega arith) ∙ s.rest x (omega arith);
      }
    where
      go : (x : ℕ) → x < k + 1 → Dec (x ≡ k) → at (set T k v) x ≡ f x
      go x l (yes n) = ap (at (set T k v)) n ∙ get_or-set_same T k v 0 h ∙ e ∙ ap f (sym n)
      go x l (no n) = get_or-set_other T k x v 0 n ∙ s.done x (omega arith)

  pub in-place-whole : InPlace f T₀ T k → length T ≤ k → T ≡ tab (length T₀) f
  in-place-whole s h = sym (tab-at (length T₀) f T s.whole (λ x l. sym (s.done x (omega (arith, s.whole)))))
