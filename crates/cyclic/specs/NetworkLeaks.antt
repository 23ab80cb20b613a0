-- When an observer of the cyclic network leaks: by literal counts of source keys, with no condition on ranks. Document 02, Q-13: "Here the sights are a
-- gateway's uploads and the desk's K sums, without a gang; 7 is judged on these alone, the desk's pairs agreeing on all n totals". There is one position.
use Rattle.std.specs.Prelude.{ℕ, zero, suc, ◌<◌, ◌≡◌, Bool, true, List, eqb}
use Rattle.lists.specs.Search.{all_to}
use Rattle.secrecy.specs.Leaks.{Leak, Positions, found_at}
use Rattle.cyclic.specs.Network.{Network, symbols, total, view}

module _ (C : Network) where
  -- ---- as a record

  -- two sets of readings agree on all n totals
  pub record SameTotals (W W' : List ℕ) : Type 0 where
    pub totals : (s : ℕ) → s < C.parts → total C W s ≡ total C W' s

  -- the server's readings agree on the totals, a relay's need not agree on anything
  abbrev pub Agrees : ℕ → List ℕ → List ℕ → Type 0
  Agrees zero W W' = SameTotals W W'
  Agrees (suc j) W W' = Unit {0}

  abbrev pub ObserverLeak : ℕ → Type 0
  ObserverLeak w = Leak C.q C.rate (Positions C.q (symbols C) 1) (λ _. Agrees w) (λ _. view C w)

  -- ---- as a test

  abbrev pub agree : ℕ → List ℕ → List ℕ → Bool
  agree zero W W' = all_to C.parts (λ s. eqb (total C W s) (total C W' s))
  agree (suc j) W W' = true

  -- how many symbols a view has
  abbrev pub places : ℕ → ℕ
  places zero = C.size
  places (suc j) = C.links

  unfoldable pub leaks : ℕ → Bool
  leaks w = found_at C.q (symbols C) C.rate (λ _. agree w) (λ _. places w) (λ _. view C w) 1
