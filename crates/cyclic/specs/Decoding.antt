-- What the server makes of the sums that arrive. Document 02, Q-13: "It leaves out each that depends on those of lower arrived gateways, and gives all n
-- total symbols when each is a combination of the rest in which all other readings and source symbols cancel."
use Rattle.std.specs.Prelude.{ℕ, zero, suc, ◌+◌, ◌*◌, ◌/◌, ◌%◌, Bool, cond, not, ◌&&◌, List, [], ◌∷◌, ◌++◌, eqb, length}
use Rattle.lists.specs.Bits.{has_bit}
use Rattle.lists.specs.Search.{all_to}
use Rattle.lists.specs.Lists.{at, zeros, tab, picked}
use Rattle.matrices.specs.Linear.{comb}
use Rattle.matrices.specs.Rank.{any_list, same_list, in_span}
use Rattle.lists.specs.Sums.{sum_to}
use Rattle.cyclic.specs.Network.{Network, symbols, heard, link_of, linked, weight}

-- ---- a choice

-- the last number below n at which f is true, 0 where there is none
unfoldable pub chosen : ℕ → (ℕ → Bool) → ℕ
chosen zero f = 0
chosen (suc n) f = cond (f n) n (chosen n f)

-- a list of n numbers below q with the property, where there is one
unfoldable pub chosen_list : ℕ → ℕ → (List ℕ → Bool) → List ℕ
chosen_list q zero p = []
chosen_list q (suc n) p =
    let x : ℕ = chosen q (λ x. any_list q n (λ l. p (x ∷ l))) in
    x ∷ chosen_list q n (λ l. p (x ∷ l))

module _ (C : Network) where
  -- ---- rows: a coefficient for each reading symbol, and then one for each source symbol

  abbrev pub columns : ℕ
  columns = symbols C + C.rate

  -- the sum of relay j as a row
  unfoldable pub on_reading : ℕ → ℕ → ℕ → ℕ
  on_reading j k s = cond (linked C k j) (weight C k (link_of C k j) s) 0

  unfoldable pub on_source : ℕ → ℕ → ℕ
  on_source j r = sum_to C.links (λ l. weight C (heard C j l) l C.parts * at C.table (heard C j l * C.rate + r)) % C.q

  unfoldable pub relay_row : ℕ → List ℕ
  relay_row j = tab (symbols C) (λ c. on_reading j (c / C.parts) (c % C.parts)) ++ tab C.rate (on_source j)

  -- total symbol s as a row: symbol s of every user, and nothing else
  unfoldable pub total_row : ℕ → List ℕ
  total_row s = tab (symbols C) (λ c. cond (eqb (c % C.parts) s) 1 0) ++ zeros C.rate

  -- ---- by who has reported: the relays that have arrived

  module _ (reported : ℕ) where
    -- an arrived relay that does not depend on lower arrived ones
    unfoldable pub kept : ℕ → Bool
    kept j = has_bit reported j && not (in_span C.q columns (picked j (has_bit reported) (λ i. relay_row i ∷ [])) (relay_row j))

    unfoldable pub kept_rows : List (List ℕ)
    kept_rows = picked C.size kept (λ j. relay_row j ∷ [])

    -- each total symbol is a combination of those
    unfoldable pub decodable : Bool
    decodable = all_to C.parts (λ s. in_span C.q columns kept_rows (total_row s))

    -- the coefficients of total symbol s, of which there is one list; and the same combination of the sums Y
    unfoldable pub coefficients : ℕ → List ℕ
    coefficients s = chosen_list C.q (length kept_rows) (λ cs. same_list (comb C.q columns cs kept_rows) (total_row s))

    unfoldable pub decoded : List ℕ → ℕ → ℕ
    decoded Y s = at (comb C.q 1 (coefficients s) (picked C.size kept (λ j. (at Y j ∷ []) ∷ []))) 0
