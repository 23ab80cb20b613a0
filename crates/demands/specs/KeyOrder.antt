-- Keys in the document's order (document 02, Q-4). The sum so far is `sum_so_far` of secrecy, and of user i in position p `key_so_far`; dealing's promise is
-- `keys_after`, which names it, and the promise of the one step of the code (keys, `add_product`) is that from the sum after k products it makes that after k +
-- 1.
use Rattle.std.specs.Prelude.{ℕ, ◌+◌, ◌*◌, ◌%◌, ◌<◌, ◌≡◌, not, ◌&&◌, List, [], ◌∷◌, ◌++◌, eqb, length}
use Rattle.refusals.specs.Codes.{code, accepted, first_of, if_accepted}
use Rattle.residues.specs.Primes.{all_below}
use Rattle.lists.specs.Lists.{at, tab, join_to}
use Rattle.lists.specs.Sums.{sum_to}
use Rattle.secrecy.specs.Model.{Pool, key, key_so_far}
use Rattle.plans.specs.declared.Plan.{Plan}
use Rattle.plans.specs.Plans.{users_of, length_fits}
use Rattle.vetting.specs.Pools.{pool_of}
use Rattle.vetting.specs.Vet.{vet_checks}
use Rattle.keys.specs.Keys.{key_code, keys_after}

module _ (P : Plan) (K : List ℕ) (L : ℕ) (N out : List ℕ) where
  -- "form each dealt key as the document writes it: meter by meter, the products of a row with the source symbols from the first to the last. The dealing's
  -- promise names that sum": the key of user i in position p stands at index i L + p, and is the sum after all R products
  abbrev pub KeysAreSums : Type 0
  KeysAreSums =
      accepted ≡ key_code P K L N out → (i p : ℕ) → i < users_of P → p < L
      → at (keys_after P K L N out) (i * L + p) ≡ key_so_far (pool_of P K) N i p P.rate

  -- "Keys and refusals equal those from before, symbol for symbol.": by what was the definition of each before
  abbrev pub RefusalsAsBefore : Type 0
  RefusalsAsBefore =
      key_code P K L N out
      ≡ first_of
      (vet_checks P K
      ++ (not (length_fits L), code 9)
      ∷ (not (eqb (length N) (L * P.rate) && eqb (length out) (users_of P * L)), code 4)
      ∷ (not (all_below P.q N), code 3)
      ∷ [])

  abbrev pub KeysAsBefore : Type 0
  KeysAsBefore =
      keys_after P K L N out
      ≡ if_accepted (key_code P K L N out)
      (join_to (users_of P) (λ i. tab L (λ p. sum_to P.rate (λ k. at K (i * P.rate + k) * at N (p * P.rate + k)) % P.q))) out

-- so is the key that views and leaks speak of
abbrev pub KeyAsBefore : Type 0
KeyAsBefore =
    (P : Pool) (N : List ℕ) (i p : ℕ)
    → key P N i p ≡ sum_to P.rate (λ k. at P.table (i * P.rate + k) * at N (p * P.rate + k)) % P.q

-- "after each product the symbol held equals the document's sum so far modulo q": it is 0 at first, and the next product is added to it modulo q
abbrev pub SumGrows : Type 0
SumGrows =
    (P : Pool) (N : List ℕ) (i p : ℕ)
    → (key_so_far P N i p 0 ≡ 0)
    × ((k : ℕ) → key_so_far P N i p (k + 1) ≡ (key_so_far P N i p k + at P.table (i * P.rate + k) * at N (p * P.rate + k)) % P.q)
