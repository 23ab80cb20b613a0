-- The equations of source document 000, and what each observer sees. Users, clusters and positions count from 0; an observer is document 01's
-- number: 0 for the server (document 01: desk), u for relay u (gateway). Readings of L positions stand user by user, L symbols each; a source key
-- (key block) stands position by position, `rate` symbols each.
use Rattle.std.specs.Prelude.{ℕ, zero, suc, ◌+◌, ◌*◌, ◌/◌, ◌%◌, ◌<◌, ◌≡◌, Bool, ◌||◌, List, ◌++◌, eqb}
use Rattle.lists.specs.Bits.{has_bit}
use Rattle.lists.specs.Lists.{at, tab, join_to, picked}
use Rattle.lists.specs.Sums.{sum_to}

-- what the equations speak of: clusters of so many users (meters) each, a prime q, and a key table with a row of `rate` symbols for each user
pub record Pool : Type 0 where
  pub clusters : ℕ
  pub size : ℕ
  pub rate : ℕ
  pub q : ℕ
  pub table : List ℕ

-- is user i in the coalition (gang)? Its bit in the coalition's number
abbrev pub in_coalition : ℕ → ℕ → Bool
in_coalition g i = has_bit g i

-- the reading of user i in position p
unfoldable pub reading : ℕ → List ℕ → ℕ → ℕ → ℕ
reading L W i p = at W (i * L + p)

-- a row times symbols, the sum so far: the first k products, from the first on, modulo q
abbrev pub sum_so_far : ℕ → (ℕ → ℕ) → (ℕ → ℕ) → ℕ → ℕ
sum_so_far q row symbols k = sum_to k (λ j. row j * symbols j) % q

module _ (P : Pool) where
  abbrev pub users : ℕ
  users = P.clusters * P.size

  -- is user i in cluster u?
  unfoldable pub in_cluster : ℕ → ℕ → Bool
  in_cluster u i = eqb (i / P.size) u

  -- and in one of two clusters?
  unfoldable pub in_either : ℕ → ℕ → ℕ → Bool
  unfolding in_cluster
  in_either u w i = in_cluster u i || in_cluster w i

  -- the sum of column k of the key table; in a zero-sum table it is 0 for each column
  unfoldable pub column_sum : ℕ → ℕ
  column_sum k = sum_to users (λ i. at P.table (i * P.rate + k)) % P.q

  abbrev pub ZeroSum : Type 0
  ZeroSum = (k : ℕ) → k < P.rate → column_sum k ≡ 0

  -- ---- what is sent

  -- (22), the sum so far: user i's row times the symbols of position p in the source key N, after k products
  abbrev pub key_so_far : List ℕ → ℕ → ℕ → ℕ → ℕ
  key_so_far N i p k = sum_so_far P.q (λ j. at P.table (i * P.rate + j)) (λ j. at N (p * P.rate + j)) k

  -- (22): the key of user i in position p is that sum after all the products
  unfoldable pub key : List ℕ → ℕ → ℕ → ℕ
  key N i p = key_so_far N i p P.rate

  -- (25)
  unfoldable pub upload : ℕ → List ℕ → List ℕ → ℕ → ℕ → ℕ
  upload L W N i p = (reading L W i p + key N i p) % P.q

  -- (26)
  unfoldable pub relay_sum : ℕ → List ℕ → List ℕ → ℕ → ℕ → ℕ
  relay_sum L W N u p = sum_to P.size (λ v. upload L W N (u * P.size + v) p) % P.q

  -- the total of a set of readings in position p
  unfoldable pub total : ℕ → List ℕ → ℕ → ℕ
  total L W p = sum_to users (λ i. reading L W i p) % P.q

  -- ---- what is seen

  -- for each user that b picks, its L symbols
  unfoldable pub blocks : (ℕ → Bool) → ℕ → (ℕ → ℕ → ℕ) → List ℕ
  blocks b L f = picked users b (λ i. tab L (f i))

  -- the coalition's readings and keys
  unfoldable pub known : ℕ → ℕ → List ℕ → List ℕ → List ℕ
  known g L W N = blocks (in_coalition g) L (reading L W) ++ blocks (in_coalition g) L (key N)

  -- the uploads of the users that b picks, with what the coalition knows
  unfoldable pub set_view : (ℕ → Bool) → ℕ → ℕ → List ℕ → List ℕ → List ℕ
  set_view b g L W N = blocks b L (upload L W N) ++ known g L W N

  -- all relay sums, with what the coalition knows
  unfoldable pub server_view : ℕ → ℕ → List ℕ → List ℕ → List ℕ
  server_view g L W N = join_to P.clusters (λ u. tab L (relay_sum L W N u)) ++ known g L W N

  -- the view (sight) of an observer (watcher) with a coalition
  abbrev pub view : ℕ → ℕ → ℕ → List ℕ → List ℕ → List ℕ
  view g zero = server_view g
  view g (suc u) = set_view (in_cluster u) g
