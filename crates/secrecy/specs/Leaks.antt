-- When a pair of coalition and observer leaks: by literal counts of source keys, with no condition on ranks. Once as a test by finite search, and
-- once as a record that names what the search finds.
use Rattle.std.specs.Prelude.{ℕ, zero, suc, ◌+◌, ◌*◌, ◌≤◌, ◌<◌, ◌≡◌, ◌≢◌, Bool, not, ◌&&◌, ◌||◌, List, T, eqb}
use Rattle.lists.specs.Search.{any_to, all_to}
use Rattle.matrices.specs.Linear.{Vector}
use Rattle.matrices.specs.Rank.{any_list, same_list}
use Rattle.secrecy.specs.Counts.{count}
use Rattle.lists.specs.Sums.{how_many}
use Rattle.secrecy.specs.Model.{Pool, users, in_coalition, in_cluster, in_either, reading, total, set_view, server_view, view}

-- "block length L from 1 to 64"
abbrev pub longest : ℕ
longest = 64

-- among all source keys of L positions, n symbols each, how many show s under the readings W
unfoldable pub keys_showing : (q n : ℕ) → (ℕ → List ℕ → List ℕ → List ℕ) → ℕ → List ℕ → List ℕ → ℕ
keys_showing q n see L W s = count q (L * n) (λ N. same_list (see L W N) s)

-- ---- as a test

-- two sets of m readings a position that agree, and a view, shown by some source key or by none, with unequal numbers
module _ (q m n : ℕ) (agrees : ℕ → List ℕ → List ℕ → Bool) (size : ℕ → ℕ) (see : ℕ → List ℕ → List ℕ → List ℕ) where
  -- in L positions
  unfoldable pub found_at : ℕ → Bool
  found_at L =
      any_list q (m * L) (λ W.
      any_list q (m * L) (λ W'.
      agrees L W W' && any_list q (size L) (λ s. not (eqb (keys_showing q n see L W s) (keys_showing q n see L W' s)))))

  -- for some L
  unfoldable pub found : Bool
  found = any_to longest (λ l. found_at (suc l))

module _ (P : Pool) where
  -- do two sets of readings agree on the coalition's members, and on the totals?
  unfoldable pub members_agree : ℕ → ℕ → List ℕ → List ℕ → Bool
  members_agree g L W W' = all_to (users P) (λ i. not (in_coalition g i) || all_to L (λ p. eqb (reading L W i p) (reading L W' i p)))

  unfoldable pub totals_agree : ℕ → List ℕ → List ℕ → Bool
  totals_agree L W W' = all_to L (λ p. eqb (total P L W p) (total P L W' p))

  -- as an observer asks
  abbrev pub agree : ℕ → ℕ → ℕ → List ℕ → List ℕ → Bool
  agree g zero L W W' = members_agree g L W W' && totals_agree L W W'
  agree g (suc u) L W W' = members_agree g L W W'

  -- how many symbols a view has: so many shown of each position, with the coalition's readings and keys
  abbrev pub places : ℕ → ℕ → ℕ → ℕ
  places shown g L = (shown + (how_many (users P) (in_coalition g) + how_many (users P) (in_coalition g))) * L

  -- what the users that b picks upload leaks, with a coalition
  abbrev pub set_leaks : (ℕ → Bool) → ℕ → Bool
  set_leaks b g = found P.q (users P) P.rate (members_agree g) (places (how_many (users P) b) g) (set_view P b g)

  -- what the relay sums leak
  abbrev pub sums_leak : ℕ → Bool
  sums_leak g = found P.q (users P) P.rate (agree g zero) (places P.clusters g) (server_view P g)

  -- the pair of coalition g and observer w leaks
  abbrev pub leaks : ℕ → ℕ → Bool
  leaks g zero = sums_leak g
  leaks g (suc u) = set_leaks (in_cluster P u) g

  -- the joint observer of two clusters leaks, with coalition g
  abbrev pub joint_leaks : ℕ → ℕ → ℕ → Bool
  joint_leaks u w g = set_leaks (in_either P u w) g

-- ---- as a record

-- L symbols below q for each of m users
abbrev pub Symbols : (q m L : ℕ) → List ℕ → Type 0
Symbols q m L W = Vector q (m * L) W

-- the same in so many positions alone
pub record Positions (q m many L : ℕ) (W : List ℕ) : Type 0 where
  pub many-are : L ≡ many
  pub symbols : Symbols q m L W

-- two sets of readings, among those in question, that agree and have unequal numbers for some view
pub record Leak (q n : ℕ) (readings : ℕ → List ℕ → Type 0) (agrees : ℕ → List ℕ → List ℕ → Type 0) (see : ℕ → List ℕ → List ℕ → List ℕ) : Type 0 where
  pub L : ℕ
  pub low : 1 ≤ L
  pub high : L ≤ longest
  pub W : List ℕ
  pub W' : List ℕ
  pub W-in : readings L W
  pub W'-in : readings L W'
  pub same : agrees L W W'
  pub s : List ℕ
  pub unequal : keys_showing q n see L W s ≢ keys_showing q n see L W' s

module _ (P : Pool) where
  -- two sets of readings agree on the coalition's members; and, for the server, on the totals
  pub record Agree (g L : ℕ) (W W' : List ℕ) : Type 0 where
    pub members : (i p : ℕ) → i < users P → T (in_coalition g i) → p < L → reading L W i p ≡ reading L W' i p

  pub record ServerAgree (g L : ℕ) (W W' : List ℕ) : Type 0 where
    pub coalition : Agree g L W W'
    pub totals : (p : ℕ) → p < L → total P L W p ≡ total P L W' p

  abbrev pub Agrees : ℕ → ℕ → ℕ → List ℕ → List ℕ → Type 0
  Agrees g zero = ServerAgree g
  Agrees g (suc u) = Agree g

  -- the pair of coalition g and observer w leaks
  abbrev pub PairLeak : ℕ → ℕ → Type 0
  PairLeak g w = Leak P.q P.rate (Symbols P.q (users P)) (Agrees g w) (view P g w)

  -- so does the joint observer of clusters u and w, whose sets of readings agree on the coalition alone
  abbrev pub JointLeak : ℕ → ℕ → ℕ → Type 0
  JointLeak u w g = Leak P.q P.rate (Symbols P.q (users P)) (Agree g) (set_view P (in_either P u w) g)
