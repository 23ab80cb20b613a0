-- What the private functions of the vet compute. Nothing here has to be believed: proofs tie it to the verdict.
-- The vet keeps a reduced table for each depth of a coalition: level k holds the key table, and the sums of its clusters below it, eliminated by the
-- rows of a coalition of k members.
use Rattle.std.specs.Prelude.{ℕ, zero, suc, ◌+◌, ◌-◌, ◌*◌, ◌/◌, ◌%◌, ◌^◌, Bool, cond, not, ◌&&◌, ◌||◌, List, [], ◌∷◌, ◌++◌, eqb, ltb, take, drop, Option, Some, None}
use Rattle.lists.specs.Lists.{at, tab, join_to, picked}
use Rattle.matrices.specs.Tables.{row_of, eliminated, pivots_from}
use Rattle.lists.specs.Sums.{sum_to, how_many}
use Rattle.secrecy.specs.Model.{in_coalition}
use Rattle.refusals.specs.declared.Code.{Code}
use Rattle.refusals.specs.Codes.{accepted}
use Rattle.plans.specs.declared.Plan.{Plan}
use Rattle.vetting.specs.declared.Pair.{Pair}
use Rattle.vetting.specs.declared.Walked.{Walked}
use Rattle.plans.specs.Plans.{users_of}
use Rattle.vetting.specs.Walk.{pairs_with}

-- ---- the table of level 0

unfoldable pub cluster_sum : ℕ → ℕ → ℕ → List ℕ → ℕ → ℕ → ℕ
cluster_sum q size rate K u k = sum_to size (λ v. at K ((u * size + v) * rate + k)) % q

unfoldable pub base_table : Plan → List ℕ → List ℕ
base_table P K = K ++ join_to P.clusters (λ u. tab P.rate (cluster_sum P.q P.size P.rate K u))

abbrev pub rows_in : Plan → ℕ
rows_in P = users_of P + P.clusters

-- ---- levels: each has room for the largest table, and there is one for each number of members, from 0 to 16

-- the users' rows, and the clusters' below them
abbrev pub most_rows : ℕ
most_rows = 24

-- 24 rows of 16 symbols
abbrev pub level_size : ℕ
level_size = 384

-- 17 levels
abbrev pub levels_size : ℕ
levels_size = 6528

abbrev pub level_at : ℕ → List ℕ → ℕ → List ℕ
level_at size L d = take size (drop (d * level_size) L)

-- the symbols of the levels up to k
abbrev pub through : ℕ → ℕ
through k = k * level_size + level_size

-- level k becomes level k - 1 eliminated by row i
abbrev pub descended : ℕ → ℕ → ℕ → ℕ → ℕ → List ℕ → List ℕ
descended q rows cols k i L =
    take (k * level_size) L ++ (eliminated q rows cols i (level_at (rows * cols) L (k - 1)) ++ drop (k * level_size + rows * cols) L)

-- the members of g among the k users from i on, rising
unfoldable pub members_from : ℕ → ℕ → ℕ → List ℕ
members_from zero i g = []
members_from (suc k) i g = cond (in_coalition g i) (i ∷ members_from k (i + 1) g) (members_from k (i + 1) g)

-- the table eliminated by the last of some rows, and so on to the first
unfoldable pub reduced_by : ℕ → ℕ → ℕ → List ℕ → List ℕ → List ℕ
reduced_by q rows cols [] T = T
reduced_by q rows cols (i ∷ is) T = eliminated q rows cols i (reduced_by q rows cols is T)

abbrev pub table_of : ℕ → ℕ → ℕ → List ℕ → ℕ → List ℕ
table_of q rows cols T g = reduced_by q rows cols (members_from 16 0 g) T

-- ---- the rows that an observer watches

-- those of a mask outside another
abbrev pub chosen : ℕ → ℕ → ℕ → Bool
chosen watch skip i = in_coalition watch i && not (in_coalition skip i)

-- do they depend on each other?
unfoldable pub dependent : ℕ → ℕ → ℕ → ℕ → ℕ → List ℕ → Bool
dependent q rows cols watch skip T =
    let n : ℕ = how_many rows (chosen watch skip) in
    not (eqb (pivots_from q n cols n 0 (picked rows (chosen watch skip) (row_of cols T))) n)

-- the users of cluster u
abbrev pub cluster_mask : ℕ → ℕ → ℕ
cluster_mask size u = (2 ^ size - 1) * 2 ^ (u * size)

-- has cluster u an outsider, a user outside the coalition?
abbrev pub outsider_in : ℕ → ℕ → ℕ → Bool
outsider_in size g u = not (eqb (g / 2 ^ (u * size) % 2 ^ size) (2 ^ size - 1))

-- the clusters below k that have an outsider, as bits; and those of them before the last
unfoldable pub outsider_mask : ℕ → ℕ → ℕ → ℕ
outsider_mask size g k = sum_to k (λ u. cond (outsider_in size g u) (2 ^ u) 0)

unfoldable pub tested_mask : ℕ → ℕ → ℕ → ℕ
tested_mask size g zero = 0
tested_mask size g (suc k) = cond (outsider_in size g k) (outsider_mask size g k) (tested_mask size g k)

-- the users below k that are in one of two clusters
unfoldable pub joint_mask : ℕ → ℕ → ℕ → ℕ → ℕ
joint_mask size a b k = sum_to k (λ i. cond (eqb (i / size) a || eqb (i / size) b) (2 ^ i) 0)

-- the rows of observer w: of the server, 0, sums of clusters, of relay w the users of its cluster, and of the joint observer, whose number comes after the
-- relays', the users of a mask
abbrev pub watch_mask : ℕ → ℕ → ℕ → ℕ → ℕ → ℕ
watch_mask clusters size both g zero = tested_mask size g clusters * 2 ^ (clusters * size)
watch_mask clusters size both g (suc u) = cond (ltb u clusters) (cluster_mask size u) both

-- ---- the walk

-- do the rows that w watches, outside g, depend on each other over the rows of g?
abbrev pub hit : Plan → ℕ → List ℕ → ℕ → ℕ → Bool
hit P both T g w =
    dependent P.q (rows_in P) P.rate (watch_mask P.clusters P.size both g w) g (table_of P.q (rows_in P) P.rate T g)

-- what a walk found, and how many pairs it looked at
abbrev pub walk : Option Pair → ℕ → Walked
walk found looked = record { found = found; looked = looked }

-- the first hit of a list, n pairs after the walk began
unfoldable pub first_hit : (ℕ → ℕ → Bool) → ℕ → List Pair → Walked
first_hit f n [] = walk None n
first_hit f n (p ∷ l) = cond (f p.coalition p.observer) (walk (Some p) (n + 1)) (first_hit f (n + 1) l)

-- a walk with some observers
abbrev pub walked : Plan → ℕ → List ℕ → List ℕ → Walked
walked P both watching T = first_hit (hit P both T) 0 (pairs_with watching P.clusters P.size P.limit)

-- the code of what the walk with the joint observer finds
abbrev pub joint_found : Option Pair → Code
joint_found (Some p) = record { number = 19; first = p.coalition; second = 0 }
joint_found None = accepted

-- the code of what the walk finds
abbrev pub found_code : Option Pair → Code
found_code (Some p) = record { number = 7; first = p.coalition; second = p.observer }
found_code None = accepted
