-- The walk (document 01): "gang by gang in rising number, the empty gang first, and inside a gang by gateways 1 to U and then the desk".
use Rattle.std.specs.Prelude.{ℕ, suc, ◌*◌, ◌^◌, ◌≤◌, ◌<◌, ◌≡◌, List, [], ◌∷◌, ◌++◌, map, leb}
use Rattle.lists.specs.Lists.{All, tab, picked}
use Rattle.lists.specs.Sums.{how_many}
use Rattle.secrecy.specs.Model.{in_coalition}
use Rattle.plans.specs.declared.Plan.{Plan}
use Rattle.plans.specs.Plans.{users_of}
use Rattle.vetting.specs.declared.Pair.{Pair}

-- 1 to U, then 0 for the server
unfoldable pub observers : ℕ → List ℕ
observers clusters = tab clusters suc ++ (0 ∷ [])

-- U clusters of V users and a limit T: every coalition of at most T of the users, with each of some observers
unfoldable pub pairs_with : List ℕ → ℕ → ℕ → ℕ → List Pair
pairs_with watching clusters size limit =
    picked (2 ^ (clusters * size)) (λ g. leb (how_many (clusters * size) (in_coalition g)) limit)
    (λ g. map (λ w. record { coalition = g; observer = w }) watching)

-- with every observer
abbrev pub pairs : ℕ → ℕ → ℕ → List Pair
pairs clusters size limit = pairs_with (observers clusters) clusters size limit

-- the same said of one pair: a coalition of at most T of the users, and an observer, which is 0 or a relay's number
pub record InWalk (P : Plan) (g w : ℕ) : Type 0 where
  pub users : g < 2 ^ users_of P
  pub few : how_many (users_of P) (in_coalition g) ≤ P.limit
  pub observer : w ≤ P.clusters

-- p is the first pair of the list that has the property
pub record First (Q : Pair → Type 0) (l : List Pair) (p : Pair) : Type 0 where
  pub before : List Pair
  pub after : List Pair
  pub split : l ≡ before ++ (p ∷ after)
  pub none : All (λ x. ¬ (Q x)) before
  pub here : Q p
