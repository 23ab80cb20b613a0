-- What a view of one round holds: where each user's or relay's block stands in it, and where what the coalition knows.
use Prim.Native.Nat.{ℕ, ◌*◌, ◌<◌}
use mathlib.Core.Path.{◌≡◌}
use mathlib.Core.Bool.{Bool, true}
use mathlib.Core.List.{List}
use lib.ListN.{take, drop}
use lib.Dec.{T}
use Rattle.lists.specs.Lists.{tab, picked}
use Rattle.lists.specs.Sums.{how_many}
use Rattle.lists.proofs.ListLaws.{length-tab}
use Rattle.secrecy.specs.Model.{Pool, users, upload, relay_sum, blocks, known, set_view, server_view}
use Rattle.secrecy.proofs.Pieces.{pick-part, pick-rest}

module _ (P : Pool) (g L : ℕ) (W N : List ℕ) where
  -- the uploads of the users that b picks
  pub set-block : (b : ℕ → Bool) (i : ℕ) → i < users P → T (b i) → take L (drop (how_many i b * L) (set_view P b g L W N)) ≡ tab L (upload P L W N i)
  unfolding set_view blocks
  set-block b i h t =
      pick-part L (λ i. tab L (upload P L W N i)) (λ i. length-tab L (upload P L W N i)) b (users P) (known P g L W N) i h t

  pub set_known : (b : ℕ → Bool) → drop (how_many (users P) b * L) (set_view P b g L W N) ≡ known P g L W N
  unfolding set_view blocks
  set_known b = pick-rest L (λ i. tab L (upload P L W N i)) (λ i. length-tab L (upload P L W N i)) b (users P) (known P g L W N)

  -- the relay sums
  pub server-block : (u : ℕ) → u < P.clusters → take L (drop (how_many u (λ _. true) * L) (server_view P g L W N)) ≡ tab L (relay_sum P L W N u)
  unfolding server_view picked
  server-block u h =
      pick-part L (λ u. tab L (relay_sum P L W N u)) (λ u. length-tab L (relay_sum P L W N u)) (λ _. true) P.clusters (known P g L W N) u h tt

  pub server-known : drop (how_many P.clusters (λ _. true) * L) (server_view P g L W N) ≡ known P g L W N
  unfolding server_view picked
  server-known = pick-rest L (λ u. tab L (relay_sum P L W N u)) (λ u. length-tab L (relay_sum P L W N u)) (λ _. true) P.clusters (known P g L W N)
