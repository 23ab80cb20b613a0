-- The cyclic network: as many relays (gateways) as users (meters), each user on several relays. Document 02, Q-13: "meter k speaks to gateways k, k − 1
-- and so on, d of them, wrapping from 1 to K." Users, relays, links and symbols count from 0 here; observer 0 is the server (desk),
-- and observer j + 1 is relay j, the papers' gateway j + 1. There is one position: readings stand user by user, `parts` symbols each, and a source key has
-- `rate` symbols.
use Rattle.std.specs.Prelude.{ℕ, zero, suc, ◌+◌, ◌-◌, ◌*◌, ◌%◌, Bool, List, ltb}
use Rattle.lists.specs.Lists.{at, tab}
use Rattle.lists.specs.Sums.{sum_to}

-- K users and relays, d links a user, n symbols a reading, R source symbols, a prime q, a key table with a row of R symbols for each user, and the
-- coefficients: user by user and link by link, n for the reading and one for the key
pub record Network : Type 0 where
  pub size : ℕ
  pub links : ℕ
  pub parts : ℕ
  pub rate : ℕ
  pub q : ℕ
  pub table : List ℕ
  pub weights : List ℕ

module _ (C : Network) where
  -- how many reading symbols there are
  abbrev pub symbols : ℕ
  symbols = C.size * C.parts

  -- ---- links

  -- the relay to which link l of user k leads: k, k - 1 and so on, around
  unfoldable pub relay_of : ℕ → ℕ → ℕ
  relay_of k l = (k + (C.size - l)) % C.size

  -- the user whose link l leads to relay j
  unfoldable pub heard : ℕ → ℕ → ℕ
  heard j l = (j + l) % C.size

  -- the link of user k that would lead to relay j; they are linked where it is one of the user's
  unfoldable pub link_of : ℕ → ℕ → ℕ
  link_of k j = (k + (C.size - j)) % C.size

  unfoldable pub linked : ℕ → ℕ → Bool
  linked k j = ltb (link_of k j) C.links

  -- ---- what is sent

  -- the coefficient of link l of user k for symbol s of the reading; that for the key stands at s = n
  unfoldable pub weight : ℕ → ℕ → ℕ → ℕ
  weight k l s = at C.weights ((k * C.links + l) * (C.parts + 1) + s)

  -- symbol s of the reading of user k
  unfoldable pub reading : List ℕ → ℕ → ℕ → ℕ
  reading W k s = at W (k * C.parts + s)

  -- the key of user k: its row times the source symbols N
  unfoldable pub key : List ℕ → ℕ → ℕ
  key N k = sum_to C.rate (λ r. at C.table (k * C.rate + r) * at N r) % C.q

  -- what user k sends on link l
  unfoldable pub upload : List ℕ → List ℕ → ℕ → ℕ → ℕ
  upload W N k l = (sum_to C.parts (λ s. weight k l s * reading W k s) + weight k l C.parts * key N k) % C.q

  -- what relay j sends to the server
  unfoldable pub relay_sum : List ℕ → List ℕ → ℕ → ℕ
  relay_sum W N j = sum_to C.links (λ l. upload W N (heard j l) l) % C.q

  -- total symbol s of a set of readings
  unfoldable pub total : List ℕ → ℕ → ℕ
  total W s = sum_to C.size (λ k. reading W k s) % C.q

  -- ---- what is seen

  -- a relay's uploads
  unfoldable pub relay_view : ℕ → List ℕ → List ℕ → List ℕ
  relay_view j W N = tab C.links (λ l. upload W N (heard j l) l)

  -- all relay sums
  unfoldable pub server_view : List ℕ → List ℕ → List ℕ
  server_view W N = tab C.size (relay_sum W N)

  abbrev pub view : ℕ → List ℕ → List ℕ → List ℕ
  view zero = server_view
  view (suc j) = relay_view j
