-- Each user on several relays (document 02, Q-13). The promises of `vet`, `upload`, `relay_sum` and `decode` (networks) are `vet_checks`, `upload_checks` with
-- `uploaded`, `sum_checks` with `summed`, and `decode_checks` with `decoded_after`. The definitions count users, relays, links and symbols from 0 and the entries
-- users and relays from 1; the papers' meter, gateway, desk, gang, watcher, sight and roll are user, relay, server, coalition, observer, view and `reported`.
use Rattle.std.specs.Prelude.{ℕ, zero, suc, ◌-◌, ◌^◌, ◌≤◌, ◌<◌, ◌≡◌, ◌≢◌, ◌⊎◌, ◌↔◌, Bool, true, false, List, [], ◌∷◌, map, T, length}
use Rattle.refusals.specs.declared.Code.{Code}
use Rattle.refusals.specs.Codes.{code, accepted, first_of}
use Rattle.lists.specs.Bits.{has_bit}
use Rattle.lists.specs.Lists.{at, tab, picked}
use Rattle.matrices.specs.Linear.{Vector, comb}
use Rattle.secrecy.specs.Leaks.{keys_showing}
use Rattle.cyclic.specs.Network.{Network, symbols, relay_of, heard, link_of, linked, reading, key, upload, relay_sum, total, relay_view, view}
use Rattle.cyclic.specs.NetworkLeaks.{Agrees, ObserverLeak}
use Rattle.cyclic.specs.Decoding.{columns, relay_row, total_row, kept, kept_rows}
use Rattle.networks.specs.declared.Ring.{Ring}
use Rattle.networks.specs.Rings.{network_of, counts_fit, pattern_fits, network_checks, vet_checks, upload_checks, uploaded, sum_checks, summed}
use Rattle.networks.specs.Rings.{arrival_checks, decode_checks, decoded_after}

-- ---- links

-- the relay before j, around
abbrev pub relay_before : ℕ → ℕ → ℕ
relay_before size zero = size - 1
relay_before size (suc j) = j

module _ (C : Network) where
  -- "meter k speaks to gateways k, k − 1 and so on, d of them, wrapping from 1 to K.": its first link leads to relay k, each other to the relay before that of
  -- the link before it; and a user and a relay are linked where one of the d links leads there
  abbrev pub LinksGoRound : Type 0
  LinksGoRound =
      (k : ℕ) → k < C.size
      → (relay_of C k 0 ≡ k) × ((l : ℕ) → suc l < C.size → relay_of C k (suc l) ≡ relay_before C.size (relay_of C k l))

  abbrev pub LinkedIff : Type 0
  LinkedIff =
      C.links ≤ C.size → (k j : ℕ) → k < C.size → j < C.size → T (linked C k j) ↔ ((l : ℕ) × (l < C.links) × (relay_of C k l ≡ j))

  -- "for its gateways in that order": the coefficients of an upload from k to j are those of the link that `link_of` says, which is the one that leads there;
  -- and on link l relay j hears the user whose link l leads to it
  abbrev pub LinksMeet : Type 0
  LinksMeet =
      (k j l : ℕ) → k < C.size → j < C.size → l < C.size
      → ((relay_of C k l ≡ j) ↔ (link_of C k j ≡ l)) × ((relay_of C k l ≡ j) ↔ (heard C j l ≡ k))

-- ---- orders

abbrev pub numbers : List (Bool × Code) → List ℕ
numbers = map (λ check. check.1.number)

module _ (R : Ring) (K A : List ℕ) where
  -- "Order: 1, 22, 4, 2, 3, then 7 for the vet, 8 for an unlinked upload or a roll bit outside K, last 23.": 7 once for each relay and once for the server
  abbrev pub InOrder : Type 0
  InOrder =
      (numbers (network_checks R K A) ≡ 1 ∷ 22 ∷ 4 ∷ 2 ∷ 3 ∷ [])
      × (numbers (vet_checks R K A) ≡ 1 ∷ 22 ∷ 4 ∷ 2 ∷ 3 ∷ tab (suc R.size) (λ _. 7))
      × ((k g : ℕ) (w : List ℕ) (x : ℕ) → numbers (upload_checks R A k g w x) ≡ 1 ∷ 22 ∷ 4 ∷ 2 ∷ 3 ∷ 8 ∷ [])
      × ((U : List ℕ) → numbers (sum_checks R U) ≡ 1 ∷ 22 ∷ 4 ∷ 2 ∷ 3 ∷ [])
      × ((reported : ℕ) (Y out : List ℕ) → numbers (decode_checks R K A reported Y out) ≡ 1 ∷ 22 ∷ 4 ∷ 2 ∷ 3 ∷ 8 ∷ 23 ∷ [])

  -- "Rows need not sum to zero, so 6 isn't given."
  abbrev pub NoSix : Type 0
  NoSix = (first_of (vet_checks R K A)).number ≢ 6

  -- "22 when d is outside 1 to K or n outside 1 to 4": where K and R are within their bounds, and whatever else is wrong; by each of the four
  abbrev pub WrongPattern : Type 0
  WrongPattern =
      counts_fit R ≡ true → pattern_fits R ≡ false
      → (first_of (vet_checks R K A) ≡ code 22)
      × ((k g : ℕ) (w : List ℕ) (x : ℕ) → first_of (upload_checks R A k g w x) ≡ code 22)
      × ((U : List ℕ) → first_of (sum_checks R U) ≡ code 22)
      × ((reported : ℕ) (Y out : List ℕ) → first_of (decode_checks R K A reported Y out) ≡ code 22)

-- ---- the vet

module _ (R : Ring) (K A : List ℕ) where
  -- the first observer that leaks: relays 1 to K in this order, and then the server, which is 0
  pub record FirstLeak (w : ℕ) : Type 0 where
    pub observer : w ≤ R.size
    pub leak : ObserverLeak (network_of R K A) w
    pub before : (v : ℕ) → 1 ≤ v → v ≤ R.size → (w ≡ 0) ⊎ (v < w) → ¬ (ObserverLeak (network_of R K A) v)

  -- "Here the sights are a gateway's uploads and the desk's K sums, without a gang; 7 is judged on these alone, the desk's pairs agreeing on all n totals": an
  -- accepted network has equal numbers of source keys for every observer and view
  abbrev pub NetworkHides : Type 0
  NetworkHides =
      accepted ≡ first_of (vet_checks R K A) → (w : ℕ) → w ≤ R.size
      → (W W' : List ℕ) → Vector R.q (symbols (network_of R K A)) W → Vector R.q (symbols (network_of R K A)) W' → Agrees (network_of R K A) w W W'
      → (s : List ℕ)
      → keys_showing R.q R.rate (λ _. view (network_of R K A) w) 1 W s ≡ keys_showing R.q R.rate (λ _. view (network_of R K A) w) 1 W' s

  -- refused as leaking exactly where some observer leaks
  abbrev pub RefusedIffLeaks : Type 0
  RefusedIffLeaks =
      accepted ≡ first_of (network_checks R K A)
      → ◌≡◌ {A = ℕ} (first_of (vet_checks R K A)).number 7 ↔ ((w : ℕ) × (w ≤ R.size) × ObserverLeak (network_of R K A) w)

  -- "and names gang 0 and the first watcher, gateways before the desk"
  abbrev pub NamesFirstObserver : Type 0
  NamesFirstObserver =
      accepted ≡ first_of (network_checks R K A)
      → (w : ℕ) → (first_of (vet_checks R K A) ≡ record { number = 7; first = 0; second = w }) ↔ FirstLeak w

-- ---- uploads and sums

module _ (R : Ring) (K A : List ℕ) (W N : List ℕ) where
  -- "A lent list gives, meter by meter and for its gateways in that order, n coefficients for the reading and one for the key; an upload is that combination."
  -- What user k is given for relay g, from its reading and its key, is the network's upload; and where they are linked it is not refused
  abbrev pub UploadsAre : Type 0
  UploadsAre =
      accepted ≡ first_of (network_checks R K A) → Vector R.q (symbols (network_of R K A)) W
      → (k g : ℕ) → 1 ≤ k → k ≤ R.size → 1 ≤ g → g ≤ R.size → T (linked (network_of R K A) (k - 1) (g - 1))
      → (accepted ≡ first_of (upload_checks R A k g (tab R.parts (reading (network_of R K A) W (k - 1))) (key (network_of R K A) N (k - 1))))
      × (uploaded R A k g (tab R.parts (reading (network_of R K A) W (k - 1))) (key (network_of R K A) N (k - 1))
      ≡ upload (network_of R K A) W N (k - 1) (link_of (network_of R K A) (k - 1) (g - 1)))

  -- "A gateway adds its uploads."
  abbrev pub SumsAre : Type 0
  SumsAre =
      accepted ≡ first_of (network_checks R K A) → (j : ℕ)
      → (accepted ≡ first_of (sum_checks R (relay_view (network_of R K A) j W N)))
      × (summed R (relay_view (network_of R K A) j W N) ≡ relay_sum (network_of R K A) W N j)

-- ---- decoding

-- some coefficients, one for each relay that is kept, make of their rows the row of total symbol s, in which all else cancels
pub record Combination (C : Network) (reported s : ℕ) : Type 0 where
  pub with : List ℕ
  pub valid : Vector C.q (length (kept_rows C reported)) with
  pub makes : comb C.q (columns C) with (kept_rows C reported) ≡ total_row C s

-- the sums of the relays that have arrived are those of the readings W and the source key N; in the other places any numbers may stand
pub record Arrived (C : Network) (reported : ℕ) (W N Y : List ℕ) : Type 0 where
  pub many : length Y ≡ C.size
  pub sums : (j : ℕ) → j < C.size → T (has_bit reported j) → at Y j ≡ relay_sum C W N j

-- two sets of readings and source keys have the same sums at all relays that have arrived, and differ in total symbol s
pub record Undecided (C : Network) (reported : ℕ) : Type 0 where
  pub W : List ℕ
  pub N : List ℕ
  pub W' : List ℕ
  pub N' : List ℕ
  pub readings : Vector C.q (symbols C) W × Vector C.q (symbols C) W'
  pub sources : Vector C.q C.rate N × Vector C.q C.rate N'
  pub same : (j : ℕ) → j < C.size → T (has_bit reported j) → relay_sum C W N j ≡ relay_sum C W' N' j
  pub s : ℕ
  pub one : s < C.parts
  pub other : total C W s ≢ total C W' s

module _ (R : Ring) (K A : List ℕ) (reported : ℕ) where
  -- "The desk gets a roll of arrived gateways and K sums, and looks only at the arrived.": other numbers in the places of the others change neither the answer
  -- nor the buffer
  abbrev pub LooksOnlyAtArrived : Type 0
  LooksOnlyAtArrived =
      (Y Y' out : List ℕ) → length Y ≡ length Y' → ((j : ℕ) → T (has_bit reported j) → at Y j ≡ at Y' j)
      → (first_of (decode_checks R K A reported Y out) ≡ first_of (decode_checks R K A reported Y' out))
      × (decoded_after R K A reported Y out ≡ decoded_after R K A reported Y' out)

  -- "gives all n total symbols when each is a combination of the rest in which all other readings and source symbols cancel": then what it writes are the
  -- totals of the readings, for all readings and source keys
  abbrev pub GivesTotals : Type 0
  GivesTotals =
      accepted ≡ first_of (network_checks R K A) → reported < 2 ^ R.size → ((s : ℕ) → s < R.parts → Combination (network_of R K A) reported s)
      → (W N Y out : List ℕ) → Arrived (network_of R K A) reported W N Y → length out ≡ R.parts
      → (accepted ≡ first_of (decode_checks R K A reported Y out)) × (decoded_after R K A reported Y out ≡ tab R.parts (total (network_of R K A) W))

  -- and whenever it writes, it writes these
  abbrev pub WritesTotals : Type 0
  WritesTotals =
      (W N Y out : List ℕ) → accepted ≡ first_of (decode_checks R K A reported Y out) → Arrived (network_of R K A) reported W N Y
      → decoded_after R K A reported Y out ≡ tab R.parts (total (network_of R K A) W)

  -- "gives all n total symbols when each is a combination of the rest": whatever symbols have arrived, what it writes for total symbol s is the combination
  -- of the kept relays' sums that makes of their rows the row of that total
  abbrev pub WritesCombination : Type 0
  WritesCombination =
      (Y out : List ℕ) → accepted ≡ first_of (arrival_checks R K A reported Y out) → (c : (s : ℕ) → s < R.parts → Combination (network_of R K A) reported s)
      → (let sums : List (List ℕ) = picked R.size (kept (network_of R K A) reported) (λ j. (at Y j ∷ []) ∷ []) in
      (accepted ≡ first_of (decode_checks R K A reported Y out)) × (length (decoded_after R K A reported Y out) ≡ R.parts)
      × ((s : ℕ) (b : s < R.parts) → at (decoded_after R K A reported Y out) s ≡ at (comb R.q 1 (c s b).with sums) 0))

  -- the combination is the only one
  abbrev pub OneCombination : Type 0
  OneCombination =
      accepted ≡ first_of (network_checks R K A) → (s : ℕ) (c d : Combination (network_of R K A) reported s) → c.with ≡ d.with

  -- "It leaves out each that depends on those of lower arrived gateways": relay j is kept just where it has arrived and no coefficients, one for each lower
  -- arrived relay, make its row of theirs
  abbrev pub LeavesOutDependent : Type 0
  LeavesOutDependent =
      accepted ≡ first_of (network_checks R K A) → (j : ℕ) → j < R.size
      → (let rows : List (List ℕ) = picked j (has_bit reported) (λ i. relay_row (network_of R K A) i ∷ []) in
      T (kept (network_of R K A) reported j)
      ↔ (T (has_bit reported j)
      × (¬ ((cs : List ℕ) × (length cs ≡ length rows) × (comb R.q (columns (network_of R K A)) cs rows ≡ relay_row (network_of R K A) j)))))

  -- which leaves nothing out that could be had from all that arrived
  abbrev pub LeavingOut : Type 0
  LeavingOut =
      accepted ≡ first_of (network_checks R K A) → (s : ℕ) → s < R.parts
      → (let rows : List (List ℕ) = picked R.size (has_bit reported) (λ j. relay_row (network_of R K A) j ∷ []) in
      Combination (network_of R K A) reported s
      ↔ ((cs : List ℕ) × (length cs ≡ length rows) × (comb R.q (columns (network_of R K A)) cs rows ≡ total_row (network_of R K A) s)))

  -- "23 when some total symbol is no such combination": exactly then, of what nothing else refuses
  abbrev pub RefusedIffNone : Type 0
  RefusedIffNone =
      (Y out : List ℕ) → accepted ≡ first_of (arrival_checks R K A reported Y out)
      → ◌≡◌ {A = ℕ} (first_of (decode_checks R K A reported Y out)).number 23
      ↔ ((s : ℕ) × (s < R.parts) × (¬ (Combination (network_of R K A) reported s)))

  -- and exactly where nobody could
  abbrev pub NobodyCould : Type 0
  NobodyCould =
      (Y out : List ℕ)
      → ◌≡◌ {A = ℕ} (first_of (decode_checks R K A reported Y out)).number 23
      ↔ ((accepted ≡ first_of (arrival_checks R K A reported Y out)) × Undecided (network_of R K A) reported)

  -- more relays arriving never turns totals into 23
  abbrev pub MoreArrive : Type 0
  MoreArrive =
      (more : ℕ) → ((j : ℕ) → j < R.size → T (has_bit reported j) → T (has_bit more j)) → (Y Y' out : List ℕ)
      → accepted ≡ first_of (decode_checks R K A reported Y out) → accepted ≡ first_of (arrival_checks R K A more Y' out)
      → accepted ≡ first_of (decode_checks R K A more Y' out)
