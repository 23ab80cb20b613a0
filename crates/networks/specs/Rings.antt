-- The counts of a cyclic network, and the refusals of its entries. Document 02, Q-13: "Order: 1, 22, 4, 2, 3, then 7 for the vet, 8 for an unlinked upload
-- or a roll bit outside K, last 23." The roll is `reported` here.
use Rattle.std.specs.Prelude.{ℕ, zero, suc, ◌+◌, ◌-◌, ◌*◌, ◌/◌, ◌%◌, ◌^◌, Bool, not, ◌&&◌, ◌||◌, List, [], ◌∷◌, ◌++◌, leb, ltb, eqb, length}
use Rattle.refusals.specs.declared.Code.{Code}
use Rattle.refusals.specs.Codes.{code, first_of, if_accepted}
use Rattle.lists.specs.Bits.{has_bit}
use Rattle.residues.specs.Primes.{is_prime, all_below}
use Rattle.lists.specs.Search.{all_to}
use Rattle.lists.specs.Lists.{at, tab}
use Rattle.lists.specs.Sums.{sum_to}
use Rattle.cyclic.specs.Network.{Network, link_of, linked, weight}
use Rattle.cyclic.specs.NetworkLeaks.{leaks}
use Rattle.cyclic.specs.Decoding.{decodable, decoded}
use Rattle.networks.specs.declared.Ring.{Ring}

-- the network of a ring, a key table and coefficients
abbrev pub network_of : Ring → List ℕ → List ℕ → Network
network_of R K A = record { size = R.size; links = R.links; parts = R.parts; rate = R.rate; q = R.q; table = K; weights = A }

-- ---- what every entry asks first: "K from 2 to 8", "n from 1 to 4", and R from 1 to 16 as in document 01

abbrev pub min_size : ℕ
min_size = 2

abbrev pub max_size : ℕ
max_size = 8

abbrev pub max_rate : ℕ
max_rate = 16

abbrev pub max_parts : ℕ
max_parts = 4

abbrev pub counts_fit : Ring → Bool
counts_fit R = leb min_size R.size && leb R.size max_size && leb 1 R.rate && leb R.rate max_rate

-- d from 1 to K
abbrev pub pattern_fits : Ring → Bool
pattern_fits R = leb 1 R.links && leb R.links R.size && leb 1 R.parts && leb R.parts max_parts

abbrev pub table_fits : Ring → List ℕ → Bool
table_fits R K = eqb (length K) (R.size * R.rate)

abbrev pub weights_fit : Ring → List ℕ → Bool
weights_fit R A = eqb (length A) (R.size * R.links * (R.parts + 1))

abbrev pub count_checks : Ring → List (Bool × Code)
count_checks R = (not (counts_fit R), code 1) ∷ (not (pattern_fits R), code 22) ∷ []

-- by whether the lengths are right, and whether all numbers are symbols
abbrev pub symbol_checks : ℕ → Bool → Bool → List (Bool × Code)
symbol_checks q lengths below = (not lengths, code 4) ∷ (not (is_prime q), code 2) ∷ (not below, code 3) ∷ []

-- ---- the vet: relays 1 to K, then the server

abbrev pub leak_at : Network → ℕ → Bool × Code
leak_at C w = (leaks C w, record { number = 7; first = 0; second = w })

-- the k relays from relay j on, and then the server
abbrev pub leak_checks : Network → ℕ → ℕ → List (Bool × Code)
leak_checks C zero j = leak_at C 0 ∷ []
leak_checks C (suc k) j = leak_at C (suc j) ∷ leak_checks C k (suc j)

abbrev pub network_checks : Ring → List ℕ → List ℕ → List (Bool × Code)
network_checks R K A = count_checks R ++ symbol_checks R.q (table_fits R K && weights_fit R A) (all_below R.q K && all_below R.q A)

abbrev pub vet_checks : Ring → List ℕ → List ℕ → List (Bool × Code)
vet_checks R K A = network_checks R K A ++ leak_checks (network_of R K A) R.size 0

-- ---- an upload of user k to relay j, both counted from 1, of the reading w and the key x

abbrev pub upload_checks : Ring → List ℕ → ℕ → ℕ → List ℕ → ℕ → List (Bool × Code)
upload_checks R A k j w x =
    (count_checks R ++ symbol_checks R.q (weights_fit R A && eqb (length w) R.parts) (all_below R.q A && all_below R.q w && ltb x R.q))
    ++ ((not (leb 1 k && leb k R.size && leb 1 j && leb j R.size && linked (network_of R [] []) (k - 1) (j - 1)), code 8) ∷ [])

-- on link l
unfoldable pub upload_of : Ring → List ℕ → ℕ → ℕ → List ℕ → ℕ → ℕ
upload_of R A k l w x =
    (sum_to R.parts (λ s. weight (network_of R [] A) k l s * at w s) + weight (network_of R [] A) k l R.parts * x) % R.q

abbrev pub uploaded : Ring → List ℕ → ℕ → ℕ → List ℕ → ℕ → ℕ
uploaded R A k j w x = upload_of R A (k - 1) (link_of (network_of R [] []) (k - 1) (j - 1)) w x

-- ---- the sum of a relay's uploads

abbrev pub sum_checks : Ring → List ℕ → List (Bool × Code)
sum_checks R U = count_checks R ++ symbol_checks R.q (eqb (length U) R.links) (all_below R.q U)

abbrev pub summed : Ring → List ℕ → ℕ
summed R U = sum_to R.links (λ l. at U l) % R.q

-- ---- decoding

-- the sums that have arrived are symbols; the others are not looked at
abbrev pub arrived_below : ℕ → ℕ → ℕ → List ℕ → Bool
arrived_below q k reported Y = all_to k (λ j. not (has_bit reported j) || ltb (at Y j) q)

-- what is lent has the right lengths, and its numbers are symbols
abbrev pub lent_fits : Ring → List ℕ → List ℕ → List ℕ → List ℕ → Bool
lent_fits R K A Y out = table_fits R K && weights_fit R A && eqb (length Y) R.size && eqb (length out) R.parts

abbrev pub lent_below : Ring → List ℕ → List ℕ → ℕ → List ℕ → Bool
lent_below R K A reported Y = all_below R.q K && all_below R.q A && arrived_below R.q R.size reported Y

abbrev pub arrival_checks : Ring → List ℕ → List ℕ → ℕ → List ℕ → List ℕ → List (Bool × Code)
arrival_checks R K A reported Y out =
    (count_checks R ++ symbol_checks R.q (lent_fits R K A Y out) (lent_below R K A reported Y)) ++ ((not (eqb (reported / 2 ^ R.size) 0), code 8) ∷ [])

abbrev pub decode_checks : Ring → List ℕ → List ℕ → ℕ → List ℕ → List ℕ → List (Bool × Code)
decode_checks R K A reported Y out = arrival_checks R K A reported Y out ++ ((not (decodable (network_of R K A) reported), code 23) ∷ [])

-- what stands in the buffer after the call
abbrev pub decoded_after : Ring → List ℕ → List ℕ → ℕ → List ℕ → List ℕ → List ℕ
decoded_after R K A reported Y out = if_accepted (first_of (decode_checks R K A reported Y out)) (tab R.parts (decoded (network_of R K A) reported Y)) out
