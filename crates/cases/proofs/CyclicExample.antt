-- The worked example of source document 004, section IV A: K 5, d 3, n 2, R 3, q 13. (13) and (17) print 3 for the second coefficient of the upload of user 2
-- to relay 1; the example's own combination matrices hold with 10. With 10 nothing leaks, any four of the five sums give the totals and no fewer do, and the
-- matrices' rows are what the definition finds. As it is printed the server leaks.
use Prim.Native.Nat.{ℕ, suc, ◌+◌, ◌*◌, ◌<◌}
use mathlib.Core.Path.{◌≡◌, refl, sym, ap, ap₂, ◌∙◌, subst}
use mathlib.Core.Bool.{Bool, true, false, cond, not, ◌&&◌}
use mathlib.Core.List.{List, [], ◌∷◌, ◌++◌}
use native.Mathlib.Nat.{zero-add}
use lib.Dec.{T, eqb, ltb, leb, lit<, lit≤}
use lib.ListN.{length}
use Rattle.refusals.specs.Codes.{first_of, accepted}
use Rattle.lists.specs.Bits.{has_bit}
use Rattle.lists.specs.Lists.{tab, join_to, picked}
use Rattle.lists.specs.Search.{all_to}
use Rattle.lists.specs.Sums.{sum_to, how_many}
use Rattle.lists.proofs.Searches.{all-at, true→T}
use Rattle.residues.specs.Primes.{Prime, is_prime, all_below}
use Rattle.residues.proofs.PrimeLaws.{test-prime, below_at}
use Rattle.matrices.specs.Linear.{comb}
use Rattle.matrices.specs.Tables.{row_of, pivots_from, eliminated_from, pivot_of, crossed, cleared, each_row}
use Rattle.matrices.specs.Sweeps.{swept_table}
use Rattle.cyclic.specs.Network.{Network, relay_of, heard, link_of, linked, weight}
use Rattle.cyclic.specs.NetworkLeaks.{leaks}
use Rattle.cyclic.specs.Decoding.{on_reading, on_source, relay_row, total_row, kept, kept_rows, decodable, coefficients}
use Rattle.cyclic.proofs.DecodingLaws.{coefficients-only}
use Rattle.networks.specs.declared.Ring.{Ring}
use Rattle.networks.specs.Rings.{network_of, vet_checks}
use Rattle.networks.specs.Machine.{Counted, Ready}
use Rattle.networks.specs.Grids.{upload_entry, relay_entry, total_entry, grid_of}
use Rattle.networks.proofs.RingLaws.{sound}
use Rattle.networks.proofs.LeakLaws.{grid-rank, ranks-decide}
use Rattle.networks.proofs.DecodeLaws.{decodable-swept, kept-swept}

abbrev example_ring : Ring
example_ring = record { size = 5; links = 3; parts = 2; rate = 3; q = 13 }

-- (11)
abbrev example_table : List ℕ
example_table = 1 ∷ 0 ∷ 0 ∷ 0 ∷ 1 ∷ 0 ∷ 0 ∷ 0 ∷ 1 ∷ 1 ∷ 2 ∷ 4 ∷ 11 ∷ 10 ∷ 8 ∷ []

-- (12) to (16): user by user, for its relays k, k - 1 and k - 2; x stands for the second coefficient of the upload of user 2 to relay 1
abbrev example_weights : ℕ → List ℕ
example_weights x =
    1 ∷ 10 ∷ 1 ∷ 3 ∷ 3 ∷ 3 ∷ 11 ∷ 0 ∷ 11
    ∷ 2 ∷ 0 ∷ 2 ∷ 3 ∷ x ∷ 3 ∷ 1 ∷ 3 ∷ 1
    ∷ 1 ∷ 3 ∷ 1 ∷ 6 ∷ 12 ∷ 6 ∷ 6 ∷ 6 ∷ 6
    ∷ 3 ∷ 3 ∷ 3 ∷ 11 ∷ 0 ∷ 11 ∷ 10 ∷ 3 ∷ 10
    ∷ 6 ∷ 7 ∷ 6 ∷ 7 ∷ 12 ∷ 7 ∷ 1 ∷ 10 ∷ 1 ∷ []

counted : Counted example_ring
counted =
    record {
      size_low = lit≤ tt;
      size-high = lit≤ tt;
      rate-low = lit≤ tt;
      rate-high = lit≤ tt;
      links-low = lit≤ tt;
      links-high = lit≤ tt;
      parts_low = lit≤ tt;
      parts-high = lit≤ tt;
    }

prime : Prime 13
unfolding is_prime all_to
prime = test-prime 13 tt

ready : (x : ℕ) → T (all_below 13 (example_weights x)) → Ready example_ring example_table (example_weights x)
unfolding all_below
ready x t = record { counted = counted; prime = prime; table = refl; weights = refl; table_below = tt; weights-below = t }

ready-mended : Ready example_ring example_table (example_weights 10)
unfolding all_below
ready-mended = ready 10 tt

ready-printed : Ready example_ring example_table (example_weights 3)
unfolding all_below
ready-printed = ready 3 tt

abbrev mended : Network
mended = network_of example_ring example_table (example_weights 10)

abbrev printed : Network
printed = network_of example_ring example_table (example_weights 3)

-- ---- links, by the example: user 1 on relays 1, 5 and 4, user 2 on 2, 1 and 5, and so on; counted from 0 here

abbrev relays_of : ℕ → List ℕ
relays_of k = tab 3 (relay_of mended k)

pub links : tab 5 relays_of ≡ (0 ∷ 4 ∷ 3 ∷ []) ∷ (1 ∷ 0 ∷ 4 ∷ []) ∷ (2 ∷ 1 ∷ 0 ∷ []) ∷ (3 ∷ 2 ∷ 1 ∷ []) ∷ (4 ∷ 3 ∷ 2 ∷ []) ∷ []
unfolding tab relay_of
links = refl

-- ---- the ranks, by computation

-- how many pivots elimination counts in a grid
pivots : (x w first from rows width : ℕ) → ℕ
pivots x w first from rows width = pivots_from 13 rows width rows 0 (grid_of (network_of example_ring example_table (example_weights x)) w first from (rows * width))

module _ (x : ℕ) (r : Ready example_ring example_table (example_weights x)) where
  -- a relay: three uploads of 13 numbers, and their source parts of 3
  relay-verdict : (j a b : ℕ) → pivots x (suc j) 0 0 3 13 ≡ a → pivots x (suc j) 0 10 3 3 ≡ b
      → leaks (network_of example_ring example_table (example_weights x)) (suc j) ≡ not (eqb a b)
  unfolding pivots
  relay-verdict j a b e f =
      sym (ranks-decide example_ring example_table (example_weights x) r (suc j))
      ∙ ap₂ (λ (m n : ℕ). not (eqb m (0 + n)))
      (sym (grid-rank example_ring example_table (example_weights x) r (suc j) 0 0 (lit< tt) 3 13 refl refl) ∙ e)
      (sym (grid-rank example_ring example_table (example_weights x) r (suc j) 0 10 (lit< tt) 3 3 refl refl) ∙ f)
      ∙ ap (λ (n : ℕ). not (eqb a n)) (zero-add b)

  -- the server: two totals and five sums, and the source parts of the sums
  server-verdict : (a b : ℕ) → pivots x 0 0 0 7 13 ≡ a → pivots x 0 2 10 5 3 ≡ b
      → leaks (network_of example_ring example_table (example_weights x)) 0 ≡ not (eqb a (2 + b))
  unfolding pivots
  server-verdict a b e f =
      sym (ranks-decide example_ring example_table (example_weights x) r 0)
      ∙ ap₂ (λ (m n : ℕ). not (eqb m (2 + n)))
      (sym (grid-rank example_ring example_table (example_weights x) r 0 0 0 (lit< tt) 7 13 refl refl) ∙ e)
      (sym (grid-rank example_ring example_table (example_weights x) r 0 2 10 (lit< tt) 5 3 refl refl) ∙ f)

mended-relay-1 : leaks mended 1 ≡ false
unfolding pivots pivots_from eliminated_from pivot_of crossed cleared each_row grid_of tab upload_entry relay_entry total_entry weight on_reading
    on_source
    linked link_of heard sum_to
mended-relay-1 = relay-verdict 10 ready-mended 0 3 3 refl refl

mended-relay-2 : leaks mended 2 ≡ false
unfolding pivots pivots_from eliminated_from pivot_of crossed cleared each_row grid_of tab upload_entry relay_entry total_entry weight on_reading
    on_source
    linked link_of heard sum_to
mended-relay-2 = relay-verdict 10 ready-mended 1 3 3 refl refl

mended-relay-3 : leaks mended 3 ≡ false
unfolding pivots pivots_from eliminated_from pivot_of crossed cleared each_row grid_of tab upload_entry relay_entry total_entry weight on_reading
    on_source
    linked link_of heard sum_to
mended-relay-3 = relay-verdict 10 ready-mended 2 3 3 refl refl

mended-relay-4 : leaks mended 4 ≡ false
unfolding pivots pivots_from eliminated_from pivot_of crossed cleared each_row grid_of tab upload_entry relay_entry total_entry weight on_reading
    on_source
    linked link_of heard sum_to
mended-relay-4 = relay-verdict 10 ready-mended 3 3 3 refl refl

mended-relay-5 : leaks mended 5 ≡ false
unfolding pivots pivots_from eliminated_from pivot_of crossed cleared each_row grid_of tab upload_entry relay_entry total_entry weight on_reading
    on_source
    linked link_of heard sum_to
mended-relay-5 = relay-verdict 10 ready-mended 4 3 3 refl refl

printed-relay-1 : leaks printed 1 ≡ false
unfolding pivots pivots_from eliminated_from pivot_of crossed cleared each_row grid_of tab upload_entry relay_entry total_entry weight on_reading
    on_source
    linked link_of heard sum_to
printed-relay-1 = relay-verdict 3 ready-printed 0 3 3 refl refl

printed-relay-2 : leaks printed 2 ≡ false
unfolding pivots pivots_from eliminated_from pivot_of crossed cleared each_row grid_of tab upload_entry relay_entry total_entry weight on_reading
    on_source
    linked link_of heard sum_to
printed-relay-2 = relay-verdict 3 ready-printed 1 3 3 refl refl

printed-relay-3 : leaks printed 3 ≡ false
unfolding pivots pivots_from eliminated_from pivot_of crossed cleared each_row grid_of tab upload_entry relay_entry total_entry weight on_reading
    on_source
    linked link_of heard sum_to
printed-relay-3 = relay-verdict 3 ready-printed 2 3 3 refl refl

printed-relay-4 : leaks printed 4 ≡ false
unfolding pivots pivots_from eliminated_from pivot_of crossed cleared each_row grid_of tab upload_entry relay_entry total_entry weight on_reading
    on_source
    linked link_of heard sum_to
printed-relay-4 = relay-verdict 3 ready-printed 3 3 3 refl refl

printed-relay-5 : leaks printed 5 ≡ false
unfolding pivots pivots_from eliminated_from pivot_of crossed cleared each_row grid_of tab upload_entry relay_entry total_entry weight on_reading
    on_source
    linked link_of heard sum_to
printed-relay-5 = relay-verdict 3 ready-printed 4 3 3 refl refl

mended-server : leaks mended 0 ≡ false
unfolding pivots pivots_from eliminated_from pivot_of crossed cleared each_row grid_of tab upload_entry relay_entry total_entry weight on_reading
    on_source
    linked link_of heard sum_to
mended-server = server-verdict 10 ready-mended 4 2 refl refl

printed-server : leaks printed 0 ≡ true
unfolding pivots pivots_from eliminated_from pivot_of crossed cleared each_row grid_of tab upload_entry relay_entry total_entry weight on_reading
    on_source
    linked link_of heard sum_to
printed-server = server-verdict 3 ready-printed 5 2 refl refl

-- ---- the verdicts

-- the vet accepts the example with 10
pub mended-accepted : first_of (vet_checks example_ring example_table (example_weights 10)) ≡ accepted
unfolding is_prime all_to all_below
mended-accepted = rw (mended-relay-1, mended-relay-2, mended-relay-3, mended-relay-4, mended-relay-5, mended-server)

-- and refuses it as it is printed: 7 0 0
pub printed-refused : first_of (vet_checks example_ring example_table (example_weights 3)) ≡ record { number = 7; first = 0; second = 0 }
unfolding is_prime all_to all_below
printed-refused = rw (printed-relay-1, printed-relay-2, printed-relay-3, printed-relay-4, printed-relay-5, printed-server)

-- ---- decoding

-- the rows of the totals and the sums, before and after a sweep by the first k relays of a roll
abbrev start : List ℕ
start = grid_of mended 0 0 0 (7 * 13)

abbrev after : ℕ → ℕ → List ℕ
after reported k = swept_table 13 7 13 2 (has_bit reported) start k

sweeps : ℕ → Bool
sweeps reported = all_to 2 (λ s. not (ltb (pivot_of (row_of 13 (after reported 5) s)) 13))

-- of all rolls the totals are decodable from just those on which at most one relay is missing
agrees : ℕ → Bool
agrees reported = cond (leb 4 (how_many 5 (has_bit reported))) (sweeps reported) (not (sweeps reported))

all-agree : all_to 32 agrees ≡ true
unfolding agrees sweeps how_many has_bit all_to swept_table eliminated_from pivot_of crossed cleared each_row grid_of tab relay_entry total_entry weight
    on_reading on_source linked link_of heard sum_to
all-agree = refl

turned : (a b : Bool) → T (cond a b (not b)) → b ≡ a
turned true true t = refl
turned true false t = absurd t
turned false true t = absurd t
turned false false t = refl

pub four-decode : (reported : ℕ) → reported < 32 → decodable mended reported ≡ leb 4 (how_many 5 (has_bit reported))
unfolding agrees sweeps
four-decode reported h =
    sym (decodable-swept example_ring example_table (example_weights 10) ready-mended reported [])
    ∙ turned (leb 4 (how_many 5 (has_bit reported))) (sweeps reported) (all-at 32 agrees (true→T (all_to 32 agrees) all-agree) reported h)

-- ---- which relays are kept

kept_test : ℕ → ℕ → Bool
kept_test reported j = has_bit reported j && ltb (pivot_of (row_of 13 (after reported j) (2 + j))) 13

kept-is : (reported j : ℕ) → j < 5 → kept mended reported j ≡ kept_test reported j
unfolding kept_test
kept-is reported j l = kept-swept example_ring example_table (example_weights 10) ready-mended reported [] j l

-- the rows that are kept of a roll, by what is kept of it
rows-kept : (reported : ℕ) (a b c d e : Bool) → kept_test reported 0 ≡ a → kept_test reported 1 ≡ b → kept_test reported 2 ≡ c → kept_test reported 3 ≡ d
    → kept_test reported 4 ≡ e → kept_rows mended reported
    ≡ (((cond a (relay_row mended 0 ∷ []) [] ++ cond b (relay_row mended 1 ∷ []) []) ++ cond c (relay_row mended 2 ∷ []) []) ++ cond d (relay_row mended 3 ∷ []) [])
    ++ cond e (relay_row mended 4 ∷ []) []
unfolding kept_rows picked join_to
rows-kept reported a b c d e ea eb ec ed ee =
    rw (
      kept-is reported 0 (lit< tt) ∙ ea,
      kept-is reported 1 (lit< tt) ∙ eb,
      kept-is reported 2 (lit< tt) ∙ ec,
      kept-is reported 3 (lit< tt) ∙ ed,
      kept-is reported 4 (lit< tt) ∙ ee,
    )

-- all four that have arrived
pub without-1-kept : kept_rows mended 30 ≡ relay_row mended 1 ∷ relay_row mended 2 ∷ relay_row mended 3 ∷ relay_row mended 4 ∷ []
unfolding kept_test has_bit swept_table eliminated_from pivot_of crossed cleared each_row grid_of tab relay_entry total_entry weight on_reading on_source
    linked link_of heard sum_to
without-1-kept = rows-kept 30 false true true true true refl refl refl refl refl

pub without-2-kept : kept_rows mended 29 ≡ relay_row mended 0 ∷ relay_row mended 2 ∷ relay_row mended 3 ∷ relay_row mended 4 ∷ []
unfolding kept_test has_bit swept_table eliminated_from pivot_of crossed cleared each_row grid_of tab relay_entry total_entry weight on_reading on_source
    linked link_of heard sum_to
without-2-kept = rows-kept 29 true false true true true refl refl refl refl refl

pub without-3-kept : kept_rows mended 27 ≡ relay_row mended 0 ∷ relay_row mended 1 ∷ relay_row mended 3 ∷ relay_row mended 4 ∷ []
unfolding kept_test has_bit swept_table eliminated_from pivot_of crossed cleared each_row grid_of tab relay_entry total_entry weight on_reading on_source
    linked link_of heard sum_to
without-3-kept = rows-kept 27 true true false true true refl refl refl refl refl

pub without-4-kept : kept_rows mended 23 ≡ relay_row mended 0 ∷ relay_row mended 1 ∷ relay_row mended 2 ∷ relay_row mended 4 ∷ []
unfolding kept_test has_bit swept_table eliminated_from pivot_of crossed cleared each_row grid_of tab relay_entry total_entry weight on_reading on_source
    linked link_of heard sum_to
without-4-kept = rows-kept 23 true true true false true refl refl refl refl refl

pub without-5-kept : kept_rows mended 15 ≡ relay_row mended 0 ∷ relay_row mended 1 ∷ relay_row mended 2 ∷ relay_row mended 3 ∷ []
unfolding kept_test has_bit swept_table eliminated_from pivot_of crossed cleared each_row grid_of tab relay_entry total_entry weight on_reading on_source
    linked link_of heard sum_to
without-5-kept = rows-kept 15 true true true true false refl refl refl refl refl

-- of all five relay 5 depends on the lower ones, and is left out
pub all-five-kept : kept_rows mended 31 ≡ relay_row mended 0 ∷ relay_row mended 1 ∷ relay_row mended 2 ∷ relay_row mended 3 ∷ []
unfolding kept_test has_bit swept_table eliminated_from pivot_of crossed cleared each_row grid_of tab relay_entry total_entry weight on_reading on_source
    linked link_of heard sum_to
all-five-kept = rows-kept 31 true true true true false refl refl refl refl refl

-- ---- the combination matrices C1 to C5: what the definition finds where one relay is missing

found : (reported s : ℕ) (rows : List (List ℕ)) (cs : List ℕ) → T (decodable mended reported) → s < 2 → kept_rows mended reported ≡ rows
    → length cs ≡ length rows → T (all_below 13 cs) → comb 13 13 cs rows ≡ total_row mended s → coefficients mended reported s ≡ cs
found reported s rows cs t b e size small makes =
    sym (coefficients-only mended (sound example_ring example_table (example_weights 10) ready-mended) reported t s b cs
    (record { size = size ∙ ap length (sym e); small = λ i l. below_at 13 cs (lit< tt) small i })
    (ap (comb 13 13 cs) e ∙ makes))

gives : (reported : ℕ) → reported < 32 → leb 4 (how_many 5 (has_bit reported)) ≡ true → T (decodable mended reported)
gives reported l e = subst T (sym (four-decode reported l ∙ e)) tt

pub without-1-total-1 : coefficients mended 30 0 ≡ 7 ∷ 11 ∷ 6 ∷ 0 ∷ []
unfolding how_many sum_to has_bit all_below relay_row total_row tab weight on_reading on_source linked link_of heard
without-1-total-1 =
    found 30 0 _ (7 ∷ 11 ∷ 6 ∷ 0 ∷ []) (gives 30 (lit< tt) refl) (lit< tt) without-1-kept refl tt refl

pub without-1-total-2 : coefficients mended 30 1 ≡ 2 ∷ 1 ∷ 7 ∷ 9 ∷ []
unfolding how_many sum_to has_bit all_below relay_row total_row tab weight on_reading on_source linked link_of heard
without-1-total-2 =
    found 30 1 _ (2 ∷ 1 ∷ 7 ∷ 9 ∷ []) (gives 30 (lit< tt) refl) (lit< tt) without-1-kept refl tt refl

pub without-2-total-1 : coefficients mended 29 0 ≡ 10 ∷ 6 ∷ 0 ∷ 10 ∷ []
unfolding how_many sum_to has_bit all_below relay_row total_row tab weight on_reading on_source linked link_of heard
without-2-total-1 =
    found 29 0 _ (10 ∷ 6 ∷ 0 ∷ 10 ∷ []) (gives 29 (lit< tt) refl) (lit< tt) without-2-kept refl tt refl

pub without-2-total-2 : coefficients mended 29 1 ≡ 1 ∷ 7 ∷ 9 ∷ 10 ∷ []
unfolding how_many sum_to has_bit all_below relay_row total_row tab weight on_reading on_source linked link_of heard
without-2-total-2 =
    found 29 1 _ (1 ∷ 7 ∷ 9 ∷ 10 ∷ []) (gives 29 (lit< tt) refl) (lit< tt) without-2-kept refl tt refl

pub without-3-total-1 : coefficients mended 27 0 ≡ 9 ∷ 2 ∷ 11 ∷ 9 ∷ []
unfolding how_many sum_to has_bit all_below relay_row total_row tab weight on_reading on_source linked link_of heard
without-3-total-1 =
    found 27 0 _ (9 ∷ 2 ∷ 11 ∷ 9 ∷ []) (gives 27 (lit< tt) refl) (lit< tt) without-3-kept refl tt refl

pub without-3-total-2 : coefficients mended 27 1 ≡ 2 ∷ 11 ∷ 11 ∷ 11 ∷ []
unfolding how_many sum_to has_bit all_below relay_row total_row tab weight on_reading on_source linked link_of heard
without-3-total-2 =
    found 27 1 _ (2 ∷ 11 ∷ 11 ∷ 11 ∷ []) (gives 27 (lit< tt) refl) (lit< tt) without-3-kept refl tt refl

pub without-4-total-1 : coefficients mended 23 0 ≡ 10 ∷ 0 ∷ 6 ∷ 10 ∷ []
unfolding how_many sum_to has_bit all_below relay_row total_row tab weight on_reading on_source linked link_of heard
without-4-total-1 =
    found 23 0 _ (10 ∷ 0 ∷ 6 ∷ 10 ∷ []) (gives 23 (lit< tt) refl) (lit< tt) without-4-kept refl tt refl

pub without-4-total-2 : coefficients mended 23 1 ≡ 3 ∷ 9 ∷ 6 ∷ 12 ∷ []
unfolding how_many sum_to has_bit all_below relay_row total_row tab weight on_reading on_source linked link_of heard
without-4-total-2 =
    found 23 1 _ (3 ∷ 9 ∷ 6 ∷ 12 ∷ []) (gives 23 (lit< tt) refl) (lit< tt) without-4-kept refl tt refl

pub without-5-total-1 : coefficients mended 15 0 ≡ 0 ∷ 7 ∷ 11 ∷ 6 ∷ []
unfolding how_many sum_to has_bit all_below relay_row total_row tab weight on_reading on_source linked link_of heard
without-5-total-1 =
    found 15 0 _ (0 ∷ 7 ∷ 11 ∷ 6 ∷ []) (gives 15 (lit< tt) refl) (lit< tt) without-5-kept refl tt refl

pub without-5-total-2 : coefficients mended 15 1 ≡ 4 ∷ 7 ∷ 12 ∷ 2 ∷ []
unfolding how_many sum_to has_bit all_below relay_row total_row tab weight on_reading on_source linked link_of heard
without-5-total-2 =
    found 15 1 _ (4 ∷ 7 ∷ 12 ∷ 2 ∷ []) (gives 15 (lit< tt) refl) (lit< tt) without-5-kept refl tt refl

-- with all five it finds those of C5; those of C1 to C4 are combinations of all five rows too
pub all-five-total-1 : coefficients mended 31 0 ≡ 0 ∷ 7 ∷ 11 ∷ 6 ∷ []
unfolding how_many sum_to has_bit all_below relay_row total_row tab weight on_reading on_source linked link_of heard
all-five-total-1 =
    found 31 0 _ (0 ∷ 7 ∷ 11 ∷ 6 ∷ []) (gives 31 (lit< tt) refl) (lit< tt) all-five-kept refl tt refl

pub all-five-total-2 : coefficients mended 31 1 ≡ 4 ∷ 7 ∷ 12 ∷ 2 ∷ []
unfolding how_many sum_to has_bit all_below relay_row total_row tab weight on_reading on_source linked link_of heard
all-five-total-2 =
    found 31 1 _ (4 ∷ 7 ∷ 12 ∷ 2 ∷ []) (gives 31 (lit< tt) refl) (lit< tt) all-five-kept refl tt refl

-- every row of the five matrices is a combination of all five relays' rows
abbrev allowed : List ℕ → ℕ → Type 0
allowed cs s = comb 13 13 cs (tab 5 (relay_row mended)) ≡ total_row mended s

pub matrix-1 : allowed (0 ∷ 7 ∷ 11 ∷ 6 ∷ 0 ∷ []) 0 × allowed (0 ∷ 2 ∷ 1 ∷ 7 ∷ 9 ∷ []) 1
unfolding sum_to relay_row total_row tab weight on_reading on_source linked link_of heard
matrix-1 = (refl, refl)

pub matrix-2 : allowed (10 ∷ 0 ∷ 6 ∷ 0 ∷ 10 ∷ []) 0 × allowed (1 ∷ 0 ∷ 7 ∷ 9 ∷ 10 ∷ []) 1
unfolding sum_to relay_row total_row tab weight on_reading on_source linked link_of heard
matrix-2 = (refl, refl)

pub matrix-3 : allowed (9 ∷ 2 ∷ 0 ∷ 11 ∷ 9 ∷ []) 0 × allowed (2 ∷ 11 ∷ 0 ∷ 11 ∷ 11 ∷ []) 1
unfolding sum_to relay_row total_row tab weight on_reading on_source linked link_of heard
matrix-3 = (refl, refl)

pub matrix-4 : allowed (10 ∷ 0 ∷ 6 ∷ 0 ∷ 10 ∷ []) 0 × allowed (3 ∷ 9 ∷ 6 ∷ 0 ∷ 12 ∷ []) 1
unfolding sum_to relay_row total_row tab weight on_reading on_source linked link_of heard
matrix-4 = (refl, refl)

pub matrix-5 : allowed (0 ∷ 7 ∷ 11 ∷ 6 ∷ 0 ∷ []) 0 × allowed (4 ∷ 7 ∷ 12 ∷ 2 ∷ 0 ∷ []) 1
unfolding sum_to relay_row total_row tab weight on_reading on_source linked link_of heard
matrix-5 = (refl, refl)
