-- Request Q-12 at the small pool: a day of relay 1 and one of the server, of two rounds, with what is seen of each; and days that differ and may not be told
-- apart. Then a day of signed readings, at a pool whose q leaves room for a cap.
use Prim.Native.Nat.{ℕ, zero, suc, ◌+◌, ◌%◌, ◌<◌}
use mathlib.Core.Path.{◌≡◌, refl, sym}
use mathlib.Core.Bool.{Bool}
use mathlib.Core.List.{List, [], ◌∷◌, map}
use native.Mathlib.Omega.{arith}
use lib.Dec.{T, eqb}
use lib.IntN.{ℤ, pos, negsuc}
use lib.ListN.{length, get_or}
use Rattle.refusals.specs.Codes.{code, accepted}
use Rattle.lists.specs.Bits.{has_bit}
use Rattle.lists.specs.Lists.{at, tab, join_to, picked}
use Rattle.lists.specs.Search.{all_to}
use Rattle.lists.specs.Sums.{sum_to, how_many}
use Rattle.residues.specs.Primes.{is_prime, all_below}
use Rattle.residues.proofs.PrimeLaws.{below_at}
use Rattle.matrices.specs.Tables.{pivot_of, crossed, cleared, each_row, eliminated_from, pivots_from}
use Rattle.secrecy.specs.Model.{Pool, column_sum, in_coalition, reading, key, upload, total, blocks, known, view}
use Rattle.secrecy.specs.Counts.{count}
use Rattle.secrecy.specs.Leaks.{Symbols, Agree, ServerAgree}
use Rattle.plans.specs.Plans.{plan}
use Rattle.vetting.specs.Pools.{pool_of}
use Rattle.vetting.specs.Walk.{pairs_with, observers}
use Rattle.vetting.specs.Vet.{vet_code}
use Rattle.vetting.specs.Walking.{cluster_sum, base_table, members_from, reduced_by, dependent, outsider_mask, tested_mask, first_hit}
use Rattle.vetting.proofs.VetLaws.{walk_code}
use Rattle.rounds.specs.Ledger.{frame, named, bits_of, counted_at}
use Rattle.rounds.specs.Relays.{heard, moves, asks}
use Rattle.signed.specs.Numbers.{symbol_of, signed_reading}
use Rattle.signed.specs.Caps.{all_in_cap}
use Rattle.signed.specs.SignedLeaks.{SignedAgree, SignedServerAgree, Capped}
use Rattle.days.specs.Runs.{Run, Lengths, seen_of, sent_in}
use Rattle.days.specs.Machines.{Machine, Entry, sends, calls, replies}
use Rattle.days.specs.Observers.{RelayCall, opens, event, ServerCall, begins, counts, gives, machine_of}
use Rattle.days.specs.Days.{DayView, day_view, signed_day_view, runs_showing}
use Rattle.demands.proofs.WholeDay.{equal-days, signed-equal-days}
use Rattle.cases.proofs.SmallPool.{rows, accepts}

abbrev pool : Pool
pool = pool_of (plan 2 2 1 3 5) rows

-- rounds 7 and 8, of one position
abbrev run : Run
run = record { rounds = 2; number = λ k. 7 + k; length = λ k. 1 }

-- the readings of document 01 in round 7, and the source key (1,2,3); others in round 8
abbrev readings : ℕ → List ℕ
readings zero = 3 ∷ 4 ∷ 0 ∷ 2 ∷ []
readings (suc k) = 1 ∷ 3 ∷ 0 ∷ 2 ∷ []

abbrev keys : List ℕ
keys = 1 ∷ 2 ∷ 3 ∷ 1 ∷ 0 ∷ 2 ∷ []

-- ---- relay 1

abbrev schedule : List (Entry RelayCall)
schedule =
    calls (event (asks (9 ∷ [])))
    ∷ calls (opens 7 65)
    ∷ calls (opens 7 1)
    ∷ sends 1 2
    ∷ sends 1 2
    ∷ calls (event moves)
    ∷ sends 0 1
    ∷ sends 0 1
    ∷ sends 0 3
    ∷ calls (event (asks (9 ∷ [])))
    ∷ calls (event (heard (frame 2 7 (4 ∷ 4 ∷ []))))
    ∷ calls (event (heard (frame 2 7 (5 ∷ []))))
    ∷ sends 0 2
    ∷ calls (event (asks (9 ∷ 9 ∷ [])))
    ∷ calls (event (asks (9 ∷ [])))
    ∷ calls (event moves)
    ∷ sends 0 1
    ∷ sends 1 1
    ∷ calls (event (asks (9 ∷ [])))
    ∷ []

-- the uploads 4 and 1 of document 01 in round 7, and 2 and 2 in round 8: what was called, and what was replied
pub relay-day : (day_view pool run 1 schedule (known pool 8) readings keys).1
    ≡ record {
      made = event (asks (9 ∷ []))
          ∷ opens 7 65
          ∷ opens 7 1
          ∷ event (heard (frame 2 8 (2 ∷ [])))
          ∷ event (heard (frame 2 8 (2 ∷ [])))
          ∷ event moves
          ∷ event (heard (frame 1 7 (4 ∷ [])))
          ∷ event (heard (frame 1 7 (4 ∷ [])))
          ∷ event (heard (frame 3 7 []))
          ∷ event (asks (9 ∷ []))
          ∷ event (heard (frame 2 7 (4 ∷ 4 ∷ [])))
          ∷ event (heard (frame 2 7 (5 ∷ [])))
          ∷ event (heard (frame 2 7 (1 ∷ [])))
          ∷ event (asks (9 ∷ 9 ∷ []))
          ∷ event (asks (9 ∷ []))
          ∷ event moves
          ∷ event (heard (frame 1 7 (4 ∷ [])))
          ∷ event (heard (frame 1 8 (2 ∷ [])))
          ∷ event (asks (9 ∷ []))
          ∷ [];
      told = (code 1, 9 ∷ [])  -- no round is open
          ∷ (code 9, [])  -- a block of 65 symbols
          ∷ (accepted, [])
          ∷ (accepted, [])  -- user 2 is early, in round 8
          ∷ (code 11, [])  -- and resends
          ∷ (code 12, [])  -- moving on too early
          ∷ (accepted, [])
          ∷ (code 11, [])
          ∷ (code 8, [])  -- there is no user 3 in the cluster
          ∷ (code 12, 9 ∷ [])  -- sums too early
          ∷ (code 4, [])  -- two frames that are nobody's, too long and no symbol
          ∷ (code 3, [])
          ∷ (accepted, [])
          ∷ (code 4, 9 ∷ 9 ∷ [])
          ∷ (accepted, 0 ∷ [])
          ∷ (accepted, [])  -- on to round 8
          ∷ (code 14, [])  -- late
          ∷ (accepted, [])
          ∷ (accepted, 4 ∷ [])
          ∷ [];
    }
unfolding replies sent_in upload key reading sum_to tab is_prime all_below all_to has_bit named bits_of counted_at
relay-day = refl

-- beside it, with user 4 in the coalition, its reading and its key of each round
pub relay-knows : (day_view pool run 1 schedule (known pool 8) readings keys).0 ≡ (2 ∷ 0 ∷ []) ∷ (2 ∷ 2 ∷ []) ∷ []
unfolding seen_of known blocks picked join_to key reading sum_to tab has_bit
relay-knows = refl

-- ---- the server, which does not move on: it is opened again

abbrev server-schedule : List (Entry ServerCall)
server-schedule =
    calls (begins 7 1)
    ∷ calls (gives (9 ∷ []))
    ∷ sends 0 2
    ∷ sends 0 2
    ∷ sends 1 1
    ∷ sends 0 3
    ∷ sends 0 1
    ∷ calls (gives (9 ∷ []))
    ∷ calls (begins 8 1)
    ∷ sends 0 1
    ∷ sends 1 1
    ∷ sends 1 2
    ∷ calls (gives (9 ∷ []))
    ∷ []

-- the relay sums 0 and 4 of document 01 with total 4; in round 8 4 and 2, with total 1
pub server-day : (day_view pool run 0 server-schedule (known pool 8) readings keys).1
    ≡ record {
      made = begins 7 1
          ∷ gives (9 ∷ [])
          ∷ counts (frame 2 7 (4 ∷ []))
          ∷ counts (frame 2 7 (4 ∷ []))
          ∷ counts (frame 1 8 (4 ∷ []))
          ∷ counts (frame 3 7 [])
          ∷ counts (frame 1 7 (0 ∷ []))
          ∷ gives (9 ∷ [])
          ∷ begins 8 1
          ∷ counts (frame 1 7 (0 ∷ []))
          ∷ counts (frame 1 8 (4 ∷ []))
          ∷ counts (frame 2 8 (2 ∷ []))
          ∷ gives (9 ∷ [])
          ∷ [];
      told = (accepted, [])
          ∷ (code 12, 9 ∷ [])  -- sums too early
          ∷ (accepted, [])
          ∷ (code 11, [])  -- resent
          ∷ (code 14, [])  -- early: the server holds nothing ahead
          ∷ (code 8, [])  -- there is no relay 3
          ∷ (accepted, [])
          ∷ (accepted, 4 ∷ [])
          ∷ (accepted, [])
          ∷ (code 14, [])  -- late
          ∷ (accepted, [])
          ∷ (accepted, [])
          ∷ (accepted, 1 ∷ [])
          ∷ [];
    }
unfolding replies sent_in upload key reading sum_to tab is_prime all_below all_to has_bit named bits_of counted_at
server-day = refl

-- ---- another day: user 4, who is the coalition (number 8), has the same readings, and each round has the same total; nothing else is the same

abbrev others : ℕ → List ℕ
others zero = 0 ∷ 1 ∷ 1 ∷ 2 ∷ []
others (suc k) = 4 ∷ 1 ∷ 4 ∷ 2 ∷ []

symbols-of : (l : List ℕ) → length l ≡ 4 → T (all_below 5 l) → Symbols 5 4 1 l
symbols-of l e t = record { size = e; small = λ i h. below_at 5 l (omega arith) t i }

-- of each of the two rounds
each-round : (Q : ℕ → Type 0) → Q 0 → Q 1 → (k : ℕ) → k < 2 → Q k
each-round Q x y zero h = x
each-round Q x y (suc zero) h = y
each-round Q x y (suc (suc k)) h = absurd (omega arith)

members-same : (W W' : List ℕ) → reading 1 W 3 0 ≡ reading 1 W' 3 0 → Agree pool 8 1 W W'
unfolding has_bit
members-same W W' e = record { members = go }
  where
    go : (i p : ℕ) → i < 4 → T (in_coalition 8 i) → p < 1 → reading 1 W i p ≡ reading 1 W' i p
    go zero p h t l = absurd t
    go (suc zero) p h t l = absurd t
    go (suc (suc zero)) p h t l = absurd t
    go (suc (suc (suc zero))) zero h t l = e
    go (suc (suc (suc zero))) (suc p) h t l = absurd (omega arith)
    go (suc (suc (suc (suc i)))) p h t l = absurd (omega arith)

totals-same : (W W' : List ℕ) → reading 1 W 3 0 ≡ reading 1 W' 3 0 → total pool 1 W 0 ≡ total pool 1 W' 0 → ServerAgree pool 8 1 W W'
totals-same W W' e f = record { coalition = members-same W W' e; totals = go }
  where
    go : (p : ℕ) → p < 1 → total pool 1 W p ≡ total pool 1 W' p
    go zero l = f
    go (suc p) l = absurd (omega arith)

lengths : Lengths run
lengths = record { low = λ k h. omega arith; high = λ k h. omega arith }

-- to relay 1
pub relay-alike : (test : DayView (machine_of pool 1) → Bool)
    → runs_showing pool run (day_view pool run 1 schedule (view pool 8 1) readings) test
    ≡ runs_showing pool run (day_view pool run 1 schedule (view pool 8 1) others) test
unfolding all_below reading how_many sum_to has_bit
relay-alike test =
    (equal-days (plan 2 2 1 3 5) rows (sym accepts) 8 1 (record { users = omega arith; few = omega arith; observer = omega arith }) run lengths schedule test
    readings others
    (record {
      symbols = each-round (λ k. Symbols 5 4 1 (readings k)) (symbols-of (readings 0) refl tt) (symbols-of (readings 1) refl tt);
      symbols' = each-round (λ k. Symbols 5 4 1 (others k)) (symbols-of (others 0) refl tt) (symbols-of (others 1) refl tt);
      same = each-round (λ k. Agree pool 8 1 (readings k) (others k)) (members-same (readings 0) (others 0) refl) (members-same (readings 1) (others 1) refl);
    })
    ).1

-- and to the server
pub server-alike : (test : DayView (machine_of pool 0) → Bool)
    → runs_showing pool run (day_view pool run 0 server-schedule (view pool 8 0) readings) test
    ≡ runs_showing pool run (day_view pool run 0 server-schedule (view pool 8 0) others) test
unfolding all_below reading total how_many sum_to has_bit
server-alike test =
    (equal-days (plan 2 2 1 3 5) rows (sym accepts) 8 0 (record { users = omega arith; few = omega arith; observer = omega arith }) run lengths
    server-schedule test readings others
    (record {
      symbols = each-round (λ k. Symbols 5 4 1 (readings k)) (symbols-of (readings 0) refl tt) (symbols-of (readings 1) refl tt);
      symbols' = each-round (λ k. Symbols 5 4 1 (others k)) (symbols-of (others 0) refl tt) (symbols-of (others 1) refl tt);
      same = each-round (λ k. ServerAgree pool 8 1 (readings k) (others k)) (totals-same (readings 0) (others 0) refl refl)
          (totals-same (readings 1) (others 1) refl refl);
    })
    ).1

-- ---- signed readings: two relays of one user each, q 17 and cap 4

abbrev signed-pool : Pool
signed-pool = pool_of (plan 2 1 0 1 17) (1 ∷ 16 ∷ [])

signed-accepts : vet_code (plan 2 1 0 1 17) (1 ∷ 16 ∷ []) ≡ accepted
unfolding is_prime all_to all_below column_sum sum_to tab pairs_with observers picked join_to how_many has_bit first_hit dependent base_table cluster_sum members_from
    reduced_by outsider_mask tested_mask pivot_of crossed cleared each_row eliminated_from pivots_from
signed-accepts = sym (walk_code (plan 2 1 0 1 17) (1 ∷ 16 ∷ []) refl)

-- −3 and 4 in round 7, −4 and −4 in round 8; and a day with the same totals
abbrev signed-readings : ℕ → List ℤ
signed-readings zero = negsuc 2 ∷ pos 4 ∷ []
signed-readings (suc k) = negsuc 3 ∷ negsuc 3 ∷ []

abbrev signed-others : ℕ → List ℤ
signed-others zero = pos 0 ∷ pos 1 ∷ []
signed-others (suc k) = negsuc 3 ∷ negsuc 3 ∷ []

-- under the source symbols 5 and 1 the server hears 2 and 16, and then 14 and 12: the totals 1 and 9, which are shown as 1 and −8
pub signed-day : (signed_day_view (plan 2 1 0 1 17) (1 ∷ 16 ∷ []) run 0
    (calls (begins 7 1) ∷ sends 0 1 ∷ sends 0 2 ∷ calls (gives (0 ∷ [])) ∷ calls (begins 8 1) ∷ sends 1 2 ∷ sends 1 1 ∷ calls (gives (0 ∷ [])) ∷ [])
    (known signed-pool 0) signed-readings (5 ∷ 1 ∷ [])).1.told
    ≡ (accepted, []) ∷ (accepted, []) ∷ (accepted, []) ∷ (accepted, 1 ∷ []) ∷ (accepted, []) ∷ (accepted, []) ∷ (accepted, []) ∷ (accepted, 9 ∷ []) ∷ []
unfolding replies sent_in key sum_to tab is_prime all_below all_to has_bit named bits_of counted_at
signed-day = refl

nobody : (L : ℕ) (R R' : List ℤ) → SignedAgree signed-pool 0 L R R'
unfolding has_bit
nobody L R R' = record { members = go }
  where
    go : (i p : ℕ) → i < 2 → T (in_coalition 0 i) → p < L → signed_reading L R i p ≡ signed_reading L R' i p
    go zero p h t l = absurd t
    go (suc zero) p h t l = absurd t
    go (suc (suc i)) p h t l = absurd (omega arith)

signed_same : (R R' : List ℤ) → total signed-pool 1 (map (symbol_of 17) R) 0 ≡ total signed-pool 1 (map (symbol_of 17) R') 0
    → SignedServerAgree signed-pool 0 1 R R'
signed_same R R' e = record { coalition = nobody 1 R R'; totals = go }
  where
    go : (p : ℕ) → p < 1 → total signed-pool 1 (map (symbol_of 17) R) p ≡ total signed-pool 1 (map (symbol_of 17) R') p
    go zero l = e
    go (suc p) l = absurd (omega arith)

pub signed-alike : (schedule : List (Entry ServerCall)) (test : DayView (machine_of signed-pool 0) → Bool)
    → runs_showing signed-pool run (signed_day_view (plan 2 1 0 1 17) (1 ∷ 16 ∷ []) run 0 schedule (view signed-pool 0 0) signed-readings) test
    ≡ runs_showing signed-pool run (signed_day_view (plan 2 1 0 1 17) (1 ∷ 16 ∷ []) run 0 schedule (view signed-pool 0 0) signed-others) test
unfolding all_in_cap reading total how_many sum_to has_bit
signed-alike schedule test =
    (signed-equal-days (plan 2 1 0 1 17) (1 ∷ 16 ∷ []) 4 refl (sym signed-accepts) 0 0
    (record { users = omega arith; few = omega arith; observer = omega arith }) run lengths schedule test signed-readings signed-others
    (record {
      capped = each-round (λ k. Capped signed-pool 4 1 (signed-readings k)) (record { size = refl; inside = tt }) (record { size = refl; inside = tt });
      capped' = each-round (λ k. Capped signed-pool 4 1 (signed-others k)) (record { size = refl; inside = tt }) (record { size = refl; inside = tt });
      same = each-round (λ k. SignedServerAgree signed-pool 0 1 (signed-readings k) (signed-others k)) (signed_same (signed-readings 0) (signed-others 0) refl)
          (signed_same (signed-readings 1) (signed-others 1) refl);
    })
    ).1

-- ---- what is asked of the days is needed: where it fails, a stated thing has unequal numbers

-- two relays of one user each, q 3, and one round
abbrev tiny : Pool
tiny = pool_of (plan 2 1 0 1 3) (1 ∷ 2 ∷ [])

abbrev one : Run
one = record { rounds = 1; number = λ k. 7; length = λ k. 1 }

-- the first symbol that call c, from 0, gave out
abbrev given : {M : Machine} → ℕ → DayView M → ℕ
given c v = at (get_or v.1.told c (accepted, [])).1 0

-- on the total: the server sees it
abbrev total-0 : (ℕ → List ℕ) → ℕ
total-0 W =
    runs_showing tiny one
    (day_view tiny one 0 (calls (begins 7 1) ∷ sends 0 1 ∷ sends 0 2 ∷ calls (gives (9 ∷ [])) ∷ []) (known tiny 0) W)
    (λ v. eqb (given {M = machine_of tiny 0} 3 v) 0)

pub totals-tell : (total-0 (λ k. 0 ∷ 0 ∷ []) ≡ 3) × (total-0 (λ k. 1 ∷ 0 ∷ []) ≡ 0)
unfolding runs_showing count replies sent_in seen_of known blocks picked join_to upload key reading sum_to tab is_prime all_below all_to has_bit named bits_of counted_at
totals-tell = (refl, refl)

-- a coalition within the limit: here it is 0, and user 2, whose key is twice user 1's, tells relay 1 the reading of user 1
abbrev reading-0 : (ℕ → List ℕ) → ℕ
reading-0 W =
    runs_showing tiny one (day_view tiny one 1 (calls (opens 7 1) ∷ sends 0 1 ∷ calls (event (asks (9 ∷ []))) ∷ []) (known tiny 2) W)
    (λ v. eqb ((given {M = machine_of tiny 1} 2 v + at (get_or v.0 0 []) 1) % 3) 0)

pub coalition-tells : (reading-0 (λ k. 0 ∷ 0 ∷ []) ≡ 3) × (reading-0 (λ k. 1 ∷ 0 ∷ []) ≡ 0)
unfolding runs_showing count replies sent_in seen_of known blocks picked join_to upload key reading sum_to tab is_prime all_below all_to has_bit named bits_of counted_at
coalition-tells = (refl, refl)
