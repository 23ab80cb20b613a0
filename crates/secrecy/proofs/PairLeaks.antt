-- When a pair of coalition and observer leaks. The test by search and the record agree; and the pair leaks nothing just where the rows that the
-- observer watches are independent over the coalition's, that is, where the ranks add up. The same of the uploads of any users, as the joint observer
-- of two clusters sees them.
use Prim.Native.Nat.{ℕ, zero, suc, ◌+◌, ◌*◌, ◌/◌, ◌≤◌, ◌<◌}
use mathlib.Core.Path.{◌≡◌, subst}
use mathlib.Core.Bool.{Bool, not, ◌||◌}
use mathlib.Core.Logic.Dec
use mathlib.Core.Logic.{◌⊎◌, ⊎_elim, ◌↔◌}
use mathlib.Core.List.{List, [], ◌∷◌, ◌++◌}
use native.Mathlib.Nat.{div-lt_iff_lt-mul, mul-pos}
use native.Mathlib.Decide.{ℕ_discrete}
use native.Mathlib.Omega.{arith}
use lib.ListN.{length}
use lib.Dec.{T, not_T, eqb}
use Rattle.lists.proofs.BitLaws.{bit-above}
use Rattle.lists.proofs.Searches.{and_T}
use Rattle.residues.specs.Primes.{Prime}
use Rattle.residues.proofs.PrimeLaws.{prime-pos}
use Rattle.lists.specs.Lists.{picked}
use Rattle.matrices.specs.Linear.{Vector}
use Rattle.matrices.proofs.Notions.{Independent}
use Rattle.matrices.specs.Rank.{rank_over, rank_of}
use Rattle.matrices.proofs.RankLaws.{rank-append, full-rank-iff}
use Rattle.secrecy.specs.Model.{Pool, users, in_coalition, in_cluster, in_either, set_view, view, ZeroSum}
use Rattle.secrecy.specs.Leaks.{keys_showing, leaks, set_leaks, Symbols, Leak, Agree, Agrees, PairLeak, JointLeak, longest}
use Rattle.secrecy.proofs.Readings.{Enough, symbols-enough, small-enough}
use Rattle.secrecy.proofs.Relays.{set_keeps, set-either, all-depend}
use Rattle.secrecy.proofs.Server.{server-keeps, server-either}
use Rattle.secrecy.proofs.LeakTest.{search-iff, set-search-iff}
pub use Rattle.secrecy.proofs.Readings.{Small}
pub use Rattle.secrecy.proofs.RankCondition.{row, summed_row, coalition_rows, outside, has_outsider, tested, watched_rows}
pub use Rattle.secrecy.proofs.RankCondition.{row-vector, sum-row-vector, coalition-vectors, watched-vectors}

-- one or the other, and not both
just-where : {A B : Type 0} → A ⊎ B → (A → ¬ B) → (¬ B) ↔ A
just-where e f = ((λ n. ⊎_elim (λ a. a) (λ b. absurd (n b)) e), f)

-- what does not leak has equal numbers, for all readings that agree and every view
pub quiet-equal : (q n : ℕ) (readings : ℕ → List ℕ → Type 0) (agrees : ℕ → List ℕ → List ℕ → Type 0) (see : ℕ → List ℕ → List ℕ → List ℕ)
    → ¬ (Leak q n readings agrees see) → (L : ℕ) → 1 ≤ L → L ≤ longest → (W W' : List ℕ) → readings L W → readings L W' → agrees L W W'
    → (s : List ℕ) → keys_showing q n see L W s ≡ keys_showing q n see L W' s
quiet-equal q n readings agrees see quiet L low high W W' v v' a s =
    (Dec.not-not (ℕ_discrete (keys_showing q n see L W s) (keys_showing q n see L W' s))).0
    (λ n. quiet (record { L = L; low = low; high = high; W = W; W' = W'; W-in = v; W'-in = v'; same = a; s = s; unequal = n }))

module _ (P : Pool) (prime : Prime P.q) (valid : Vector P.q (users P * P.rate) P.table) where
  -- the search finds a leak just where there is one
  pub leaks-iff : (g w : ℕ) → T (leaks P g w) ↔ PairLeak P g w
  leaks-iff = search-iff P (prime-pos prime)

  -- ---- among any readings that are enough

  module _ (readings : ℕ → List ℕ → Type 0) (en : Enough P.q (users P) readings) where
    -- the watched rows are independent over the coalition's, or there is a leak
    pair-either : ZeroSum P → (g w : ℕ) → Independent P.q P.rate (coalition_rows P g) (watched_rows P g w)
        ⊎ Leak P.q P.rate readings (Agrees P g w) (view P g w)
    pair-either zs g zero = server-either P prime valid zs g readings en
    pair-either zs g (suc u) = set-either P prime valid (in_cluster P u) g readings en

    pair_keeps : ZeroSum P → (g w : ℕ) → Independent P.q P.rate (coalition_rows P g) (watched_rows P g w)
        → ¬ (Leak P.q P.rate readings (Agrees P g w) (view P g w))
    pair_keeps zs g zero = server-keeps P prime valid zs g readings en.symbols
    pair_keeps zs g (suc u) = set_keeps P prime valid (in_cluster P u) g readings en.symbols

    -- an observer leaks nothing just where the rows that it watches are independent over the coalition's
    pub enough-iff : ZeroSum P → (g w : ℕ) → (¬ (Leak P.q P.rate readings (Agrees P g w) (view P g w)))
        ↔ Independent P.q P.rate (coalition_rows P g) (watched_rows P g w)
    enough-iff zs g w = just-where (pair-either zs g w) (pair_keeps zs g w)

  -- ---- among all symbols

  abbrev every : ℕ → List ℕ → Type 0
  every = Symbols P.q (users P)

  every-enough : Enough P.q (users P) every
  every-enough = symbols-enough P.q (users P) prime.two

  -- the search on the uploads of any users
  pub set-leaks-iff : (b : ℕ → Bool) (g : ℕ) → T (set_leaks P b g) ↔ Leak P.q P.rate every (Agree P g) (set_view P b g)
  set-leaks-iff = set-search-iff P (prime-pos prime)

  -- the uploads of any users, for a table that need not sum to 0
  pub set-iff : (b : ℕ → Bool) (g : ℕ) → (¬ (Leak P.q P.rate every (Agree P g) (set_view P b g)))
      ↔ Independent P.q P.rate (coalition_rows P g) (picked (users P) (outside P b g) (λ i. row P i ∷ []))
  set-iff b g = just-where (set-either P prime valid b g every every-enough) (set_keeps P prime valid b g every every-enough.symbols)

  -- so a relay
  pub relay-iff : (g u : ℕ) → (¬ (PairLeak P g (suc u))) ↔ Independent P.q P.rate (coalition_rows P g) (watched_rows P g (suc u))
  relay-iff g u = set-iff (in_cluster P u) g

  -- a relay or the server
  pub pair-iff : ZeroSum P → (g w : ℕ) → (¬ (PairLeak P g w)) ↔ Independent P.q P.rate (coalition_rows P g) (watched_rows P g w)
  pair-iff = enough-iff every every-enough

  -- the server
  pub server-iff : ZeroSum P → (g : ℕ) → (¬ (PairLeak P g 0)) ↔ Independent P.q P.rate (coalition_rows P g) (watched_rows P g 0)
  server-iff zs g = pair-iff zs g 0

  -- the same by ranks: all the rows together have the coalition's rank, and 1 more for each row that is watched
  pub pair-rank : ZeroSum P → (g w : ℕ) → (¬ (PairLeak P g w)) ↔ (rank_of P.q P.rate (coalition_rows P g ++ watched_rows P g w)
      ≡ rank_of P.q P.rate (coalition_rows P g) + length (watched_rows P g w))
  pair-rank zs g w =
      let G : List (List ℕ) = coalition_rows P g in
      let C : List (List ℕ) = watched_rows P g w in
      let sum : rank_of P.q P.rate (G ++ C) ≡ rank_of P.q P.rate G + rank_over P.q P.rate G C = rank-append P.q P.rate [] G C in
      let full : (rank_over P.q P.rate G C ≡ length C) ↔ Independent P.q P.rate G C
      = full-rank-iff P.q P.rate (prime-pos prime) G C (coalition-vectors P prime valid g) (watched-vectors P prime valid g w) in (
        (λ quiet. omega (arith, full.1 ((pair-iff zs g w).0 quiet))),
        (λ e. (pair-iff zs g w).1 (full.0 (omega arith))),
      )

  -- ---- what it means

  -- a pair
  pub equal-numbers : (g w : ℕ) → ¬ (PairLeak P g w) → (L : ℕ) → 1 ≤ L → L ≤ longest
      → (W W' : List ℕ) → Symbols P.q (users P) L W → Symbols P.q (users P) L W' → Agrees P g w L W W'
      → (s : List ℕ) → keys_showing P.q P.rate (view P g w) L W s ≡ keys_showing P.q P.rate (view P g w) L W' s
  equal-numbers g w = quiet-equal P.q P.rate every (Agrees P g w) (view P g w)

  -- and the joint observer of two clusters
  pub joint-equal-numbers : (u w g : ℕ) → ¬ (JointLeak P u w g) → (L : ℕ) → 1 ≤ L → L ≤ longest
      → (W W' : List ℕ) → Symbols P.q (users P) L W → Symbols P.q (users P) L W' → Agree P g L W W'
      → (s : List ℕ) → keys_showing P.q P.rate (set_view P (in_either P u w) g) L W s
      ≡ keys_showing P.q P.rate (set_view P (in_either P u w) g) L W' s
  joint-equal-numbers u w g = quiet-equal P.q P.rate every (Agree P g) (set_view P (in_either P u w) g)

  -- a pair that leaks does so in one position, with no other readings than 0, 1 and q - 1
  pub small-leak : ZeroSum P → (g w : ℕ) → PairLeak P g w → Leak P.q P.rate (Small P.q (users P)) (Agrees P g w) (view P g w)
  small-leak zs g w k =
      ⊎_elim (λ i. absurd (pair_keeps every every-enough zs g w i k)) (λ s. s)
      (pair-either (Small P.q (users P)) (small-enough P.q (users P) prime.two) zs g w)

  -- ---- two clusters

  -- the joint observer of the two sees every user, and with coalition 0 no user is in it
  all_seen : P.clusters ≡ 2 → 0 < P.size → (i : ℕ) → i < users P → T (outside P (in_either P 0 1) 0 i)
  unfolding outside in_either in_cluster
  all_seen two some i h =
      and_T (in_either P 0 1 i) (not (in_coalition 0 i)) (one-of (i / P.size) (subst (λ (c : ℕ). i / P.size < c) two ((div-lt_iff_lt-mul some).1 h)))
      (not_T (in_coalition 0 i) (λ t. subst T (bit-above 0 0 i (omega arith) (omega arith)) t))
    where
      one-of : (u : ℕ) → u < 2 → T (eqb u 0 || eqb u 1)
      one-of zero l = tt
      one-of (suc zero) l = tt
      one-of (suc (suc u)) l = absurd (omega arith)

  -- so it leaks on its own, where the table sums to 0
  pub two-clusters-leak : ZeroSum P → P.clusters ≡ 2 → 0 < P.size → JointLeak P 0 1 0
  two-clusters-leak zs two some =
      ⊎_elim
      (λ i. absurd (all-depend P prime valid (in_either P 0 1) 0 zs (mul-pos (omega arith) some) (all_seen two some) i)) (λ k. k)
      (set-either P prime valid (in_either P 0 1) 0 every every-enough)

  -- so does what the uploads of any users leak
  pub set-small-leak : (b : ℕ → Bool) (g : ℕ) → Leak P.q P.rate every (Agree P g) (set_view P b g)
      → Leak P.q P.rate (Small P.q (users P)) (Agree P g) (set_view P b g)
  set-small-leak b g k =
      ⊎_elim (λ i. absurd (set_keeps P prime valid b g every every-enough.symbols i k)) (λ s. s)
      (set-either P prime valid b g (Small P.q (users P)) (small-enough P.q (users P) prime.two))
