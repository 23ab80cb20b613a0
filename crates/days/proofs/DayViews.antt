-- What is seen of a day is worked out from the views of its rounds, one by one; so it has equal numbers where they have. The machine does not matter.
use Prim.Native.Nat.{ℕ, zero, suc, ◌+◌, ◌-◌, ◌*◌, ◌%◌, ◌≤◌, ◌<◌}
use mathlib.Core.Path.{◌≡◌, refl, sym, ap, ap₂, ◌∙◌, subst}
use mathlib.Core.Bool.{Bool, true, false, cond, ◌&&◌}
use mathlib.Core.List.{List, []}
use native.Mathlib.Omega.{arith}
use lib.ListN.{get_or, take, drop}
use lib.Dec.{T, leb, ltb, eqb, eqb_refl, leb→le, ltb→lt, lt→ltb}
use lib.Arith.{digits_lt, digits_div}
use Rattle.lists.specs.Lists.{at, tab}
use Rattle.lists.specs.Sums.{sum_to, how_many}
use Rattle.lists.proofs.Searches.{T_and, and_T, T→true, true→T}
use Rattle.lists.proofs.ListLaws.{at-tab, get-tab, tab-cong}
use Rattle.lists.proofs.Sums.{sum-cong}
use Rattle.matrices.specs.Linear.{Vector}
use Rattle.secrecy.specs.Model.{Pool, users, in_cluster, upload, relay_sum, known, view}
use Rattle.secrecy.specs.Leaks.{keys_showing, Symbols, places}
use Rattle.secrecy.proofs.LeakTest.{set-places, server-places}
use Rattle.secrecy.proofs.RunCounts.{run-counts}
use Rattle.secrecy.proofs.ViewParts.{set-block, set_known, server-block, server-known}
use Rattle.rounds.specs.Rounds.{one_of}
use Rattle.days.specs.Runs.{Run, key_symbols, source_key, seen_of, uploads_of, senders, sent, sent_in, DaysAgree}
use Rattle.days.specs.Machines.{Entry, transcript}
use Rattle.days.specs.Observers.{machine_of}
use Rattle.days.specs.Days.{DayView, day_view, runs_showing}

-- ---- senders

-- a number of 1 to n
pub one-of : (n s : ℕ) → T (one_of n s) → s - 1 < n
one-of n s t =
    let (low, high) = T_and (leb 1 s) (leb s n) t in
    omega (arith, leb→le 1 s low, leb→le s n high)

pub in-own : (P : Pool) (u v : ℕ) → v < P.size → T (in_cluster P u (u * P.size + v))
unfolding in_cluster
in-own P u v l = subst (λ (z : ℕ). T (eqb z u)) (sym (digits_div u l)) (eqb_refl u)

-- the sums of the blocks that are uploaded
pub sums-sent : (P : Pool) (L : ℕ) (W N : List ℕ) (u : ℕ)
    → tab L (λ p. sum_to P.size (λ v. at (tab L (upload P L W N (u * P.size + v))) p) % P.q) ≡ tab L (relay_sum P L W N u)
unfolding relay_sum
sums-sent P L W N u =
    tab-cong L (λ p. sum_to P.size (λ v. at (tab L (upload P L W N (u * P.size + v))) p) % P.q)
    (λ p. sum_to P.size (λ v. upload P L W N (u * P.size + v) p) % P.q)
    (λ p l.
    ap (λ (z : ℕ). z % P.q)
    (sum-cong P.size (λ v. at (tab L (upload P L W N (u * P.size + v))) p) (λ v. upload P L W N (u * P.size + v) p)
    (λ v h. at-tab L (upload P L W N (u * P.size + v)) p l)))

-- so relay s, from 1, sends the server its sum of the round
pub sum-sent-in : (P : Pool) (run : Run) (W : ℕ → List ℕ) (N : List ℕ) (k s : ℕ) → k < run.rounds → T (one_of P.clusters s)
    → sent_in P run (uploads_of P run W N) 0 k s ≡ tab (run.length k) (relay_sum P (run.length k) (W k) (source_key P run N k) (s - 1))
unfolding sent_in
sum-sent-in P run W N k s l o =
    ap (λ (t : Bool). cond t (sent P (run.length k) (uploads_of P run W N k) 0 s) [])
    (T→true (ltb k run.rounds && one_of P.clusters s) (and_T (ltb k run.rounds) (one_of P.clusters s) (lt→ltb k run.rounds l) o))
    ∙ sums-sent P (run.length k) (W k) (source_key P run N k) (s - 1)

module _ (P : Pool) (run : Run) (see : ℕ → List ℕ → List ℕ → List ℕ) where
  abbrev seen : (ℕ → List ℕ) → List ℕ → List (List ℕ)
  seen W N = seen_of P run see W N

  -- what is shown of round k
  seen_at : (W : ℕ → List ℕ) (N : List ℕ) (k : ℕ) → k < run.rounds → get_or (seen W N) k [] ≡ see (run.length k) (W k) (source_key P run N k)
  unfolding seen_of
  seen_at W N = get-tab run.rounds (λ k. see (run.length k) (W k) (source_key P run N k)) []

  -- ---- a sender's block is cut out of the view of its round

  module _ (w : ℕ) (cut : ℕ → ℕ → List ℕ → List ℕ)
      (cuts : (L : ℕ) (W N : List ℕ) (s : ℕ) → T (one_of (senders P w) s) → cut L s (see L W N) ≡ sent P L (λ i. tab L (upload P L W N i)) w s) where
    abbrev pub sent_from : List (List ℕ) → ℕ → ℕ → List ℕ
    sent_from vs k s = cond (ltb k run.rounds && one_of (senders P w) s) (cut (run.length k) s (get_or vs k [])) []

    pub sent_is : (W : ℕ → List ℕ) (N : List ℕ) (k s : ℕ) → sent_in P run (uploads_of P run W N) w k s ≡ sent_from (seen W N) k s
    unfolding sent_in
    sent_is W N k s = go (ltb k run.rounds && one_of (senders P w) s) refl
      where
        go : (t : Bool) → (ltb k run.rounds && one_of (senders P w) s) ≡ t
            → cond t (sent P (run.length k) (uploads_of P run W N k) w s) [] ≡ cond t (cut (run.length k) s (get_or (seen W N) k [])) []
        go true e =
            let (l, o) = T_and (ltb k run.rounds) (one_of (senders P w) s) (true→T (ltb k run.rounds && one_of (senders P w) s) e) in
            sym
            (ap (cut (run.length k) s) (seen_at W N k (ltb→lt k run.rounds l)) ∙ cuts (run.length k) (W k) (source_key P run N k) s o)
        go false e = refl

  -- ---- what the coalition knows too

  module _ (g : ℕ) (rest : ℕ → List ℕ → List ℕ) (rests : (L : ℕ) (W N : List ℕ) → rest L (see L W N) ≡ known P g L W N) where
    abbrev pub known_from : List (List ℕ) → List (List ℕ)
    known_from vs = tab run.rounds (λ k. rest (run.length k) (get_or vs k []))

    pub known_is : (W : ℕ → List ℕ) (N : List ℕ) → seen_of P run (known P g) W N ≡ known_from (seen W N)
    unfolding seen_of
    known_is W N =
        tab-cong run.rounds (λ k. known P g (run.length k) (W k) (source_key P run N k)) (λ k. rest (run.length k) (get_or (seen W N) k []))
        (λ k l. sym (ap (rest (run.length k)) (seen_at W N k l) ∙ rests (run.length k) (W k) (source_key P run N k)))

  -- ---- so all that is worked out from the views has equal numbers

  module _ (size : ℕ → ℕ) (sized : (L : ℕ) (W N : List ℕ) → Symbols P.q (users P) L W → Vector P.q (size L) (see L W N))
      (agrees : ℕ → List ℕ → List ℕ → Type 0) (W W' : ℕ → List ℕ) (a : DaysAgree P run agrees W W')
      (same : (k : ℕ) → k < run.rounds → (s : List ℕ)
      → keys_showing P.q P.rate see (run.length k) (W k) s ≡ keys_showing P.q P.rate see (run.length k) (W' k) s) where
    pub seen-numbers : {A : Type 0} (from : List (List ℕ) → A) (test : A → Bool)
        → runs_showing P run (λ N. from (seen W N)) test ≡ runs_showing P run (λ N. from (seen W' N)) test
    unfolding keys_showing runs_showing seen_of
    seen-numbers from test =
        run-counts P.q (key_symbols P run) (λ k N. see (run.length k) (W k) N) (λ k N. see (run.length k) (W' k) N) run.rounds
        (λ k. size (run.length k))
        (λ k l N. sized (run.length k) (W k) N (a.symbols k l))
        (λ k l N. sized (run.length k) (W' k) N (a.symbols' k l))
        same (λ vs. test (from vs))

    -- and so has what is equal to something that is
    pub from-numbers : {A : Type 0} (day : (ℕ → List ℕ) → List ℕ → A) (from : List (List ℕ) → A)
        → ((W : ℕ → List ℕ) (N : List ℕ) → day W N ≡ from (seen W N))
        → (test : A → Bool) → runs_showing P run (day W) test ≡ runs_showing P run (day W') test
    from-numbers {A} day from is test =
        ap (λ (see : List ℕ → A). runs_showing P run see test) (λ i N. is W N i)
        ∙ seen-numbers from test
        ∙ sym (ap (λ (see : List ℕ → A). runs_showing P run see test) (λ i N. is W' N i))

-- ---- one observer

module _ (P : Pool) (run : Run) (g w : ℕ) where
  -- how many blocks stand before that of sender s, and in all
  abbrev before : ℕ → ℕ → ℕ
  before zero s = how_many (s - 1) (λ _. true)
  before (suc u) s = how_many (u * P.size + (s - 1)) (in_cluster P u)

  abbrev in_all : ℕ → ℕ
  in_all zero = how_many P.clusters (λ _. true)
  in_all (suc u) = how_many (users P) (in_cluster P u)

  abbrev cut : ℕ → ℕ → List ℕ → List ℕ
  cut L s v = take L (drop (before w s * L) v)

  abbrev rest : ℕ → List ℕ → List ℕ
  rest L v = drop (in_all w * L) v

  cuts : (w : ℕ) → w ≤ P.clusters → (L : ℕ) (W N : List ℕ) (s : ℕ) → T (one_of (senders P w) s)
      → take L (drop (before w s * L) (view P g w L W N)) ≡ sent P L (λ i. tab L (upload P L W N i)) w s
  cuts zero h L W N s t = server-block P g L W N (s - 1) (one-of P.clusters s t) ∙ sym (sums-sent P L W N (s - 1))
  cuts (suc u) h L W N s t =
      let l : s - 1 < P.size = one-of P.size s t in
      set-block P g L W N (in_cluster P u) (u * P.size + (s - 1)) (digits_lt h l) (in-own P u (s - 1) l)

  rests : (w L : ℕ) (W N : List ℕ) → drop (in_all w * L) (view P g w L W N) ≡ known P g L W N
  rests zero L W N = server-known P g L W N
  rests (suc u) L W N = set_known P g L W N (in_cluster P u)

  abbrev many : ℕ → ℕ → ℕ
  many zero = places P P.clusters g
  many (suc u) = places P (how_many (users P) (in_cluster P u)) g

  sized : 0 < P.q → (w L : ℕ) (W N : List ℕ) → Symbols P.q (users P) L W → Vector P.q (many w L) (view P g w L W N)
  sized pos zero = server-places P pos g
  sized pos (suc u) = set-places P pos (in_cluster P u) g

  module _ (pos : 0 < P.q) (h : w ≤ P.clusters) (schedule : List (Entry (machine_of P w).Call))
      (agrees : ℕ → List ℕ → List ℕ → Type 0) (W W' : ℕ → List ℕ) (a : DaysAgree P run agrees W W')
      (same : (k : ℕ) → k < run.rounds → (s : List ℕ)
      → keys_showing P.q P.rate (view P g w) (run.length k) (W k) s ≡ keys_showing P.q P.rate (view P g w) (run.length k) (W' k) s) where
    -- a day from the views of its rounds
    abbrev day_from : (List (List ℕ) → List (List ℕ)) → List (List ℕ) → DayView (machine_of P w)
    day_from part vs = (part vs, transcript (machine_of P w) run.number (sent_from P run (view P g w) w cut (cuts w h) vs) schedule)

    numbers : (see : ℕ → List ℕ → List ℕ → List ℕ) (part : List (List ℕ) → List (List ℕ))
        → ((W : ℕ → List ℕ) (N : List ℕ) → seen_of P run see W N ≡ part (seen_of P run (view P g w) W N))
        → (test : DayView (machine_of P w) → Bool)
        → runs_showing P run (day_view P run w schedule see W) test ≡ runs_showing P run (day_view P run w schedule see W') test
    numbers see part is =
        from-numbers P run (view P g w) (many w) (sized pos w) agrees W W' a same (day_view P run w schedule see) (day_from part)
        (λ W N.
        ap₂ (λ (vs : List (List ℕ)) (B : ℕ → ℕ → List ℕ). (vs, transcript (machine_of P w) run.number B schedule))
        (is W N) (λ i k s. sent_is P run (view P g w) w cut (cuts w h) W N k s i))

    pub day-numbers : (test : DayView (machine_of P w) → Bool)
        → runs_showing P run (day_view P run w schedule (view P g w) W) test ≡ runs_showing P run (day_view P run w schedule (view P g w) W') test
    day-numbers = numbers (view P g w) (λ vs. vs) (λ W N. refl)

    pub known-numbers : (test : DayView (machine_of P w) → Bool)
        → runs_showing P run (day_view P run w schedule (known P g) W) test ≡ runs_showing P run (day_view P run w schedule (known P g) W') test
    known-numbers = numbers (known P g) (known_from P run (view P g w) g rest (rests w)) (known_is P run (view P g w) g rest (rests w))
