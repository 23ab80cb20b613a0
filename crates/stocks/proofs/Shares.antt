-- No draws of others keep a pool from its reserve: in a stock that draws leave there is always room for it.
use Prim.Native.Nat.{ℕ, zero, suc, ◌+◌, ◌-◌, ◌≤◌}
use mathlib.Core.Path.{◌≡◌, refl, sym, ap, ◌∙◌, subst}
use mathlib.Core.Logic.{◌≢◌, ◌↔◌}
use mathlib.Core.Bool.{Bool, true, false, cond}
use mathlib.Core.List.{List, [], ◌∷◌, ◌++◌}
use native.Mathlib.Omega.{arith}
use native.Mathlib.Decide.{ℕ_discrete}
use borrow.Author.Tests.{eq-eqb, ne_eqb}
use lib.Dec.{T}
use lib.ListN.{length}
use Rattle.refusals.specs.declared.Code.{Code}
use Rattle.refusals.specs.Codes.{accepted, if_accepted}
use Rattle.lists.specs.Lists.{at, All}
use Rattle.stocks.specs.declared.Stock.{Stock}
use Rattle.stocks.specs.Stocks.{max_pools, reserve_of, limit_of, drawn_of, position, owed_to_others, Draw, Asks, draw_of, stock_code}
use Rattle.stocks.specs.Stocks.{run_of, answered, Left, of_pool, added_up}
use Rattle.stocks.proofs.StockLaws.{Good, held-parts, owed-parts, Passed, passed, answers, taken, grown-mine, grown-other, grown-good}
use Rattle.stocks.proofs.Runs.{takes, next, run-good, run-pools, run-reserves, run-drawn}
use Rattle.stocks.proofs.Exactness.{ones_for, left-good}

abbrev pub not_by : ℕ → Draw → Type 0
not_by p o = o.pool ≢ p

module _ (stream : List ℕ) where
  module _ (S : Stock) (d : Draw) (g : Good (length stream) S) (a : Asks S.pools d) where
    -- what is left to ask of a right call
    pub right-passes : drawn_of S (d.pool - 1) + d.length ≤ limit_of S (d.pool - 1) → position S + d.length + owed_to_others S d.pool ≤ length stream
        → Passed stream S d
    right-passes within enough =
        record { state = g; from = a.from; to = a.to; some = a.some; few = a.few; room = a.room; within = within; enough = enough }

    -- a draw that stays in the pool's reserve
    pub share-passes : drawn_of S (d.pool - 1) + d.length ≤ reserve_of S (d.pool - 1) → Passed stream S d
    share-passes h =
        right-passes (omega (arith, h, g.reserve-in (d.pool - 1) (omega (arith, a.from, a.to, g.few))))
        (omega (arith, h, held-parts S, owed-parts S d.pool a.from a.to, g.held_in))

  module _ (p : ℕ) (from : 1 ≤ p) where
    -- others leave what the pool has drawn
    other-draw : (S : Stock) (d : Draw) → p ≤ max_pools → not_by p d → drawn_of (next stream S d) (p - 1) ≡ drawn_of S (p - 1)
    other-draw S d to n = grown-other S d.pool d.length (p - 1) (omega arith) (λ e. n (omega (arith, e)))

    pub others-leave : p ≤ max_pools → (S : Stock) (draws : List Draw) → All (not_by p) draws → drawn_of (run_of stream S draws) (p - 1) ≡ drawn_of S (p - 1)
    unfolding run_of
    others-leave to S [] a = refl
    others-leave to S (d ∷ draws) a = go (takes stream S d) (λ R. others-leave to R draws a.1)
      where
        go : (b : Bool) → ((R : Stock) → drawn_of (run_of stream R draws) (p - 1) ≡ drawn_of R (p - 1))
            → drawn_of (run_of stream (cond b (next stream S d) S) draws) (p - 1) ≡ drawn_of S (p - 1)
        go true later = later (next stream S d) ∙ other-draw S d to a.0
        go false later = later S

    -- all draws of the pool that stay in its reserve are answered, whatever others draw in between
    own_first : (d : Draw) (l : List Draw) → d.pool ≡ p → of_pool p (d ∷ l) ≡ d ∷ of_pool p l
    unfolding of_pool
    own_first d l e = ap (λ (b : Bool). cond b (d ∷ of_pool p l) (of_pool p l)) (eq-eqb p d.pool (sym e))

    other-first : (d : Draw) (l : List Draw) → not_by p d → of_pool p (d ∷ l) ≡ of_pool p l
    unfolding of_pool
    other-first d l n = ap (λ (b : Bool). cond b (d ∷ of_pool p l) (of_pool p l)) (ne_eqb p d.pool (λ e. n (sym e)))

    pub all-answered : (S : Stock) (draws : List Draw) → Good (length stream) S → p ≤ S.pools → All (λ (d : Draw). d.pool ≡ p → Asks S.pools d) draws
        → drawn_of S (p - 1) + added_up (of_pool p draws) ≤ reserve_of S (p - 1) → of_pool p (answered stream S draws) ≡ of_pool p draws
    unfolding answered added_up
    all-answered S [] g to a h = refl
    all-answered S (d ∷ draws) g to a h =
        go (ℕ_discrete d.pool p) (λ w. all-answered S draws g to a.1 w) (λ good w. all-answered (next stream S d) draws good to a.1 w)
      where
        eight : p ≤ max_pools
        eight = omega (arith, to, g.few)

        go : Dec (d.pool ≡ p) → (drawn_of S (p - 1) + added_up (of_pool p draws) ≤ reserve_of S (p - 1) → of_pool p (answered stream S draws) ≡ of_pool p draws)
            → (Good (length stream) (next stream S d) → drawn_of (next stream S d) (p - 1) + added_up (of_pool p draws) ≤ reserve_of S (p - 1)
            → of_pool p (answered stream (next stream S d) draws) ≡ of_pool p draws)
            → of_pool p (answered stream S (d ∷ draws)) ≡ of_pool p (d ∷ draws)
        go (yes e) same later =
            let all : added_up (of_pool p (d ∷ draws)) ≡ d.length + added_up (of_pool p draws) = ap added_up (own_first d draws e) in
            let has : drawn_of S (d.pool - 1) ≡ drawn_of S (p - 1) = ap (λ (n : ℕ). drawn_of S (n - 1)) e in
            let sure : reserve_of S (d.pool - 1) ≡ reserve_of S (p - 1) = ap (λ (n : ℕ). reserve_of S (n - 1)) e in
            let q : Passed stream S d = share-passes S d g (a.0 e) (omega arith) in
            let grown : drawn_of (next stream S d) (p - 1) ≡ drawn_of (next stream S d) (d.pool - 1) =
            ap (λ (n : ℕ). drawn_of (next stream S d) (n - 1)) (sym e) in
            let more = grown-mine S d.pool d.length q.from (omega (arith, q.to, g.few)) in
            ap (λ (c : Code). of_pool p (if_accepted c (d ∷ []) [] ++ answered stream (if_accepted c (next stream S d) S) draws)) (sym (answers stream S d q))
            ∙ own_first d (answered stream (next stream S d) draws) e
            ∙ ap (λ (l : List Draw). d ∷ l) (later (grown-good stream S d q) (omega (arith, more)))
            ∙ sym (own_first d draws e)
        go (no n) same later =
            let all : added_up (of_pool p (d ∷ draws)) ≡ added_up (of_pool p draws) = ap added_up (other-first d draws n) in
            step (takes stream S d) (taken stream S d) ∙ sym (other-first d draws n)
          where
            step : (b : Bool) → (T b → Passed stream S d) → of_pool p (cond b (d ∷ []) [] ++ answered stream (cond b (next stream S d) S) draws) ≡ of_pool p draws
            step true q =
                other-first d (answered stream (next stream S d) draws) n
                ∙ later (grown-good stream S d (q tt)) (omega (arith, h, other-draw S d eight n, ap added_up (other-first d draws n)))
            step false q = same (omega (arith, h, ap added_up (other-first d draws n)))

    -- draws of single symbols
    ones-own : (n : ℕ) → of_pool p (ones_for p n) ≡ ones_for p n
    unfolding of_pool
    ones-own zero = refl
    ones-own (suc n) = own_first (draw_of p 1 (0 ∷ [])) (ones_for p n) refl ∙ ap (λ (l : List Draw). draw_of p 1 (0 ∷ []) ∷ l) (ones-own n)

    ones-up : (n : ℕ) → added_up (ones_for p n) ≡ n
    unfolding added_up
    ones-up zero = refl
    ones-up (suc n) = omega (arith, ones-up n)

    ones-ask : (pools n : ℕ) → p ≤ pools → All (λ (d : Draw). d.pool ≡ p → Asks pools d) (ones_for p n)
    ones-ask pools zero to = tt
    ones-ask pools (suc n) to = ((λ e. record { from = from; to = to; some = omega arith; few = omega arith; room = refl }), ones-ask pools n to)

    pub ones-by : (n : ℕ) → All (λ (d : Draw). d.pool ≡ p) (ones_for p n)
    ones-by zero = tt
    ones-by (suc n) = (refl, ones-by n)

    -- as many as are left of the reserve bring the pool to its reserve
    pub to-reserve : (S : Stock) → Good (length stream) S → p ≤ S.pools → drawn_of S (p - 1) ≤ reserve_of S (p - 1)
        → drawn_of (run_of stream S (ones_for p (reserve_of S (p - 1) - drawn_of S (p - 1)))) (p - 1) ≡ reserve_of S (p - 1)
    to-reserve S g to h =
        let n : ℕ = reserve_of S (p - 1) - drawn_of S (p - 1) in
        let up : added_up (of_pool p (ones_for p n)) ≡ n = ap added_up (ones-own n) ∙ ones-up n in
        let told = all-answered S (ones_for p n) g to (ones-ask S.pools n to) (omega arith) in
        let back : p - 1 + 1 ≡ p = omega arith in
        let sum = ap (λ (k : ℕ). added_up (of_pool k (answered stream S (ones_for p n)))) back ∙ ap added_up told ∙ up in
        omega (arith, run-drawn stream S (ones_for p n) (p - 1) (omega (arith, to, g.few)), sum)

  -- ---- of stocks that draws leave

  module _ (S : Stock) (left : Left stream S) where
    good-now : Good (length stream) S
    good-now = left-good left

    pub answered-when : (d : Draw) → Asks S.pools d
        → (accepted ≡ stock_code stream S d)
        ↔ ((drawn_of S (d.pool - 1) + d.length ≤ limit_of S (d.pool - 1)) × (position S + d.length + owed_to_others S d.pool ≤ length stream))
    answered-when d a = (
      (λ e. let p = passed stream S d e in (p.within, p.enough)),
      (λ h. answers stream S d (right-passes S d good-now a h.0 h.1)),
    )

    module _ (others : List Draw) where
      abbrev later : Stock
      later = run_of stream S others

      good-later : Good (length stream) later
      good-later = run-good stream S others good-now

      reserve-later : (i : ℕ) → reserve_of later i ≡ reserve_of S i
      reserve-later i = ap (λ (l : List ℕ). at l i) (run-reserves stream S others)

      pub sure-now : (d : Draw) → Asks S.pools d → drawn_of later (d.pool - 1) + d.length ≤ reserve_of S (d.pool - 1)
          → accepted ≡ stock_code stream later d
      sure-now d a h =
          answers stream later d (share-passes later d good-later (subst (λ (n : ℕ). Asks n d) (sym (run-pools stream S others)) a)
          (omega (arith, reserve-later (d.pool - 1), h)))

      pub sure-share : (d : Draw) → All (not_by d.pool) others → Asks S.pools d → drawn_of S (d.pool - 1) + d.length ≤ reserve_of S (d.pool - 1)
          → accepted ≡ stock_code stream later d
      sure-share d none a h =
          sure-now d a (omega (arith, others-leave d.pool a.from (omega (arith, a.to, good-now.few)) S others none, h))

      pub whole-share : (p : ℕ) → 1 ≤ p → p ≤ S.pools → drawn_of S (p - 1) ≤ reserve_of S (p - 1) → All (not_by p) others
          → (own : List Draw) × All (λ (d : Draw). d.pool ≡ p) own × (drawn_of (run_of stream later own) (p - 1) ≡ reserve_of S (p - 1))
      whole-share p from to h none =
          let same = others-leave p from (omega (arith, to, good-now.few)) S others none in
          let n : ℕ = reserve_of later (p - 1) - drawn_of later (p - 1) in (
            ones_for p n,
            ones-by p from n,
            to-reserve p from later good-later (omega (arith, to, run-pools stream S others)) (omega (arith, same, reserve-later (p - 1), h))
                ∙ reserve-later (p - 1),
          )
