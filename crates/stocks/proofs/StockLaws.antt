-- What the checks of a stock, of an opening and of a draw mean, and that an answered draw leaves a good stock good.
use Prim.Native.Nat.{ℕ, ◌+◌, ◌-◌, ◌≤◌, ◌<◌}
use mathlib.Core.Path.{◌≡◌, sym, ap, ◌∙◌}
use mathlib.Core.Logic.{◌≢◌, ⊎_elim}
use mathlib.Core.Bool.{Bool, true, false, cond, ◌&&◌, ◌||◌}
use mathlib.Core.List.{List}
use native.Mathlib.Omega.{arith}
use native.Mathlib.Decide.{ℕ_discrete, dec_lt}
use borrow.Author.Tests.{le-leb, lt-ltb, le-ltb, ltb-true, ltb-false, eq-eqb, eqb-true, not-false}
use lib.Dec.{T, leb, ltb, eqb, leb→le, eqb→eq}
use lib.ListN.{length, get_or-eq_default}
use Rattle.refusals.specs.Codes.{accepted, first_of, is_accepted}
use Rattle.refusals.proofs.CodeLaws.{none-holds}
use Rattle.refusals.proofs.Orders.{number-accepts}
use Rattle.lists.specs.Lists.{at}
use Rattle.lists.specs.Search.{all_to, one_of}
use Rattle.lists.specs.Sums.{sum_to}
use Rattle.lists.proofs.Searches.{T→true, true→T, T_and, and_T, T-or, or_left, or_right, T-ext, all-at, all_made, one_known, one-true}
use Rattle.lists.proofs.ListLaws.{at-tab, el-zeros}
use Rattle.lists.proofs.Sums.{sum-cong, sum-add, sum-smaller}
use Rattle.plans.specs.Plans.{max_length, length_fits}
use Rattle.streams.specs.Streams.{draw_code}
use Rattle.stocks.specs.declared.Stock.{Stock}
use Rattle.stocks.specs.Stocks.{max_pools, reserve_of, limit_of, drawn_of, owed_to, held_by, position, owed_to_others, entry_fits, held_fits, fits}
use Rattle.stocks.specs.Stocks.{open_checks, open_code, opened, Draw, with_drawn, stock_checks, stock_code}
use Rattle.stocks.specs.Machine.{state_checks, Sound}
use Rattle.stocks.proofs.Pools.{others, mine, another, sum-apart, sum-differs}

-- ---- a good stock: what the checks of a stock, 1 and 21, ask

pub record Good (size : ℕ) (S : Stock) : Type 0 where
  pub some : 1 ≤ S.pools
  pub few : S.pools ≤ max_pools
  pub reserve-in : (i : ℕ) → i < max_pools → reserve_of S i ≤ limit_of S i
  pub drawn-in : (i : ℕ) → i < max_pools → drawn_of S i ≤ limit_of S i
  pub past : (i : ℕ) → i < max_pools → S.pools ≤ i → limit_of S i ≡ 0
  pub held_in : sum_to S.pools (held_by S) ≤ size

pub good : (size : ℕ) (S : Stock) → 1 ≤ S.pools → S.pools ≤ max_pools → fits size S ≡ true → Good size S
good size S some few e =
    let (entries, held) = T_and (all_to max_pools (entry_fits S)) (held_fits size S) (true→T (fits size S) e) in
    let entry : (i : ℕ) → i < max_pools → T (entry_fits S i) = all-at max_pools (entry_fits S) entries in
    let parts : (i : ℕ) → i < max_pools
    → T (leb (reserve_of S i) (limit_of S i)) × T (leb (drawn_of S i) (limit_of S i) && (ltb i S.pools || eqb (limit_of S i) 0)) =
    λ i h. T_and (leb (reserve_of S i) (limit_of S i)) (leb (drawn_of S i) (limit_of S i) && (ltb i S.pools || eqb (limit_of S i) 0)) (entry i h) in
    let rest : (i : ℕ) → i < max_pools → T (leb (drawn_of S i) (limit_of S i)) × T (ltb i S.pools || eqb (limit_of S i) 0) =
    λ i h. T_and (leb (drawn_of S i) (limit_of S i)) (ltb i S.pools || eqb (limit_of S i) 0) (parts i h).1 in
    record {
      some = some;
      few = few;
      reserve-in = λ i h. leb→le (reserve_of S i) (limit_of S i) (parts i h).0;
      drawn-in = λ i h. leb→le (drawn_of S i) (limit_of S i) (rest i h).0;
      past = λ i h l.
          ⊎_elim
          (λ t. absurd (below i l (ltb-true i S.pools (T→true (ltb i S.pools) t))))
          (λ t. eqb→eq (limit_of S i) 0 t)
          (T-or (ltb i S.pools) (eqb (limit_of S i) 0) (rest i h).1);
      held_in = leb→le (sum_to S.pools (held_by S)) size held;
    }
  where
    below : (i : ℕ) → S.pools ≤ i → i < S.pools → ⊥
    below i l h = omega arith

pub good-fits : (size : ℕ) (S : Stock) → Good size S → fits size S ≡ true
good-fits size S g =
    T→true (fits size S)
    (and_T (all_to max_pools (entry_fits S)) (held_fits size S)
    (all_made max_pools (entry_fits S) (λ i h. entry i h (dec_lt i S.pools)))
    (true→T (held_fits size S) (le-leb (sum_to S.pools (held_by S)) size g.held_in)))
  where
    made : (i : ℕ) → i < max_pools → T (ltb i S.pools || eqb (limit_of S i) 0) → T (entry_fits S i)
    made i h t =
        and_T (leb (reserve_of S i) (limit_of S i)) (leb (drawn_of S i) (limit_of S i) && (ltb i S.pools || eqb (limit_of S i) 0))
        (true→T (leb (reserve_of S i) (limit_of S i)) (le-leb (reserve_of S i) (limit_of S i) (g.reserve-in i h)))
        (and_T (leb (drawn_of S i) (limit_of S i)) (ltb i S.pools || eqb (limit_of S i) 0)
        (true→T (leb (drawn_of S i) (limit_of S i)) (le-leb (drawn_of S i) (limit_of S i) (g.drawn-in i h)))
        t)

    entry : (i : ℕ) → i < max_pools → Dec (i < S.pools) → T (entry_fits S i)
    entry i h (yes l) = made i h (or_left (ltb i S.pools) (eqb (limit_of S i) 0) (true→T (ltb i S.pools) (lt-ltb i S.pools l)))
    entry i h (no l) =
        made i h (or_right (ltb i S.pools) (eqb (limit_of S i) 0) (true→T (eqb (limit_of S i) 0) (eq-eqb (limit_of S i) 0 (g.past i h (omega (arith, l))))))

pub sound : (size : ℕ) (S : Stock) → accepted ≡ first_of (state_checks size S) → Sound size S
sound size S e =
    let w = none-holds (state_checks size S) tt e in
    let (some, few) = one_known max_pools S.pools (not-false (one_of max_pools S.pools) w.0) in
    record { some = some; few = few; fit = not-false (fits size S) w.1.0 }

pub good-sound : {size : ℕ} {S : Stock} → Sound size S → Good size S
good-sound {size} {S} s = good size S s.some s.few s.fit

-- what the pools hold, in parts
pub held-parts : (S : Stock) → sum_to S.pools (held_by S) ≡ position S + sum_to S.pools (owed_to S)
held-parts S = sum-add S.pools (drawn_of S) (owed_to S)

pub owed-parts : (S : Stock) (p : ℕ) → 1 ≤ p → p ≤ S.pools → sum_to S.pools (owed_to S) ≡ owed_to S (p - 1) + owed_to_others S p
owed-parts S p h l = sum-apart S.pools (owed_to S) p h l

pub position-within : {size : ℕ} {S : Stock} → Good size S → position S ≤ size
position-within {size} {S} g = omega (arith, g.held_in, held-parts S)

pub others-within : {size : ℕ} {S : Stock} → Good size S → (p : ℕ) → owed_to_others S p ≤ size
others-within {size} {S} g p =
    let few = sum-smaller S.pools (others p (owed_to S)) (owed_to S) (λ k _. fewer (eqb (k + 1) p) (owed_to S k)) in
    omega (arith, few, g.held_in, held-parts S)
  where
    fewer : (b : Bool) (n : ℕ) → cond b 0 n ≤ n
    fewer true n = omega arith
    fewer false n = omega arith

-- ---- a draw that is answered

pub record Passed (stream : List ℕ) (S : Stock) (d : Draw) : Type 0 where
  pub state : Good (length stream) S
  pub from : 1 ≤ d.pool
  pub to : d.pool ≤ S.pools
  pub some : 1 ≤ d.length
  pub few : d.length ≤ max_length
  pub room : length d.out ≡ d.length
  pub within : drawn_of S (d.pool - 1) + d.length ≤ limit_of S (d.pool - 1)
  pub enough : position S + d.length + owed_to_others S d.pool ≤ length stream

module _ (stream : List ℕ) (S : Stock) (d : Draw) where
  pub passed : accepted ≡ stock_code stream S d → Passed stream S d
  passed e =
      let w = none-holds (stock_checks stream S d) tt e in
      let (some, few) = one_known max_pools S.pools (not-false (one_of max_pools S.pools) w.0) in
      let (from, to) = one_known S.pools d.pool (not-false (one_of S.pools d.pool) w.1.1.0) in
      let (long, short) = one_known max_length d.length (not-false (length_fits d.length) w.1.1.1.0) in
      record {
        state = good (length stream) S some few (not-false (fits (length stream) S) w.1.0);
        from = from;
        to = to;
        some = long;
        few = short;
        room = eqb-true (length d.out) d.length (not-false (eqb (length d.out) d.length) w.1.1.1.1.0);
        within = ltb-false (limit_of S (d.pool - 1)) (drawn_of S (d.pool - 1) + d.length) w.1.1.1.1.1.0;
        enough = ltb-false (length stream) (position S + d.length + owed_to_others S d.pool) w.1.1.1.1.1.1.0;
      }

  pub answers : Passed stream S d → accepted ≡ stock_code stream S d
  answers p =
      sym
      (simp (
        one-true max_pools S.pools p.state.some p.state.few,
        good-fits (length stream) S p.state,
        one-true S.pools d.pool p.from p.to,
        one-true max_length d.length p.some p.few,
        eq-eqb (length d.out) d.length p.room,
        le-ltb (limit_of S (d.pool - 1)) (drawn_of S (d.pool - 1) + d.length) p.within,
        le-ltb (length stream) (position S + d.length + owed_to_others S d.pool) p.enough,
      ))

  -- the stream's own draw at the stock's position is not refused either
  pub stream-draws : Passed stream S d → accepted ≡ draw_code stream (position S) d.length d.out
  stream-draws p =
      sym
      (simp (
        one-true max_length d.length p.some p.few,
        eq-eqb (length d.out) d.length p.room,
        le-ltb (length stream - position S) d.length (omega (arith, p.enough)),
      ))

  -- a draw whose number is 0 is answered
  pub taken : T (is_accepted (stock_code stream S d)) → Passed stream S d
  taken t = passed (number-accepts (stock_checks stream S d) tt (T→true (is_accepted (stock_code stream S d)) t))

-- ---- the stock after it

module _ (S : Stock) (p L : ℕ) where
  abbrev grown : Stock
  grown = with_drawn S p L

  pub grown-at : (i : ℕ) → i < max_pools → drawn_of grown i ≡ drawn_of S i + cond (eqb (i + 1) p) L 0
  grown-at i h = at-tab max_pools (λ i. drawn_of S i + cond (eqb (i + 1) p) L 0) i h

  pub grown-other : (i : ℕ) → i < max_pools → i + 1 ≢ p → drawn_of grown i ≡ drawn_of S i
  grown-other i h d = let e : cond (eqb (i + 1) p) L 0 ≡ 0 = another p i L 0 d in omega (arith, grown-at i h, e)

  module _ (from : 1 ≤ p) where
    pub grown-mine : p ≤ max_pools → drawn_of grown (p - 1) ≡ drawn_of S (p - 1) + L
    grown-mine to = grown-at (p - 1) (omega arith) ∙ ap (λ (n : ℕ). drawn_of S (p - 1) + n) (mine p (p - 1) L 0 (omega arith))

    module _ (to : p ≤ S.pools) (few : S.pools ≤ max_pools) where
      pub grown-position : position grown ≡ position S + L
      grown-position =
          omega (
            arith,
            sum-differs S.pools (drawn_of grown) (drawn_of S) p from to (λ i h d. grown-other i (omega arith) d),
            grown-mine (omega arith),
          )

      -- what the others are owed stays
      pub grown-owed : owed_to_others grown p ≡ owed_to_others S p
      grown-owed = sum-cong S.pools (others p (owed_to grown)) (others p (owed_to S)) (λ i h. same i h (ℕ_discrete (i + 1) p))
        where
          same : (i : ℕ) → i < S.pools → Dec (i + 1 ≡ p) → others p (owed_to grown) i ≡ others p (owed_to S) i
          same i h (yes e) = mine p i 0 (owed_to grown i) e ∙ sym (mine p i 0 (owed_to S i) e)
          same i h (no d) = ap (λ (n : ℕ). cond (eqb (i + 1) p) 0 (reserve_of S i - n)) (grown-other i (omega arith) d)

      -- what the pools hold is what they held, but for this one
      pub grown-held : sum_to S.pools (held_by grown) + held_by S (p - 1) ≡ sum_to S.pools (held_by S) + held_by grown (p - 1)
      grown-held =
          sum-differs S.pools (held_by grown) (held_by S) p from to
          (λ i h d. ap (λ (n : ℕ). n + (reserve_of S i - n)) (grown-other i (omega arith) d))

pub grown-good : (stream : List ℕ) (S : Stock) (d : Draw) → Passed stream S d → Good (length stream) (with_drawn S d.pool d.length)
grown-good stream S d q =
    record {
      some = q.state.some;
      few = few;
      reserve-in = q.state.reserve-in;
      drawn-in = λ i h. inside i h (ℕ_discrete (i + 1) p);
      past = q.state.past;
      held_in =
          omega (
            arith,
            grown-held S p L q.from q.to few,
            grown-mine S p L q.from (omega (arith, q.to)),
            held-parts S,
            owed-parts S p q.from q.to,
            q.enough,
            q.state.held_in,
          );
    }
  where
    p : ℕ
    p = d.pool

    L : ℕ
    L = d.length

    few : S.pools ≤ max_pools
    few = q.state.few

    inside : (i : ℕ) → i < max_pools → Dec (i + 1 ≡ p) → drawn_of (with_drawn S p L) i ≤ limit_of S i
    inside i h (yes e) =
        let j : p - 1 ≡ i = omega (arith, e) in
        omega (arith, grown-at S p L i h, mine p i L 0 e, q.within, ap (drawn_of S) j, ap (limit_of S) j)
    inside i h (no e) = omega (arith, grown-other S p L i h e, q.state.drawn-in i h)

-- ---- opening

abbrev pub shares_fit : ℕ → List ℕ → List ℕ → ℕ → Bool
shares_fit pools reserves limits size = all_to pools (λ i. leb (at reserves i) (at limits i)) && leb (sum_to pools (at reserves)) size

module _ (pools : ℕ) (reserves limits : List ℕ) (few : pools ≤ max_pools) (all-reserves : length reserves ≡ pools) (all-limits : length limits ≡ pools) where
  abbrev fresh : Stock
  fresh = opened pools reserves limits

  none-drawn : (i : ℕ) → i < max_pools → drawn_of fresh i ≡ 0
  none-drawn i h = el-zeros max_pools i

  the-reserve : (i : ℕ) → i < max_pools → reserve_of fresh i ≡ at reserves i
  the-reserve i h = at-tab max_pools (at reserves) i h

  the-limit : (i : ℕ) → i < max_pools → limit_of fresh i ≡ at limits i
  the-limit i h = at-tab max_pools (at limits) i h

  held-is : sum_to pools (held_by fresh) ≡ sum_to pools (at reserves)
  held-is = sum-cong pools (held_by fresh) (at reserves) (λ i h. omega (arith, none-drawn i (omega arith), the-reserve i (omega arith)))

  opened-good : (size : ℕ) → 1 ≤ pools → T (shares_fit pools reserves limits size) → Good size fresh
  opened-good size some t =
      let (each, sum) = T_and (all_to pools (λ i. leb (at reserves i) (at limits i))) (leb (sum_to pools (at reserves)) size) t in
      record {
        some = some;
        few = few;
        reserve-in = λ i h. inside each i h (dec_lt i pools);
        drawn-in = λ i h. omega (arith, none-drawn i h);
        past = λ i h l. the-limit i h ∙ get_or-eq_default limits 0 (omega arith);
        held_in = omega (arith, held-is, leb→le (sum_to pools (at reserves)) size sum);
      }
    where
      inside : T (all_to pools (λ i. leb (at reserves i) (at limits i))) → (i : ℕ) → i < max_pools → Dec (i < pools) → reserve_of fresh i ≤ limit_of fresh i
      inside each i h (yes l) =
          omega (arith, the-reserve i h, the-limit i h, leb→le (at reserves i) (at limits i) (all-at pools (λ i. leb (at reserves i) (at limits i)) each i l))
      inside each i h (no l) =
          let z : at reserves i ≡ 0 = get_or-eq_default reserves 0 (omega (arith, l)) in
          omega (arith, the-reserve i h, z)

  pub good-shares : (size : ℕ) → Good size fresh → T (shares_fit pools reserves limits size)
  good-shares size g =
      and_T (all_to pools (λ i. leb (at reserves i) (at limits i))) (leb (sum_to pools (at reserves)) size)
      (all_made pools (λ i. leb (at reserves i) (at limits i)) (λ i l. true→T (leb (at reserves i) (at limits i)) (le-leb (at reserves i) (at limits i)
      (omega (arith, the-reserve i (omega arith), the-limit i (omega arith), g.reserve-in i (omega arith))))))
      (true→T (leb (sum_to pools (at reserves)) size) (le-leb (sum_to pools (at reserves)) size (omega (arith, held-is, g.held_in))))

  -- a stock of which nothing is drawn is sound just where its reserves fit
  pub opened-fits : (size : ℕ) → 1 ≤ pools → fits size fresh ≡ shares_fit pools reserves limits size
  opened-fits size some =
      T-ext (fits size fresh) (shares_fit pools reserves limits size)
      (λ t. good-shares size (good size fresh some few (T→true (fits size fresh) t)))
      (λ t. true→T (fits size fresh) (good-fits size fresh (opened-good size some t)))

pub record Opens (pools : ℕ) (reserves limits stream : List ℕ) : Type 0 where
  pub some : 1 ≤ pools
  pub few : pools ≤ max_pools
  pub all-reserves : length reserves ≡ pools
  pub all-limits : length limits ≡ pools
  pub shares : T (shares_fit pools reserves limits (length stream))

module _ (pools : ℕ) (reserves limits stream : List ℕ) where
  pub opens : accepted ≡ open_code pools reserves limits stream → Opens pools reserves limits stream
  opens e =
      let w = none-holds (open_checks pools reserves limits stream) tt e in
      let (some, few) = one_known max_pools pools (not-false (one_of max_pools pools) w.0) in
      let lengths : Bool = eqb (length reserves) pools && eqb (length limits) pools in
      let (r, l) = T_and (eqb (length reserves) pools) (eqb (length limits) pools) (true→T lengths (not-false lengths w.1.0)) in
      let shares : Bool = shares_fit pools reserves limits (length stream) in
      record {
        some = some;
        few = few;
        all-reserves = eqb→eq (length reserves) pools r;
        all-limits = eqb→eq (length limits) pools l;
        shares = true→T shares (not-false shares w.1.1.0);
      }

  pub good-opened : accepted ≡ open_code pools reserves limits stream → Good (length stream) (opened pools reserves limits)
  good-opened e =
      let o = opens e in
      opened-good pools reserves limits o.few o.all-reserves o.all-limits (length stream) o.some o.shares
